-- What is told of a record in its frame: its count is the number of its word's values, and the bytes copied are the word. In a buffer that is
-- opened, that is what the definition tells of the place.
-- Assumes nothing.
use mathlib.Core.Path.{◌≡◌, refl, sym, ap, ◌∙◌}
use mathlib.Core.Bool.{true, false}
use mathlib.Core.List.{List, ◌++◌, map}
use mathlib.Core.Option.{Option, none, some}
use Prim.Native.Nat.{ℕ, ◌+◌, ◌≤◌, ◌<◌}
use native.Mathlib.Omega.{arith}
use borrow.Author.Tests.{le-leb, lt-leb}
use lib.Dec.{leb}
use lib.ListN.{length, get_or, take, drop}
use Rattle.letters.proofs.Tests.{pick_true, pick_false}
use Rattle.refusals.specs.Outcome.{Outcome, accepts_both, absent, refuses}
use Rattle.entries.specs.Limits.{head_size}
use Rattle.entries.specs.Entries.{Entry, value_of, word_at, entry_at, Entries, entries}
use Rattle.entries.specs.Book.{Opened}
use Rattle.entries.proofs.Records.{Framed, length_word}
use Rattle.entries.proofs.Agree.{opened_is}
use Rattle.book_word.specs.WordAt.{entry_starting, marked_count, word_of_entry, word_of_record, output_of_entry, output_of_record}
use Rattle.book_word.specs.WordAt.{StartRight, ToldRight, WordRight}

module _ (b : List ℕ) (at : ℕ) (f : Framed b at) (count : ℕ) (e : count ≡ get_or b (at + 2) 0) (before : List ℕ) where
  long : count ≡ length (word_at b at)
  long = e ∙ sym (length_word b at f.room)

  pub told_short : length before < count → ToldRight (entry_at b at) before before (refuses 5 count)
  told_short h =
      let no_room = lt-leb (length (word_at b at)) (length before) (omega (arith, long)) in
      record {
        answer = ap (refuses 5) long ∙ sym (pick_false (leb (length (word_at b at)) (length before)) _ _ no_room);
        output = sym (pick_false (leb (length (word_at b at)) (length before)) _ _ no_room);
      }

  pub told_whole : (after : List ℕ) (answer : Outcome) → count ≤ length before
      → after ≡ map value_of (take count (drop (at + head_size) b)) ++ drop count before
      → answer ≡ accepts_both (entry_at b at).stock (marked_count (entry_at b at).live count)
      → ToldRight (entry_at b at) before after answer
  told_whole after answer h p q =
      let room = le-leb (length (word_at b at)) (length before) (omega (arith, long)) in
      record {
        answer =
            q ∙ ap (λ (n : ℕ). accepts_both (entry_at b at).stock (marked_count (entry_at b at).live n)) long
            ∙ sym (pick_true (leb (length (word_at b at)) (length before)) _ _ room);
        output =
            p ∙ (λ i. map value_of (take (e i) (drop (at + head_size) b)) ++ drop (long i) before)
            ∙ sym (pick_true (leb (length (word_at b at)) (length before)) _ _ room);
      }

-- a buffer that is opened: what is told of the record that is read at the place, where one starts there
module _ (b : List ℕ) (free : ℕ) (o : Opened b free) (start : ℕ) (before : List ℕ) where
  told_of : (x : Option Entry) → entry_starting o.list start ≡ x → word_of_entry x (length before) ≡ word_of_record (entries b) start (length before)
  told_of x e =
      sym (ap (λ (y : Entries). word_of_record y start (length before)) (opened_is b free o) ∙ ap (λ (y : Option Entry). word_of_entry y (length before)) e)

  output_of : (x : Option Entry) → entry_starting o.list start ≡ x → output_of_entry x before ≡ output_of_record (entries b) start before
  output_of x e =
      sym (ap (λ (y : Entries). output_of_record y start before) (opened_is b free o) ∙ ap (λ (y : Option Entry). output_of_entry y before) e)

  pub word_told : (after : List ℕ) (answer : Outcome) → StartRight b start true → ToldRight (entry_at b start) before after answer
      → WordRight b start before after answer
  word_told after answer s t =
      let e = s.entry o.list o.is_book ∙ pick_true true (some (entry_at b start)) none refl in
      record {
        answer = t.answer ∙ told_of (some (entry_at b start)) e;
        output = t.output ∙ output_of (some (entry_at b start)) e;
      }

  pub word_missing : StartRight b start false → WordRight b start before before absent
  word_missing s =
      let e = s.entry o.list o.is_book ∙ pick_false false (some (entry_at b start)) none refl in
      record { answer = told_of none e; output = output_of none e }
