-- The word of the record that starts at a place: what is told of the record, and each value of the output afterwards.
-- Assumes nothing.
use Rattle.std.specs.Prelude.{◌≡◌, Bool, true, false, List, [], ◌∷◌, ◌++◌, ℕ, ◌+◌, ◌≤◌, T, eqb, leb, length, drop}
use Rattle.std.proofs.Math.Option.{Option, none, some}
use Rattle.std.specs.Prelude.{Result, Ok, Err, Some, None}
use Rattle.std.specs.declared.option.Option.{Option as Perhaps}
use Rattle.letters.specs.Choice.{pick}
use Rattle.formula.specs.Limits.{limit}
use Rattle.refusals.specs.declared.Refusal.{Refusal}
use Rattle.refusals.specs.Outcome.{Outcome, accepts_both, absent, refuses}
use Rattle.entries.specs.Entries.{Entry, entry_at, is_framed, Entries, book, wrong, entries}
use Rattle.entries.specs.Book.{IsBook}
use Rattle.book_word.specs.declared.RecordTold.{RecordTold}

-- the entry, live or removed, that starts at a place
unfoldable pub entry_starting : List Entry → ℕ → Option Entry
entry_starting [] start = none
entry_starting (entry ∷ entries) start = pick (eqb entry.start start) (some entry) (entry_starting entries start)

-- one number for how many values a word has, in its low byte, and above that for whether its record is live
abbrev pub marked_count : Bool → ℕ → ℕ
marked_count true count = count + 256
marked_count false count = count

-- what is told of a record comes to two numbers: its stock number, and the one for how many values its word has and whether it is live
abbrev pub record_told : RecordTold → Outcome
record_told told = accepts_both told.stock (marked_count told.live told.count)

-- a word has no more values than a word may have, so the one number tells both
abbrev pub Few : RecordTold → Type 0
Few told = told.count ≤ limit

abbrev pub FewTold : Result (Perhaps RecordTold) Refusal → Type 0
FewTold (Ok (Some told)) = Few told
FewTold (Ok None) = Unit {0}
FewTold (Err refusal) = Unit {0}

-- what is told of an entry: its stock number, how many values its word has, and whether it is live
abbrev pub entry_told : Entry → Outcome
entry_told entry = accepts_both entry.stock (marked_count entry.live (length entry.word))

-- the same where `room` values can be written; 5: "lent output too short", with the "values .. needed". That no record starts there is no refusal
abbrev pub word_of_entry : Option Entry → ℕ → Outcome
word_of_entry none room = absent
word_of_entry (some entry) room = pick (leb (length entry.word) room) (entry_told entry) (refuses 5 (length entry.word))

-- 11: "not a book", or what is told of the entry that starts at the place
abbrev pub word_of_record : Entries → ℕ → ℕ → Outcome
word_of_record (book list free) start room = word_of_entry (entry_starting list start) room
word_of_record (wrong place) start room = refuses 11 place

-- "writes what it needs at the front of an output, the rest untouched"; nothing where there is no entry or no room
abbrev pub output_of_entry : Option Entry → List ℕ → List ℕ
output_of_entry none before = before
output_of_entry (some entry) before = pick (leb (length entry.word) (length before)) (entry.word ++ drop (length entry.word) before) before

-- the output with the word of the record that starts at the place
abbrev pub output_of_record : Entries → ℕ → List ℕ → List ℕ
output_of_record (book list free) start before = output_of_entry (entry_starting list start) before
output_of_record (wrong place) start before = before

-- the promise of `word_at`, with the output as it was and as it is
pub record WordRight (bytes : List ℕ) (start : ℕ) (before after : List ℕ) (outcome : Outcome) : Type 0 where
  pub answer : outcome ≡ word_of_record (entries bytes) start (length before)
  pub output : after ≡ output_of_record (entries bytes) start before

-- the same of an entry; an inner contract cites it
pub record ToldRight (entry : Entry) (before after : List ℕ) (outcome : Outcome) : Type 0 where
  pub answer : outcome ≡ word_of_entry (some entry) (length before)
  pub output : after ≡ output_of_entry (some entry) before

-- whether an entry of the book starts at a place: then it is the one that is read there; an inner contract cites it
pub record StartRight (bytes : List ℕ) (start : ℕ) (answer : Bool) : Type 0 where
  pub entry : (list : List Entry) → IsBook bytes list → entry_starting list start ≡ pick answer (some (entry_at bytes start)) none
  pub framed : T answer → T (is_framed bytes start)
