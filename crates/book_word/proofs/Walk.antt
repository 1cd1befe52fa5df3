-- A pass over the records of a book that searches for the one that starts at a place.
-- Assumes nothing.
use mathlib.Core.Path.{◌≡◌, refl, sym, ap, ◌∙◌}
use mathlib.Core.Bool.{true, false}
use mathlib.Core.List.{List}
use mathlib.Core.Option.{none, some}
use Prim.Native.Nat.{ℕ, ◌≤◌}
use borrow.Author.Tests.{eq-eqb}
use lib.Dec.{eqb}
use Rattle.letters.proofs.Tests.{pick_true, pick_false}
use Rattle.entries.specs.Entries.{Entry, entry_at}
use Rattle.entries.proofs.Records.{framed_is}
use Rattle.entries.proofs.Agree.{only}
use Rattle.entries.proofs.Walk.{Turn}
use Rattle.lookup.proofs.Walk.{Searches, Ahead, hit, done}
use Rattle.book_word.specs.WordAt.{entry_starting, StartRight}

pub starting_searches : (start : ℕ) → Searches (λ e. eqb e.start start) (λ l. entry_starting l start)
unfolding entry_starting
starting_searches start = record { nothing = refl; first = λ entry list. refl }

module _ (b : List ℕ) (at free start : ℕ) (a : Ahead (λ l. entry_starting l start) b at free) where
  -- the record at the place is the one
  pub start_met : Turn b at free a.list a.seen a.rest → at ≡ start → StartRight b start true
  start_met t e =
      record {
        entry = λ list k.
            ap (λ (l : List Entry). entry_starting l start) (only b list a.list k a.walk.is_book)
            ∙ hit (starting_searches start) b at free a t (eq-eqb at start e) ∙ ap (λ (p : ℕ). some (entry_at b p)) e
            ∙ sym (pick_true true (some (entry_at b start)) none refl);
        framed = λ _. rw e at (framed_is b at t.stands.frame);
      }

  -- all are passed
  pub start_missed : free ≤ at → StartRight b start false
  start_missed h =
      record {
        entry = λ list k.
            ap (λ (l : List Entry). entry_starting l start) (only b list a.list k a.walk.is_book)
            ∙ done (starting_searches start) b at free a h ∙ sym (pick_false false (some (entry_at b start)) none refl);
        framed = λ t. absurd t;
      }
