-- What is sorted from a book is the answer of the search.
-- Assumes nothing.
use mathlib.Core.Path.{refl, sym, subst}
use mathlib.Core.Bool.{Bool}
use mathlib.Core.List.{List}
use Prim.Native.Nat.{ℕ}
use Rattle.refusals.specs.Outcome.{Outcome, refuses}
use Rattle.refusals.specs.Output.{refused}
use Rattle.refusals.specs.Refusal.{number_of, place_of}
use Rattle.refusals.specs.declared.Refusal.{Refusal}
use Rattle.book_check.specs.Opening.{NoBook}
use Rattle.refusals.proofs.Putting.{puts_writes}
use Rattle.entries.specs.Entries.{Entry}
use Rattle.entries.specs.Book.{Opened}
use Rattle.entries.proofs.Agree.{opened_is}
use Rattle.sorting.specs.Passing.{starts_passing, PutsPassing}
use Rattle.ranking.specs.Whole.{NotABook, not_a_book, BookOf}
use Rattle.prefix_search.specs.Prefix.{ListsPassing}

pub listed : {bytes : List ℕ} {free : ℕ} → Opened bytes free → (test : Entry → Bool) (starts after : List ℕ) (outcome : Outcome)
    → PutsPassing bytes test starts after outcome → ListsPassing bytes test starts after outcome
listed {bytes} {free} o test starts after outcome p =
    puts_writes (NotABook bytes) (BookOf bytes) (starts_passing test) starts after o.list (record { free = free; is = opened_is bytes free o }) _ refl
    outcome (p o.list o.is_book)

-- a buffer that is no book
pub no_book : {bytes : List ℕ} {refusal : Refusal} (test : Entry → Bool) (starts : List ℕ) → NoBook bytes refusal
    → ListsPassing bytes test starts starts (refuses (number_of refusal) (place_of refusal))
no_book {bytes} test starts n =
    subst (λ (r : Refusal). ListsPassing bytes test starts starts (refuses (number_of r) (place_of r))) (sym n.is) (refused (not_a_book n.no_book) refl)
