-- A record that fits behind the last one is planned there. `behind_last` is the set of rules by which the check finds it.
-- Assumes nothing.
use mathlib.Core.Path.{◌≡◌, ap}
use mathlib.Core.List.{List}
use Prim.Native.Nat.{ℕ, ◌-◌, ◌≤◌}
use native.Mathlib.Omega.{arith}
use lib.ListN.{length, length-append}
use Rattle.entries.specs.Entries.{Entry}
use Rattle.entries.specs.Book.{end_of, IsBook, Opened}
use Rattle.entries.specs.Limits.{book_limit}
use Rattle.entries.specs.Tidy.{live_length}
use Rattle.entries.specs.Outcome.{placing}
use Rattle.entries.proofs.Agree.{only}
use Rattle.entries.proofs.Records.{end_length}
use Rattle.entries.proofs.Walk.{free_within}
use Rattle.entries.proofs.Tidied.{live_before_lem}
use Rattle.std.specs.Prelude.{Ok}
use Rattle.planning.specs.Plan.{plan_outcome}
use Rattle.planning.specs.declared.Plan.TheVariants.{Behind}
use Rattle.planning.proofs.Plans.{fits}

-- the live records take no more than all records
pub live_within : {book : List ℕ} {free : ℕ} → Opened book free → (list : List Entry) → IsBook book list → live_length list ≤ free
live_within {book} o list k = omega (arith, o.end, live_before_lem list, ap (end_of 0) (only book list o.list k o.is_book))

pub behind_answer : (book : List ℕ) (free size : ℕ) → Opened book free → size ≤ length book - free → (list : List Entry) → IsBook book list
    → plan_outcome (Ok (Behind free)) ≡ placing list free (length book) size
behind_answer book free size o h list k =
    let w = free_within book free o in fits list free (length book) size (live_within o list k) (omega arith)

pub book_short : (book : List ℕ) (free : ℕ) → Opened book free → length book ≤ book_limit
book_short book free o = o.is_book.short

pub ruleset behind_last = (behind_answer, book_short, end_length, length-append)
