-- What the plan of an add comes to, and what is known of the buffer where it has a place. Inner contracts cite it. Assumes nothing.
use Rattle.std.specs.Prelude.{◌≡◌, Bool, true, false, List, ℕ, ◌+◌, length, Result, Ok, Err}
use Rattle.refusals.specs.declared.Refusal.{Refusal}
use Rattle.refusals.specs.Outcome.{Outcome, accepts, accepts_both, absent, refuses, outcome_by}
use Rattle.entries.specs.Limits.{head_size}
use Rattle.entries.specs.Entries.{Entry, entries}
use Rattle.entries.specs.Book.{IsBook, Opened, Within}
use Rattle.entries.specs.Outcome.{puts, tidies_and_puts, placing, add_of}
use Rattle.planning.specs.declared.Added.{Added}
use Rattle.planning.specs.declared.Plan.{Plan}
use Rattle.planning.specs.declared.Plan.TheVariants.{Behind, Tidied}

-- the second number of add: 1 where it tidied
abbrev pub tidied_told : Bool → ℕ
tidied_told true = 1
tidied_told false = 0

-- what add tells of a record: its start, and whether the book was tidied
abbrev pub added_told : Added → Outcome
added_told added = accepts_both added.start (tidied_told added.tidied)

-- what add tells by the plan
abbrev pub plan_told : Plan → Outcome
plan_told (Behind start) = puts start
plan_told (Tidied start free) = tidies_and_puts start

-- what add answers where it has a plan, or none
abbrev pub plan_outcome : Result Plan Refusal → Outcome
plan_outcome = outcome_by plan_told

-- there is room for the record, and a buffer that is to be tidied is a book
abbrev pub PlanWithin : List ℕ → ℕ → Plan → Type 0
PlanWithin bytes size (Behind start) = Within bytes start size
PlanWithin bytes size (Tidied start free) = Opened bytes free × Within bytes start size

abbrev pub PlannedWithin : List ℕ → ℕ → Result Plan Refusal → Type 0
PlannedWithin bytes size (Ok plan) = PlanWithin bytes size plan
PlannedWithin bytes size (Err refusal) = Unit {0}

-- the plan for a record of `size` bytes
pub record RoomRight (bytes : List ℕ) (free size : ℕ) (plan : Result Plan Refusal) : Type 0 where
  pub answer : (list : List Entry) → IsBook bytes list → plan_outcome plan ≡ placing list free (length bytes) size
  pub within : PlannedWithin bytes size plan

-- the plan for a word
pub record PlanRight (bytes word : List ℕ) (plan : Result Plan Refusal) : Type 0 where
  pub answer : plan_outcome plan ≡ add_of (entries bytes) (length bytes) word
  pub within : PlannedWithin bytes (head_size + length word) plan

-- the seven bytes at the start of a record
abbrev pub PlacedWithin : List ℕ → Outcome → Type 0
PlacedWithin bytes (accepts start) = Within bytes start head_size
PlacedWithin bytes (accepts_both stock start) = Unit {0}
PlacedWithin bytes absent = Unit {0}
PlacedWithin bytes (refuses number place) = Unit {0}

pub record PlacedRight (bytes : List ℕ) (right outcome : Outcome) : Type 0 where
  pub answer : outcome ≡ right
  pub within : PlacedWithin bytes outcome
