-- Document 02, "See an add before doing it": what a preview tells, by the answer that add gives. Assumes nothing.
use Rattle.std.specs.Prelude.{Bool, false, ℕ, eqb}
use Rattle.std.specs.Prelude.{Result, Ok, Err}
use Rattle.refusals.specs.declared.Refusal.{Refusal}
use Rattle.refusals.specs.Outcome.{Outcome, accepts, accepts_both, absent, refuses, outcome_by}
use Rattle.planning.specs.declared.Added.{Added}
use Rattle.planning.specs.Plan.{added_told}

-- "the answer that add gives on a copy of the book, refusal and place included, and the byte where the record would start"; "whether the add would tidy"
pub record PreviewOutcome : Type 0 where
  pub answer : Outcome
  pub start : ℕ
  pub tidies : Bool

-- "the byte where the record would start"; "Where add refuses, the start is 0". Add gives two numbers or a refusal, and no other answer
abbrev pub start_of : Outcome → ℕ
start_of (accepts number) = 0
start_of (accepts_both start tidies) = start
start_of absent = 0
start_of (refuses number place) = 0

-- "It tells also whether the add would tidy": the second number of add is 1 then. "Where add refuses, .. the preview says that it wouldn't tidy"
abbrev pub tidies_of : Outcome → Bool
tidies_of (accepts number) = false
tidies_of (accepts_both start tidies) = eqb tidies 1
tidies_of absent = false
tidies_of (refuses number place) = false

-- the preview of an add that answers so
abbrev pub preview_of : Outcome → PreviewOutcome
preview_of answer = record { answer = answer; start = start_of answer; tidies = tidies_of answer }

-- a preview gives the answer of add; the start in it, or 0 where add refuses
abbrev pub start_shown : Result Added Refusal → ℕ
start_shown (Ok added) = added.start
start_shown (Err refusal) = 0

-- whether add would tidy; it would not where it refuses
abbrev pub tidies_shown : Result Added Refusal → Bool
tidies_shown (Ok added) = added.tidied
tidies_shown (Err refusal) = false

-- what a preview comes to
abbrev pub preview_outcome : Result Added Refusal → PreviewOutcome
preview_outcome preview = record { answer = outcome_by added_told preview; start = start_shown preview; tidies = tidies_shown preview }
