-- What is told of a part is told of one part alone, and is neither nothing nor a refusal; so answers with equal outcomes are equal.
-- Assumes nothing.
use Rattle.std.proofs.Common.{◌≡◌, ℕ}
use Rattle.std.specs.Prelude.{Result}
use Rattle.std.specs.declared.option.Option.{Option}
use Rattle.refusals.specs.declared.Refusal.{Refusal}
use Rattle.refusals.specs.Outcome.{absent, refuses, outcome_by, tells_if_there}
use Rattle.refusals.proofs.Laws.{answer_there_once}
use Rattle.reading.specs.declared.parts.Part.{Part}
use Rattle.reading.specs.Parts.{part_told}

pub part_once : (first second : Part) → part_told first ≡ part_told second → first ≡ second
part_once first second e =
    let place : first.place ≡ second.place = cc in
    let size : first.size ≡ second.size = cc in
    λ i. record { place = place i; size = size i }

pub part_not_absent : (part : Part) → part_told part ≡ absent → ⊥
part_not_absent part e = cc

pub part_no_refusal : (part : Part) (number place : ℕ) → part_told part ≡ refuses number place → ⊥
part_no_refusal part number place e = cc

pub part_answer_once : (first second : Result (Option Part) Refusal)
    → outcome_by (tells_if_there part_told) first ≡ outcome_by (tells_if_there part_told) second → first ≡ second
part_answer_once = answer_there_once part_told part_once part_not_absent part_no_refusal
