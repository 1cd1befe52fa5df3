-- What is told of a live record is told of one record alone, and is no refusal; so answers with equal outcomes are equal.
-- Assumes nothing.
use Rattle.std.proofs.Common.{◌≡◌, ℕ, arith}
use Rattle.std.specs.Prelude.{Result}
use Rattle.refusals.specs.declared.Refusal.{Refusal}
use Rattle.refusals.specs.Outcome.{refuses, outcome_by}
use Rattle.refusals.proofs.Laws.{answer_once}
use Rattle.lookup.specs.declared.Found.{Found}
use Rattle.lookup.specs.Look.{found_told}

pub found_once : (first second : Found) → found_told first ≡ found_told second → first ≡ second
found_once first second e =
    let stock : first.stock ≡ second.stock = cc in
    let start : first.start ≡ second.start = cc in
    λ i. record { stock = stock i; start = start i }

pub found_no_refusal : (found : Found) (number place : ℕ) → found_told found ≡ refuses number place → ⊥
found_no_refusal found number place e = let z : ◌≡◌ {A = ℕ} 0 1 = cc in omega (arith, z)

pub found_answer_once : (first second : Result Found Refusal) → outcome_by found_told first ≡ outcome_by found_told second → first ≡ second
found_answer_once = answer_once found_told found_once found_no_refusal
