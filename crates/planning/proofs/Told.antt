-- What add tells is told of one record alone and is no refusal, so answers with equal outcomes are equal; and its preview tells beside it what the answer
-- has: the start, and whether add would tidy.
-- Assumes nothing.
use Rattle.std.proofs.Common.{◌≡◌, refl, Bool, true, false, ℕ, eqb, Ok, Err, arith}
use Rattle.std.specs.Prelude.{Result}
use Rattle.refusals.specs.declared.Refusal.{Refusal}
use Rattle.refusals.specs.Outcome.{Outcome, refuses, outcome_by}
use Rattle.refusals.proofs.Laws.{answer_once}
use Rattle.planning.specs.declared.Added.{Added}
use Rattle.planning.specs.Plan.{added_told, tidied_told}
use Rattle.planning.specs.Preview.{PreviewOutcome, preview_of, preview_outcome}

tidied_once : (first second : Bool) → tidied_told first ≡ tidied_told second → first ≡ second
tidied_once true true e = refl
tidied_once true false e = let z : ⊥ = omega (arith, e) in absurd z
tidied_once false true e = let z : ⊥ = omega (arith, e) in absurd z
tidied_once false false e = refl

pub added_once : (first second : Added) → added_told first ≡ added_told second → first ≡ second
added_once first second e =
    let start : first.start ≡ second.start = cc in
    let told : tidied_told first.tidied ≡ tidied_told second.tidied = cc in
    let tidied = tidied_once first.tidied second.tidied told in
    λ i. record { start = start i; tidied = tidied i }

pub added_no_refusal : (added : Added) (number place : ℕ) → added_told added ≡ refuses number place → ⊥
added_no_refusal added number place e = let z : ◌≡◌ {A = ℕ} 0 1 = cc in omega (arith, z)

pub added_answer_once : (first second : Result Added Refusal) → outcome_by added_told first ≡ outcome_by added_told second → first ≡ second
added_answer_once = answer_once added_told added_once added_no_refusal

tidies_told : (tidied : Bool) → tidied ≡ eqb (tidied_told tidied) 1
tidies_told true = refl
tidies_told false = refl

shown : (answer : Outcome) (start : ℕ) (first second : Bool) → first ≡ second
    → ◌≡◌ {A = PreviewOutcome} (record { answer = answer; start = start; tidies = first }) (record { answer = answer; start = start; tidies = second })
shown answer start first second e = λ i. record { answer = answer; start = start; tidies = e i }

pub preview_told : (preview : Result Added Refusal) → preview_outcome preview ≡ preview_of (outcome_by added_told preview)
preview_told (Ok added) = shown (added_told added) added.start _ _ (tidies_told added.tidied)
preview_told (Err refusal) = refl
