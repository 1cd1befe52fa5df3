-- What spelling out tells is told of one pair of counts alone, and is no refusal; so answers with equal outcomes are equal.
-- Assumes nothing.
use Rattle.std.proofs.Common.{◌≡◌, ℕ}
use Rattle.std.specs.Prelude.{Result}
use Rattle.refusals.specs.declared.Refusal.{Refusal}
use Rattle.refusals.specs.Outcome.{refuses, outcome_by}
use Rattle.refusals.proofs.Laws.{answer_once}
use Rattle.spelling.specs.declared.Spelled.{Spelled}
use Rattle.spelling.specs.Spell.{spelled_told}

pub spelled_once : (first second : Spelled) → spelled_told first ≡ spelled_told second → first ≡ second
spelled_once first second e =
    let values : first.values ≡ second.values = cc in
    let syllables : first.syllables ≡ second.syllables = cc in
    λ i. record { values = values i; syllables = syllables i }

pub spelled_no_refusal : (spelled : Spelled) (number place : ℕ) → spelled_told spelled ≡ refuses number place → ⊥
spelled_no_refusal spelled number place e = cc

pub spelled_answer_once : (first second : Result Spelled Refusal) → outcome_by spelled_told first ≡ outcome_by spelled_told second → first ≡ second
spelled_answer_once = answer_once spelled_told spelled_once spelled_no_refusal
