-- What is told of a record is told of one record alone: the number for its values and for whether it is live tells both, since a word has few values.
-- Assumes nothing.
use Rattle.std.proofs.Common.{◌≡◌, ap, refl, Bool, true, false, ℕ, ◌≤◌, Ok, Err, Some, None, arith}
use Rattle.std.specs.Prelude.{Result}
use Rattle.std.specs.declared.option.Option.{Option}
use Rattle.formula.specs.Limits.{limit}
use Rattle.refusals.specs.declared.Refusal.{Refusal}
use Rattle.refusals.specs.Outcome.{outcome_by, tells_if_there}
use Rattle.refusals.proofs.Laws.{number_place_injective}
use Rattle.book_word.specs.declared.RecordTold.{RecordTold}
use Rattle.book_word.specs.WordAt.{marked_count, record_told, Few, FewTold}

marked_once : (s t : Bool) (n m : ℕ) → n ≤ limit → m ≤ limit → marked_count s n ≡ marked_count t m → (s ≡ t) × (n ≡ m)
marked_once true true n m h k e = (refl, omega (arith, e))
marked_once true false n m h k e = let z : ⊥ = omega (arith, h, k, e) in absurd z
marked_once false true n m h k e = let z : ⊥ = omega (arith, h, k, e) in absurd z
marked_once false false n m h k e = (refl, e)

record_once : (first second : RecordTold) → Few first → Few second → record_told first ≡ record_told second → first ≡ second
record_once first second h k e =
    let stock : first.stock ≡ second.stock = cc in
    let marked : marked_count first.live first.count ≡ marked_count second.live second.count = cc in
    let both = marked_once first.live second.live first.count second.count h k marked in
    λ i. record { stock = stock i; count = both.1 i; live = both.0 i }

pub word_once : (first second : Result (Option RecordTold) Refusal) → FewTold first → FewTold second
    → outcome_by (tells_if_there record_told) first ≡ outcome_by (tells_if_there record_told) second → first ≡ second
word_once (Ok (Some a)) (Ok (Some b)) h k e = ap (λ (r : RecordTold). Ok (Some r)) (record_once a b h k e)
word_once (Ok (Some a)) (Ok None) h k e = let z : ◌≡◌ {A = ℕ} 0 1 = cc in let y : ⊥ = omega (arith, z) in absurd y
word_once (Ok (Some a)) (Err s) h k e = let z : ◌≡◌ {A = ℕ} 0 1 = cc in let y : ⊥ = omega (arith, z) in absurd y
word_once (Ok None) (Ok (Some b)) h k e = let z : ◌≡◌ {A = ℕ} 0 1 = cc in let y : ⊥ = omega (arith, z) in absurd y
word_once (Ok None) (Ok None) h k e = refl
word_once (Ok None) (Err s) h k e = let z : ◌≡◌ {A = ℕ} 0 1 = cc in let y : ⊥ = omega (arith, z) in absurd y
word_once (Err r) (Ok (Some b)) h k e = let z : ◌≡◌ {A = ℕ} 0 1 = cc in let y : ⊥ = omega (arith, z) in absurd y
word_once (Err r) (Ok None) h k e = let z : ◌≡◌ {A = ℕ} 0 1 = cc in let y : ⊥ = omega (arith, z) in absurd y
word_once (Err r) (Err s) h k e = ap Err (number_place_injective r s (cc) (cc))
