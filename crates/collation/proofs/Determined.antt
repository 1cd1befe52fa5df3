-- Each promise determines its answer: the tests exclude one another in their order, and each of them fixes its place.
-- Assumes nothing.
use mathlib.Core.Path.{◌≡◌, refl, ap, sym, ◌∙◌}
use mathlib.Core.List.{List}
use Prim.Native.Nat.{ℕ}
use native.Mathlib.Omega.{arith}
use Rattle.std.specs.declared.cmp.Ordering.{Ordering}
use Rattle.std.specs.declared.cmp.Ordering.TheVariants.{Less, Equal, Greater}
use Rattle.std.specs.declared.result.Result.TheVariants.{Ok, Err}
use Rattle.refusals.specs.Refusal.{number_of, place_of}
use Rattle.refusals.specs.declared.Refusal.{Refusal}
use Rattle.refusals.specs.Outcome.{refuses}
use Rattle.refusals.specs.Pair.{PairOutcome, pair_outcome_by}
use Rattle.std.specs.declared.result.Result.{Result}
use Rattle.refusals.specs.declared.PairRefusal.{PairRefusal}
use Rattle.refusals.proofs.Laws.{number_place_injective, paired_once}
use Rattle.refusals.proofs.Pairs.{BothPass, pair_once}
use Rattle.normaliser.specs.Normal.{StoreRefusedWith, Stores}
use Rattle.normaliser.proofs.Determined.{store_refused_alike, stored_not_refused, stores_alike}
use Rattle.collation.specs.Keyed.{HasKey, KeyRight}
use Rattle.collation.specs.Comparison.{order_number, Compares, CompareAnswers, CompareRight}
use Rattle.collation.specs.declared.key.Key.{Key}

module _ (first second : List ℕ) where
  both_stored : (k : ℕ) → Compares first second k → BothPass Stores first second
  both_stored k s =
      let o = s.ordered in
      record {
        first_passes = record { count = o.first_count; passes = o.first_stores };
        second_passes = record { count = o.second_count; passes = o.second_stores };
      }

  order_once : (k l : ℕ) → Compares first second k → Compares first second l → k ≡ l
  order_once k l s t =
      let g = s.ordered.first_stores.reads in
      let h = s.ordered.second_stores.reads in
      s.numbered
      ∙ ap order_number
      (s.ordered.by_weights g.row h.row g.gives h.gives ∙ sym (t.ordered.by_weights g.row h.row g.gives h.gives))
      ∙ sym t.numbered

-- the outcome of a comparison is determined
pub outcome_once : (first second : List ℕ) (a b : PairOutcome) → CompareAnswers first second a → CompareAnswers first second b → a ≡ b
outcome_once = pair_once Stores StoreRefusedWith Compares store_refused_alike stored_not_refused both_stored order_once

order_numbered : (a b : Ordering) → order_number a ≡ order_number b → a ≡ b
order_numbered Less Less e = refl
order_numbered Less Equal e = let z : ⊥ = omega arith in absurd z
order_numbered Less Greater e = let z : ⊥ = omega arith in absurd z
order_numbered Equal Less e = let z : ⊥ = omega arith in absurd z
order_numbered Equal Equal e = refl
order_numbered Equal Greater e = let z : ⊥ = omega arith in absurd z
order_numbered Greater Less e = let z : ⊥ = omega arith in absurd z
order_numbered Greater Equal e = let z : ⊥ = omega arith in absurd z
order_numbered Greater Greater e = refl

-- two answers that meet the promise of a comparison are equal
pub compare_determined : (first second : List ℕ) (a b : Result Ordering PairRefusal) → CompareRight first second a → CompareRight first second b → a ≡ b
compare_determined first second a b r s =
    paired_once order_number order_numbered a b
    (outcome_once first second (pair_outcome_by order_number a) (pair_outcome_by order_number b) r s)

-- two keys of a word are equal
key_once : (word : List ℕ) (a b : Key) → HasKey word a → HasKey word b → a ≡ b
key_once word a b r s =
    let counts : a.count ≡ b.count = stores_alike word a.count b.count r.stores s.stores in
    let row = r.stores.reads.row in
    let gives = r.stores.reads.gives in
    let bytes : a.bytes ≡ b.bytes = r.bytes row gives ∙ sym (s.bytes row gives) in
    rw (counts, bytes)

-- two answers that meet the promise of a key are equal
pub key_determined : (word : List ℕ) (a b : Result Key Refusal) → KeyRight word a → KeyRight word b → a ≡ b
key_determined word (Ok a) (Ok b) r s = ap Ok (key_once word a b r s)
key_determined word (Ok a) (Err q) r s = absurd (stored_not_refused word a.count (number_of q) (place_of q) r.stores s)
key_determined word (Err p) (Ok b) r s = absurd (stored_not_refused word b.count (number_of p) (place_of p) s.stores r)
key_determined word (Err p) (Err q) r s =
    let same : refuses (number_of p) (place_of p) ≡ refuses (number_of q) (place_of q) =
    store_refused_alike word (number_of p) (place_of p) (number_of q) (place_of q) r s in
    ap Err (number_place_injective p q (cc) (cc))
