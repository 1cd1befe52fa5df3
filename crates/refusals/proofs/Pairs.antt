-- The promise of a call on two words is met by one answer only, where each word is refused in one way or passes, and one thing is told of two that pass.
-- Assumes nothing.
use mathlib.Core.Path.{◌≡◌, ap}
use mathlib.Core.List.{List}
use Prim.Native.Nat.{ℕ}
use Rattle.refusals.specs.Outcome.{refuses}
use Rattle.refusals.specs.Pair.{PairOutcome, tells, first_refuses, second_refuses, PairAnswers}

-- a word passes each test
pub record Passing (Passes : List ℕ → ℕ → Type 0) (word : List ℕ) : Type 0 where
  pub count : ℕ
  pub passes : Passes word count

-- both words do
pub record BothPass (Passes : List ℕ → ℕ → Type 0) (first second : List ℕ) : Type 0 where
  pub first_passes : Passing Passes first
  pub second_passes : Passing Passes second

module _ (Passes : List ℕ → ℕ → Type 0) (Refuses : List ℕ → ℕ → ℕ → Type 0) (Tells : List ℕ → List ℕ → ℕ → Type 0)
    (alike : (word : List ℕ) (n p m q : ℕ) → Refuses word n p → Refuses word m q → refuses n p ≡ refuses m q)
    (either : (word : List ℕ) (k n p : ℕ) → Passes word k → Refuses word n p → ⊥)
    (both : (first second : List ℕ) (k : ℕ) → Tells first second k → BothPass Passes first second)
    (one : (first second : List ℕ) (k l : ℕ) → Tells first second k → Tells first second l → k ≡ l) (first second : List ℕ) where
  told_first : (k n p : ℕ) → Tells first second k → Refuses first n p → ⊥
  told_first k n p s r = let b = (both first second k s).first_passes in either first b.count n p b.passes r

  told_second : (k n p : ℕ) → Tells first second k → Refuses second n p → ⊥
  told_second k n p s r = let b = (both first second k s).second_passes in either second b.count n p b.passes r

  pub pair_once : (a b : PairOutcome) → PairAnswers Passes Refuses Tells first second a → PairAnswers Passes Refuses Tells first second b → a ≡ b
  pair_once (tells k) (tells l) s t = ap tells (one first second k l s t)
  pair_once (tells k) (first_refuses m q) s t = absurd (told_first k m q s t)
  pair_once (tells k) (second_refuses m q) s t = absurd (told_second k m q s t.second_refused)
  pair_once (first_refuses n p) (tells l) s t = absurd (told_first l n p t s)
  pair_once (first_refuses n p) (first_refuses m q) s t = let e = alike first n p m q s t in cc
  pair_once (first_refuses n p) (second_refuses m q) s t = absurd (either first t.first_count n p t.first_passes s)
  pair_once (second_refuses n p) (tells l) s t = absurd (told_second l n p t s.second_refused)
  pair_once (second_refuses n p) (first_refuses m q) s t = absurd (either first s.first_count m q s.first_passes t)
  pair_once (second_refuses n p) (second_refuses m q) s t = let e = alike second n p m q s.second_refused t.second_refused in cc
