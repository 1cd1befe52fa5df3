-- Number and place determine the refusal: both give it back, the number as the index of its variant. So an outcome determines an answer, one of what there may
-- be nothing of, and an answer on two words.
-- Assumes nothing.
use mathlib.Core.Path.{◌≡◌, refl, sym, ap}
use mathlib.Core.List.{[], ◌∷◌}
use Prim.Native.Nat.{ℕ}
use lib.ListN.{get_or}
use Rattle.refusals.specs.declared.Refusal.{Refusal}
use Rattle.refusals.specs.declared.Refusal.TheVariants.{TooLong, Foreign, NoContinuation, Unfinished, OutputTooShort, NoSuchRow, FaultyLine, EmptyWord, NotABook, AlreadyLive, NotLive, BookFull, RankTooHigh, StopOrSign, ConfusableDigit, TooManySyllables}
use Rattle.std.specs.declared.result.Result.{Result}
use Rattle.std.specs.declared.result.Result.TheVariants.{Ok, Err}
use Rattle.std.specs.declared.option.Option.{Option}
use Rattle.std.specs.declared.option.Option.TheVariants.{Some, None}
use Rattle.refusals.specs.Refusal.{number_of, place_of}
use Rattle.refusals.specs.declared.PairRefusal.{PairRefusal}
use Rattle.refusals.specs.declared.PairRefusal.TheVariants.{First, Second}
use Rattle.refusals.specs.Outcome.{Outcome, accepts, absent, refuses, outcome_by, outcome_of, tells_if_there}
use Rattle.refusals.specs.Pair.{tells, pair_outcome_by}

-- the refusal of a number and a place; `NotLive` stands where there is no refusal, at 0, 9, 10 and 16 to 20
refusal_of : ℕ → ℕ → Refusal
refusal_of n p =
    get_or
    (NotLive ∷ TooLong ∷ Foreign p ∷ NoContinuation p ∷ Unfinished p ∷ OutputTooShort p ∷ NoSuchRow ∷ FaultyLine p ∷ EmptyWord ∷ NotLive ∷ NotLive ∷ NotABook p ∷ AlreadyLive p ∷ NotLive ∷ BookFull p ∷ RankTooHigh p ∷ NotLive ∷ NotLive ∷ NotLive ∷ NotLive ∷ NotLive ∷ StopOrSign p ∷ ConfusableDigit p ∷ TooManySyllables ∷ [])
    n
    NotLive

-- a refusal's own number and place give it back
refusal_of_own : (r : Refusal) → refusal_of (number_of r) (place_of r) ≡ r
unfolding refusal_of
refusal_of_own TooLong = refl
refusal_of_own (Foreign p) = refl
refusal_of_own (NoContinuation p) = refl
refusal_of_own (Unfinished p) = refl
refusal_of_own (OutputTooShort p) = refl
refusal_of_own NoSuchRow = refl
refusal_of_own (FaultyLine p) = refl
refusal_of_own EmptyWord = refl
refusal_of_own (NotABook p) = refl
refusal_of_own (AlreadyLive p) = refl
refusal_of_own NotLive = refl
refusal_of_own (BookFull p) = refl
refusal_of_own (RankTooHigh p) = refl
refusal_of_own (StopOrSign p) = refl
refusal_of_own (ConfusableDigit p) = refl
refusal_of_own TooManySyllables = refl

-- refusals with equal number and equal place are equal
pub number_place_injective : (r s : Refusal) → number_of r ≡ number_of s → place_of r ≡ place_of s → r ≡ s
number_place_injective r s e f = cc (refusal_of_own r, refusal_of_own s)

-- counted answers with equal outcomes are equal
pub counted_once : (a b : Result ℕ Refusal) → outcome_of a ≡ outcome_of b → a ≡ b
counted_once (Ok n) (Ok m) e = cc
counted_once (Ok n) (Err s) e = cc
counted_once (Err r) (Ok m) e = cc
counted_once (Err r) (Err s) e = cc (number_place_injective r s (cc) (cc))

-- answers with equal outcomes are equal, where what they tell is told of one thing alone, and is no refusal
module _ {A : Type 0} (tells : A → Outcome) (once : (a b : A) → tells a ≡ tells b → a ≡ b)
    (no_refusal : (a : A) (number place : ℕ) → tells a ≡ refuses number place → ⊥) where
  pub answer_once : (a b : Result A Refusal) → outcome_by tells a ≡ outcome_by tells b → a ≡ b
  answer_once (Ok a) (Ok b) e = ap Ok (once a b e)
  answer_once (Ok a) (Err s) e = absurd (no_refusal a (number_of s) (place_of s) e)
  answer_once (Err r) (Ok b) e = absurd (no_refusal b (number_of r) (place_of r) (sym e))
  answer_once (Err r) (Err s) e = cc (number_place_injective r s (cc) (cc))

-- what there may be nothing of is told once, where what is there is
module _ {A : Type 0} (tells : A → Outcome) (once : (a b : A) → tells a ≡ tells b → a ≡ b) (there : (a : A) → tells a ≡ absent → ⊥) where
  pub tells_once : (a b : Option A) → tells_if_there tells a ≡ tells_if_there tells b → a ≡ b
  tells_once (Some a) (Some b) e = ap Some (once a b e)
  tells_once (Some a) None e = absurd (there a e)
  tells_once None (Some b) e = absurd (there b (sym e))
  tells_once None None e = refl

  -- and so are answers, where what is there is no refusal
  module _ (no_refusal : (a : A) (number place : ℕ) → tells a ≡ refuses number place → ⊥) where
    told_no_refusal : (a : Option A) (number place : ℕ) → tells_if_there tells a ≡ refuses number place → ⊥
    told_no_refusal (Some a) number place e = no_refusal a number place e
    told_no_refusal None number place e = cc

    pub answer_there_once : (a b : Result (Option A) Refusal) → outcome_by (tells_if_there tells) a ≡ outcome_by (tells_if_there tells) b → a ≡ b
    answer_there_once = answer_once (tells_if_there tells) tells_once told_no_refusal

-- a number is told of one number alone, and is neither nothing nor a refusal
pub accepts_once : (n m : ℕ) → accepts n ≡ accepts m → n ≡ m
accepts_once n m e = cc

pub accepts_not_absent : (n : ℕ) → accepts n ≡ absent → ⊥
accepts_not_absent n e = cc

pub accepts_no_refusal : (n number place : ℕ) → accepts n ≡ refuses number place → ⊥
accepts_no_refusal n number place e = cc

-- so answers of a number, where there may be none, with equal outcomes are equal
pub counted_there_once : (a b : Result (Option ℕ) Refusal) → outcome_by (tells_if_there accepts) a ≡ outcome_by (tells_if_there accepts) b → a ≡ b
counted_there_once = answer_there_once accepts accepts_once accepts_not_absent accepts_no_refusal

-- answers on two words with equal outcomes are equal, where a number stands for one thing alone
module _ {A : Type 0} (number : A → ℕ) (one : (a b : A) → number a ≡ number b → a ≡ b) where
  told_once : (a b : A) → tells (number a) ≡ tells (number b) → a ≡ b
  told_once a b e = one a b (cc)

  pub paired_once : (a b : Result A PairRefusal) → pair_outcome_by number a ≡ pair_outcome_by number b → a ≡ b
  paired_once (Ok a) (Ok b) e = ap Ok (told_once a b e)
  paired_once (Ok a) (Err (First s)) e = cc
  paired_once (Ok a) (Err (Second s)) e = cc
  paired_once (Err (First r)) (Ok b) e = cc
  paired_once (Err (First r)) (Err (First s)) e = cc (number_place_injective r s (cc) (cc))
  paired_once (Err (First r)) (Err (Second s)) e = cc
  paired_once (Err (Second r)) (Ok b) e = cc
  paired_once (Err (Second r)) (Err (First s)) e = cc
  paired_once (Err (Second r)) (Err (Second s)) e = cc (number_place_injective r s (cc) (cc))
