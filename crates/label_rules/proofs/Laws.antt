-- What the rules answer, test by test: each comes where those before it pass, and each answer tells which of them failed first.
-- Assumes nothing.
use mathlib.Core.Path.{◌≡◌, sym, ◌∙◌}
use mathlib.Core.List.{List}
use Prim.Native.Nat.{ℕ, ◌≤◌, ◌<◌}
use native.Mathlib.Decide.{dec_lt}
use native.Mathlib.Omega.{arith}
use borrow.Author.Tests.{lt-ltb, le-ltb}
use lib.ListN.{length}
use Rattle.letters.proofs.Tests.{pick_true, pick_false}
use Rattle.formula.specs.Limits.{label_limit}
use Rattle.refusals.specs.Outcome.{Outcome, accepts, refuses}
use Rattle.label_rules.specs.Rules.{first_stop_or_sign, first_confusable, label_of}

module _ (word : List ℕ) (syllables : ℕ) where
  pub by_sign : first_stop_or_sign word < length word → label_of word syllables ≡ refuses 21 (first_stop_or_sign word)
  unfolding label_of
  by_sign h = pick_true _ _ _ (lt-ltb _ _ h)

  module _ (no_sign : length word ≤ first_stop_or_sign word) where
    pub by_digit : first_confusable word < length word → label_of word syllables ≡ refuses 22 (first_confusable word)
    unfolding label_of
    by_digit h = pick_false _ _ _ (le-ltb _ _ no_sign) ∙ pick_true _ _ _ (lt-ltb _ _ h)

    module _ (no_digit : length word ≤ first_confusable word) where
      pub by_count : label_limit < syllables → label_of word syllables ≡ refuses 23 label_limit
      unfolding label_of
      by_count h = pick_false _ _ _ (le-ltb _ _ no_sign) ∙ pick_false _ _ _ (le-ltb _ _ no_digit) ∙ pick_true _ _ _ (lt-ltb _ _ h)

      pub by_none : syllables ≤ label_limit → label_of word syllables ≡ accepts syllables
      unfolding label_of
      by_none h = pick_false _ _ _ (le-ltb _ _ no_sign) ∙ pick_false _ _ _ (le-ltb _ _ no_digit) ∙ pick_false _ _ _ (le-ltb _ _ h)

  -- the answers, each with the first rule that is broken
  pub data Ruled : Outcome → Type 0 where
    has_sign : first_stop_or_sign word < length word → Ruled (refuses 21 (first_stop_or_sign word))
    has_digit : length word ≤ first_stop_or_sign word → first_confusable word < length word → Ruled (refuses 22 (first_confusable word))
    has_many : length word ≤ first_stop_or_sign word → length word ≤ first_confusable word → label_limit < syllables → Ruled (refuses 23 label_limit)
    meets_all : length word ≤ first_stop_or_sign word → length word ≤ first_confusable word → syllables ≤ label_limit → Ruled (accepts syllables)

  pub ruled : Ruled (label_of word syllables)
  ruled = signs (dec_lt (first_stop_or_sign word) (length word))
    where
      counts : length word ≤ first_stop_or_sign word → length word ≤ first_confusable word → Dec (label_limit < syllables) → Ruled (label_of word syllables)
      counts s d (yes h) = rw (by_count s d h) (has_many s d h)
      counts s d (no h) = let few : syllables ≤ label_limit = omega arith in rw (by_none s d few) (meets_all s d few)

      digits : length word ≤ first_stop_or_sign word → Dec (first_confusable word < length word) → Ruled (label_of word syllables)
      digits s (yes h) = rw (by_digit s h) (has_digit s h)
      digits s (no h) = counts s (omega arith) (dec_lt label_limit syllables)

      signs : Dec (first_stop_or_sign word < length word) → Ruled (label_of word syllables)
      signs (yes h) = rw (by_sign h) (has_sign h)
      signs (no h) = digits (omega arith) (dec_lt (first_confusable word) (length word))

  -- what is accepted meets each rule
  pub record Meets (n : ℕ) : Type 0 where
    pub counted : n ≡ syllables
    pub no_sign : length word ≤ first_stop_or_sign word
    pub no_digit : length word ≤ first_confusable word
    pub few : n ≤ label_limit

  pub accepted_meets : (n : ℕ) → label_of word syllables ≡ accepts n → Meets n
  accepted_meets n e = go (label_of word syllables) e ruled
    where
      go : (o : Outcome) → o ≡ accepts n → Ruled o → Meets n
      go o f (has_sign h) = let z : ◌≡◌ {A = ℕ} 0 1 = cc in let y : ⊥ = omega arith in absurd y
      go o f (has_digit s h) = let z : ◌≡◌ {A = ℕ} 0 1 = cc in let y : ⊥ = omega arith in absurd y
      go o f (has_many s d h) = let z : ◌≡◌ {A = ℕ} 0 1 = cc in let y : ⊥ = omega arith in absurd y
      go o f (meets_all s d h) = let same : syllables ≡ n = cc in record { counted = sym same; no_sign = s; no_digit = d; few = omega arith }
