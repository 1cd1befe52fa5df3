-- `recogniser::foreign::foreign_from` meets its contract: what `find` answers of the places is the first whose value is foreign.
-- Assumes nothing.
use Rattle.std.proofs.Common.{◌≡◌, ℕ, ◌≤◌, ◌<◌, Bool, true, false, T, not, List, length, get_or, Option, Some, None, MatchOption, arith, rules, tests, sym, subst}
use Rattle.std.proofs.lemmas.Iterator.{first_from_Range}
use Rattle.letters.specs.Letters.{is_admitted}
use Rattle.recogniser.specs.Concluded.{is_foreign, FindsForeign}
use Rattle.recogniser.proofs.foreign.foreign_from.Goals as goal

-- the answers of `is_foreign`
admitted : (x : ℕ) → is_foreign x ≡ false → T (is_admitted x)
unfolding is_foreign
admitted x = go (is_admitted x)
  where
    go : (b : Bool) → not b ≡ false → T b
    go true e = tt
    go false e = subst T e tt

unadmitted : (x : ℕ) → is_foreign x ≡ true → T (is_admitted x) → ⊥
unfolding is_foreign
unadmitted x = go (is_admitted x)
  where
    go : (b : Bool) → not b ≡ true → T b → ⊥
    go true e t = subst T (sym e) tt
    go false e t = t

abbrev foreign_at : List ℕ → ℕ → Bool
foreign_at word k = is_foreign (get_or word k 0)

module _ (word : List ℕ) (from : ℕ) (fits : from ≤ length word) where
  -- what was found, by what is known of the values
  finds : (found : Option ℕ)
      → MatchOption found ((k : ℕ) → from ≤ k → k < length word → foreign_at word k ≡ false)
      (λ place. (from ≤ place) × (place < length word) × (foreign_at word place ≡ true) × ((k : ℕ) → from ≤ k → k < place → foreign_at word k ≡ false))
      → FindsForeign word from found
  finds None n = record { after = fits; within = omega arith; before = λ k h below. admitted _ (n k h below); foreign = λ h. absurd (omega arith) }
  finds (Some place) h = (
    h.1,
    record {
      after = h.0;
      within = omega arith;
      before = λ k low below. admitted _ (h.3 k low below);
      foreign = λ _. unadmitted _ h.2;
    },
  )

pub returns : goal.returns
returns c =
    let s = c.args in
    finds s.word.now s.from c.requires c.find.result
    (first_from_Range _ _ _ c.find.result (λ k. foreign_at s.word.now k ≡ true) (λ k. foreign_at s.word.now k ≡ false) c.find.ensures.ran
    (λ x q k. search (rules, tests)) (λ x q k. search (rules, tests)))
