-- What each answer of the rules says of the values: "the first stop or sign", "the first such digit", and that there is none.
-- Assumes nothing.
use mathlib.Core.Path.{◌≡◌, subst}
use mathlib.Core.Bool.{Bool, true, false}
use mathlib.Core.List.{List}
use Prim.Native.Nat.{ℕ, ◌≤◌, ◌<◌}
use native.Mathlib.Omega.{arith}
use lib.ListN.{length}
use Rattle.formula.specs.Limits.{label_limit}
use Rattle.refusals.specs.Outcome.{Outcome, accepts, refuses}
use Rattle.label_rules.specs.Rules.{first_from, is_stop_or_sign, is_confusable, label_of}
use Rattle.label_rules.proofs.Sought.{first_passes, first_before}
use Rattle.label_rules.proofs.Laws.{Ruled, has_sign, has_digit, has_many, meets_all, ruled, accepted_meets}

-- the test passes at a place, and at no place before it
pub record First (test : ℕ → Bool) (size place : ℕ) : Type 0 where
  pub within : place < size
  pub there : test place ≡ true
  pub before : (earlier : ℕ) → earlier < place → test earlier ≡ false

-- it passes nowhere
abbrev pub Nowhere : (ℕ → Bool) → ℕ → Type 0
Nowhere test size = (place : ℕ) → place < size → test place ≡ false

first_is : (test : ℕ → Bool) (size : ℕ) → first_from test 0 size < size → First test size (first_from test 0 size)
first_is test size h =
    record { within = h; there = first_passes test 0 size (omega arith); before = λ earlier k. first_before test 0 size earlier (omega arith) k }

nowhere : (test : ℕ → Bool) (size : ℕ) → size ≤ first_from test 0 size → Nowhere test size
nowhere test size h place k = first_before test 0 size place (omega arith) (omega arith)

-- each refusal under its condition
pub data Breaks (word : List ℕ) (syllables : ℕ) : ℕ → ℕ → Type 0 where
  sign : {place : ℕ} → First (is_stop_or_sign word) (length word) place → Breaks word syllables 21 place
  digit : {place : ℕ} → Nowhere (is_stop_or_sign word) (length word) → First (is_confusable word) (length word) place → Breaks word syllables 22 place
  many : Nowhere (is_stop_or_sign word) (length word) → Nowhere (is_confusable word) (length word) → label_limit < syllables → Breaks word syllables 23 label_limit

-- and what is accepted
pub record Keeps (word : List ℕ) (syllables n : ℕ) : Type 0 where
  pub counted : n ≡ syllables
  pub no_sign : Nowhere (is_stop_or_sign word) (length word)
  pub no_digit : Nowhere (is_confusable word) (length word)
  pub few : n ≤ label_limit

module _ (word : List ℕ) (syllables : ℕ) where
  pub refused_breaks : (number place : ℕ) → label_of word syllables ≡ refuses number place → Breaks word syllables number place
  refused_breaks number place e = go (label_of word syllables) e (ruled word syllables)
    where
      at : (m q : ℕ) → refuses m q ≡ refuses number place → Breaks word syllables m q → Breaks word syllables number place
      at m q f b =
          let same : m ≡ number = cc in
          let there : q ≡ place = cc in
          subst (λ (k : ℕ). Breaks word syllables k place) same (subst (Breaks word syllables m) there b)

      go : (o : Outcome) → o ≡ refuses number place → Ruled word syllables o → Breaks word syllables number place
      go o f (has_sign h) = at _ _ f (sign (first_is (is_stop_or_sign word) (length word) h))
      go o f (has_digit s h) = at _ _ f (digit (nowhere (is_stop_or_sign word) (length word) s) (first_is (is_confusable word) (length word) h))
      go o f (has_many s d h) = at _ _ f (many (nowhere (is_stop_or_sign word) (length word) s) (nowhere (is_confusable word) (length word) d) h)
      go o f (meets_all s d h) = let z : ◌≡◌ {A = ℕ} 0 1 = cc in let y : ⊥ = omega arith in absurd y

  pub accepted_keeps : (n : ℕ) → label_of word syllables ≡ accepts n → Keeps word syllables n
  accepted_keeps n e =
      let m = accepted_meets word syllables n e in
      record {
        counted = m.counted;
        no_sign = nowhere (is_stop_or_sign word) (length word) m.no_sign;
        no_digit = nowhere (is_confusable word) (length word) m.no_digit;
        few = m.few;
      }
