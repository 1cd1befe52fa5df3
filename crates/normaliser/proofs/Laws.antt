-- The three calls on one word agree: they speak of one stored form, and its typed places are as many.
-- Assumes nothing.
use mathlib.Core.Path.{◌≡◌, refl, sym, ap, subst}
use mathlib.Core.Bool.{Bool}
use mathlib.Core.List.{List, [], ◌∷◌}
use mathlib.Core.Logic.{◌⊎◌, ⊎_elim}
use mathlib.Core.Option.{none, some}
use Prim.Native.Nat.{ℕ, zero, suc, ◌+◌, ◌≤◌, ◌<◌}
use native.Mathlib.Decide.{ℕ_discrete}
use native.Mathlib.Omega.{arith}
use lib.Dec.{eqb}
use lib.ListN.{length, get_or, get_elem?}
use borrow.Author.Tests.{eq-eqb, ne_eqb}
use Rattle.letters.specs.Weights.{bit_if}
use Rattle.letters.specs.Counting.{up_from, count}
use Rattle.formula.specs.Row.{Row, Gives}
use Rattle.refusals.specs.Outcome.{Outcome, accepts, refuses}
use Rattle.refusals.specs.Output.{refused, put, too_short}
use Rattle.refusals.proofs.Determined.{Same}
use Rattle.recogniser.specs.Answer.{Admissible, too_long, foreign, no_continuation, unfinished}
use Rattle.storage.specs.Stored.{stored_form}
use Rattle.typed_places.specs.Typed.{typed_at, typed_places, StandsFor}
use Rattle.typed_places.proofs.Laws.{typed_values, typed_within, TakenUp, StandsOnce, once, taken_up, typed_once, row_typed}
use Rattle.normaliser.specs.Admission.{too_long as word_too_long, foreign as word_foreign}
use Rattle.normaliser.specs.Normal.{StoreRefusedWith, unadmitted, outcome, NormaliseRight}
use Rattle.normaliser.specs.Form.{FormRight}
use Rattle.normaliser.specs.Typed.{HasPlace, HasNoPlace}
use Rattle.normaliser.proofs.Determined.{form_determined}

-- what stands in a list, by places
some_at : (list : List ℕ) (q p : ℕ) → get_elem? list q ≡ some p → (q < length list) × (get_or list q 0 ≡ p)
some_at [] q p e = let z : ◌≡◌ {A = ℕ} 0 1 = cc in let y : ⊥ = omega arith in absurd y
some_at (x ∷ list) zero p e = (omega arith, cc)
some_at (x ∷ list) (suc q) p e = let r = some_at list q p e in (omega arith, r.1)

none_at : (list : List ℕ) (q : ℕ) → get_elem? list q ≡ none → length list ≤ q
none_at [] q e = omega arith
none_at (x ∷ list) zero e = let z : ◌≡◌ {A = ℕ} 0 1 = cc in let y : ⊥ = omega arith in absurd y
none_at (x ∷ list) (suc q) e = let r = none_at list q e in omega arith

counted_at : (list : List ℕ) (q p : ℕ) → get_elem? list q ≡ some p → 1 ≤ count (eqb p) list
counted_at [] q p e = let z : ◌≡◌ {A = ℕ} 0 1 = cc in let y : ⊥ = omega arith in absurd y
counted_at (x ∷ list) zero p e = let same : p ≡ x = cc in rw (eq-eqb p x same) (omega arith)
counted_at (x ∷ list) (suc q) p e = omega (arith, counted_at list q p e)

-- where something that is counted stands
found_at : (list : List ℕ) (p : ℕ) → 1 ≤ count (eqb p) list → (q : ℕ) × (get_elem? list q ≡ some p)
found_at [] p h = let z : ⊥ = omega arith in absurd z
found_at (x ∷ list) p h = go (ℕ_discrete p x) (found_at list p)
  where
    go : Dec (p ≡ x) → (1 ≤ count (eqb p) list → (q : ℕ) × (get_elem? list q ≡ some p)) → (q : ℕ) × (get_elem? (x ∷ list) q ≡ some p)
    go (yes same) later = (0, ap some (sym same))
    go (no other) later = let r = later (omega (arith, ap (λ (b : Bool). bit_if b 1) (ne_eqb p x other))) in (suc r.0, r.1)

once_at : (list : List ℕ) (q r p : ℕ) → count (eqb p) list ≤ 1 → get_elem? list q ≡ some p → get_elem? list r ≡ some p → q ≡ r
once_at [] q r p h e f = let z : ◌≡◌ {A = ℕ} 0 1 = cc in let y : ⊥ = omega arith in absurd y
once_at (x ∷ list) zero zero p h e f = refl
once_at (x ∷ list) zero (suc r) p h e f =
    let same : p ≡ x = cc in
    let z : ⊥ = omega (arith, counted_at list r p f, rw (eq-eqb p x same) at h) in
    absurd z
once_at (x ∷ list) (suc q) zero p h e f =
    let same : p ≡ x = cc in
    let z : ⊥ = omega (arith, counted_at list q p e, rw (eq-eqb p x same) at h) in
    absurd z
once_at (x ∷ list) (suc q) (suc r) p h e f = ap suc (once_at list q r p (omega arith) e f)

numbered_at : (k n q p : ℕ) → get_elem? (up_from k n) q ≡ some p → p ≡ k + q
numbered_at k zero q p e = let z : ◌≡◌ {A = ℕ} 0 1 = cc in let y : ⊥ = omega arith in absurd y
numbered_at k (suc n) zero p e = let same : k ≡ p = cc in omega arith
numbered_at k (suc n) (suc q) p e = omega (arith, numbered_at (suc k) n q p e)

module _ (word : List ℕ) where
  -- where `normalise` accepts, `stored_form` writes the same
  normal_form : (before after : List ℕ) (n : ℕ) → NormaliseRight word before after (accepts n) → FormRight word before after (accepts n)
  normal_form before after n (put s l e) = put s.admissible l e

  pub normal_agrees : (before after final : List ℕ) (n : ℕ) (o : Outcome) → NormaliseRight word before after (accepts n) → FormRight word before final o
      → Same (accepts n) o after final
  normal_agrees before after final n o a b = form_determined word before after final (accepts n) o (normal_form before after n a) b

  -- a place of refusal 3 or 4 is one of the stored form, or its end
  refused_within : (number place : ℕ) → StoreRefusedWith word number place → 3 ≤ number → place ≤ length (stored_form word)
  refused_within number place (unadmitted (word_too_long h)) n = let z : ⊥ = omega arith in absurd z
  refused_within number place (unadmitted (word_foreign f)) n = let z : ⊥ = omega arith in absurd z
  refused_within number place (outcome a (too_long h)) n = let z : ⊥ = omega arith in absurd z
  refused_within number place (outcome a (foreign f)) n = let z : ⊥ = omega arith in absurd z
  refused_within number place (outcome a (no_continuation b v l)) n = l.within
  refused_within number place (outcome a (unfinished b r v)) n = omega arith

  -- so where `normalise` refuses with 3 or 4, the place is at most the number of values that `stored_form` tells
  pub refused_place : (before after other final : List ℕ) (number place n : ℕ) → NormaliseRight word before after (refuses number place)
      → (number ≡ 3) ⊎ (number ≡ 4) → FormRight word other final (accepts n) → place ≤ n
  refused_place before after other final number place n (refused r e) k (put s l d) =
      refused_within number place r (⊎_elim (λ t. omega arith) (λ t. omega arith) k)
  refused_place before after other final number place n (too_short s l e) k (put t m d) =
      let z : ⊥ = ⊎_elim (λ t. omega arith) (λ t. omega arith) k in absurd z

  -- a typed place: what stands at the place asked for was typed there
  pub record Placed (place p : ℕ) : Type 0 where
    pub below : place < length (stored_form word)
    pub within : p < length word
    pub stands : StandsFor (get_or word p 0) (get_or (stored_form word) place 0)

  pub typed_placed : (place p : ℕ) → HasPlace word place p → Placed place p
  unfolding typed_at
  typed_placed place p t =
      let at = some_at (typed_places word) place p t.typed in
      let values = typed_values word in
      let below : place < length (stored_form word) = omega (arith, values.long, at.0) in
      record {
        below = below;
        within = typed_within word place p t.typed;
        stands = subst (λ (q : ℕ). StandsFor (get_or word q 0) (get_or (stored_form word) place 0)) at.1 (values.stands place below);
      }

  -- and none is told from the end of the stored form on
  pub typed_beyond : (place : ℕ) → HasNoPlace word place → length (stored_form word) ≤ place
  typed_beyond place t = omega (arith, none_at (typed_places word) place t.nothing, (typed_values word).long)

  -- no value stands at two places
  few : (p : ℕ) → StandsOnce word p → count (eqb p) (typed_places word) ≤ 1
  few p (once e) = omega arith
  few p (taken_up e v) = omega arith

  pub typed_apart : (q r p : ℕ) → HasPlace word q p → HasPlace word r p → q ≡ r
  typed_apart q r p t u =
      once_at (typed_places word) q r p (few p (typed_once word p (typed_within word q p t.typed))) t.typed u.typed

  -- each typed value is pointed at, but for a 102E that a 1025 takes up
  pub data Pointed (p : ℕ) : Type 0 where
    pointed : (place : ℕ) → HasPlace word place p → Pointed p
    in_another : TakenUp word p (typed_places word) (stored_form word) → Pointed p

  pub typed_each : Admissible word → (p : ℕ) → p < length word → Pointed p
  typed_each a p h = go (typed_once word p h)
    where
      go : StandsOnce word p → Pointed p
      go (once e) = let r = found_at (typed_places word) p (omega arith) in pointed r.0 (record { admissible = a; typed = r.1 })
      go (taken_up e t) = in_another t

  -- in a row of syllables each value stands where it was typed
  pub row_placed : (row : Row) → Gives row word → (place p : ℕ) → HasPlace word place p → p ≡ place
  row_placed row g place p t =
      let e : get_elem? (up_from 0 (length word)) place ≡ some p = rw (row_typed word row g) at t.typed in
      omega (arith, numbered_at 0 (length word) place p e)
