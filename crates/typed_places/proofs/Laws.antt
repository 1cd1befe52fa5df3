-- What typed places come to: rule 2 over places leaves out what rule 2 over values takes up, so both go pairwise; and no place is left out but that of a 102E
-- that a 1025 takes up.
-- Assumes nothing.
use mathlib.Core.Path.{◌≡◌, refl, sym, ap, subst, ◌∙◌}
use mathlib.Core.Bool.{Bool, true, false}
use mathlib.Core.List.{List, [], ◌∷◌, map}
use mathlib.Core.Option.{none, some}
use Prim.Native.Nat.{ℕ, zero, suc, ◌≤◌, ◌<◌}
use native.Mathlib.Decide.{ℕ_discrete}
use native.Mathlib.Omega.{arith}
use lib.Dec.{T, eqb, eqb→eq, ltb, ltb→lt}
use lib.ListN.{length, get_or, get_elem?}
use Rattle.std.specs.Prelude.{MatchOption, slice_get}
use borrow.Author.Tests.{ne_eqb}
use Rattle.letters.specs.Choice.{pick}
use Rattle.letters.specs.Weights.{bit_if}
use Rattle.letters.specs.Counting.{up_from, count}
use Rattle.formula.specs.Row.{Row, Gives}
use Rattle.formula.proofs.Lists.{every, both, both_left, both_right}
use Rattle.storage.specs.Stored.{makes_long_vowel, makes_letter, insert_by, sort_runs_by, compose, stored_form}
use Rattle.storage.proofs.Inserting.{insert_here}
use Rattle.storage.proofs.Settled.{Settled}
use Rattle.storage.proofs.Rows.{gives_settled}
use Rattle.typed_places.specs.Typed.{typed_at, sorted_places, compose_places, typed_places, StandsFor, as_typed, long_vowel, letter}
use Rattle.typed_places.proofs.Sorting.{places_values, sorted_values, sorted_within, sorted_once}

-- an element of a list, as the code answers it, is the element as the specifications ask for it
pub element_answered : (list : List ℕ) (k : ℕ) → MatchOption (slice_get list k) (get_elem? list k ≡ none) (λ x. get_elem? list k ≡ some x)
element_answered [] k = refl
element_answered (x ∷ list) zero = refl
element_answered (x ∷ list) (suc k) = element_answered list k

module _ (word : List ℕ) where
  -- at each place a stored value that stands for the typed one
  abbrev Matched : List ℕ → List ℕ → Type 0
  Matched [] [] = Unit {0}
  Matched [] (x ∷ values) = ⊥
  Matched (p ∷ places) [] = ⊥
  Matched (p ∷ places) (x ∷ values) = StandsFor (typed_at word p) x × Matched places values

  matched_length : (places values : List ℕ) → Matched places values → length places ≡ length values
  matched_length [] [] m = refl
  matched_length [] (x ∷ values) m = absurd m
  matched_length (p ∷ places) [] m = absurd m
  matched_length (p ∷ places) (x ∷ values) m = ap suc (matched_length places values m.1)

  matched_at : (places values : List ℕ) → Matched places values → (q : ℕ) → q < length values → StandsFor (typed_at word (get_or places q 0)) (get_or values q 0)
  matched_at [] [] m q h = let z : ⊥ = omega arith in absurd z
  matched_at [] (x ∷ values) m q h = absurd m
  matched_at (p ∷ places) [] m q h = absurd m
  matched_at (p ∷ places) (x ∷ values) m zero h = m.0
  matched_at (p ∷ places) (x ∷ values) m (suc q) h = matched_at places values m.1 q (omega arith)

  -- a 1025 stands for what it becomes
  by_long : (x y : ℕ) → makes_long_vowel x y ≡ true → StandsFor x 0x1026
  unfolding makes_long_vowel
  by_long x y e =
      subst (λ (z : ℕ). StandsFor z 0x1026) (sym (eqb→eq x 0x1025 (both_left (eqb x 0x1025) (eqb y 0x102E) (subst T (sym e) tt)))) long_vowel

  by_letter : (x y : ℕ) (d : Bool) → makes_letter x y ≡ d → StandsFor x (pick d 0x1009 x)
  unfolding makes_letter pick
  by_letter x y true e = subst (λ (z : ℕ). StandsFor z 0x1009) (sym (eqb→eq x 0x1025 (both_left (eqb x 0x1025) _ (subst T (sym e) tt)))) letter
  by_letter x y false e = as_typed

  compose_matched : (places : List ℕ) → Matched (compose_places word places) (compose (map (typed_at word) places))
  unfolding pick
  compose_matched [] = tt
  compose_matched (p ∷ []) = (as_typed, tt)
  compose_matched (p ∷ q ∷ places) =
      go (makes_long_vowel (typed_at word p) (typed_at word q)) refl (compose_matched places) (compose_matched (q ∷ places))
    where
      go : (b : Bool) → makes_long_vowel (typed_at word p) (typed_at word q) ≡ b → Matched (compose_places word places) (compose (map (typed_at word) places))
          → Matched (compose_places word (q ∷ places)) (compose (map (typed_at word) (q ∷ places)))
          → Matched (pick b (p ∷ compose_places word places) (p ∷ compose_places word (q ∷ places)))
          (pick b (0x1026 ∷ compose (map (typed_at word) places))
          (pick (makes_letter (typed_at word p) (typed_at word q)) 0x1009 (typed_at word p) ∷ compose (map (typed_at word) (q ∷ places))))
      go true e short long = (by_long (typed_at word p) (typed_at word q) e, short)
      go false e short long = (by_letter (typed_at word p) (typed_at word q) (makes_letter (typed_at word p) (typed_at word q)) refl, long)

  typed_matched : Matched (typed_places word) (stored_form word)
  unfolding typed_places stored_form
  typed_matched = subst (λ (l : List ℕ). Matched (typed_places word) (compose l)) (sorted_values word) (compose_matched (sorted_places word))

  -- as many places as stored values, each of which stands for the value typed at its place
  pub record TypedValues : Type 0 where
    pub long : length (typed_places word) ≡ length (stored_form word)
    pub stands : (q : ℕ) → q < length (stored_form word) → StandsFor (typed_at word (get_or (typed_places word) q 0)) (get_or (stored_form word) q 0)

  pub typed_values : TypedValues
  typed_values =
      record {
        long = matched_length (typed_places word) (stored_form word) typed_matched;
        stands = matched_at (typed_places word) (stored_form word) typed_matched;
      }

  -- a test that each place passes
  pub compose_every : (f : ℕ → Bool) (places : List ℕ) → T (every f places) → T (every f (compose_places word places))
  unfolding pick
  compose_every f [] t = tt
  compose_every f (p ∷ []) t = t
  compose_every f (p ∷ q ∷ places) t =
      go (makes_long_vowel (typed_at word p) (typed_at word q)) (compose_every f places (both_right (f q) (every f places) (both_right (f p) (every f (q ∷ places)) t)))
      (compose_every f (q ∷ places) (both_right (f p) (every f (q ∷ places)) t))
    where
      here : T (f p)
      here = both_left (f p) (every f (q ∷ places)) t

      go : (b : Bool) → T (every f (compose_places word places)) → T (every f (compose_places word (q ∷ places)))
          → T (every f (pick b (p ∷ compose_places word places) (p ∷ compose_places word (q ∷ places))))
      go true short long = both (f p) (every f (compose_places word places)) here short
      go false short long = both (f p) (every f (compose_places word (q ∷ places))) here long

  -- each typed place is one of the word
  pub typed_within : (q p : ℕ) → get_elem? (typed_places word) q ≡ some p → p < length word
  unfolding typed_places
  typed_within q p e =
      ltb→lt p (length word)
      (each (λ (p : ℕ). ltb p (length word)) (typed_places word) q p (compose_every (λ (p : ℕ). ltb p (length word)) (sorted_places word) (sorted_within word)) e)
    where
      each : (f : ℕ → Bool) (list : List ℕ) (q p : ℕ) → T (every f list) → get_elem? list q ≡ some p → T (f p)
      each f [] q p t e = let z : ◌≡◌ {A = ℕ} 0 1 = cc in let y : ⊥ = omega arith in absurd y
      each f (x ∷ list) zero p t e = let same : x ≡ p = cc in rw (← same) (both_left (f x) (every f list) t)
      each f (x ∷ list) (suc q) p t e = each f list q p (both_right (f x) (every f list) t) e

  -- the word's length stands for no place
  pub typed_found : (place : ℕ) → get_or (typed_places word) place (length word) < length word
      → get_elem? (typed_places word) place ≡ some (get_or (typed_places word) place (length word))
  typed_found place h = go (typed_places word) place h
    where
      go : (list : List ℕ) (k : ℕ) → get_or list k (length word) < length word → get_elem? list k ≡ some (get_or list k (length word))
      go [] k h = let z : ⊥ = omega arith in absurd z
      go (x ∷ list) zero h = refl
      go (x ∷ list) (suc k) h = go list k h

  pub typed_none : (place : ℕ) → length word ≤ get_or (typed_places word) place (length word) → get_elem? (typed_places word) place ≡ none
  typed_none place h = go (typed_places word) place (typed_within place) h
    where
      go : (list : List ℕ) (k : ℕ) → ((p : ℕ) → get_elem? list k ≡ some p → p < length word) → length word ≤ get_or list k (length word) → get_elem? list k ≡ none
      go [] k f h = refl
      go (x ∷ list) zero f h = let z : ⊥ = omega (arith, f x refl) in absurd z
      go (x ∷ list) (suc k) f h = go list k f h

  -- no place stands more often than before
  compose_fewer : (f : ℕ → Bool) (places : List ℕ) → count f (compose_places word places) ≤ count f places
  unfolding pick
  compose_fewer f [] = omega arith
  compose_fewer f (p ∷ []) = omega arith
  compose_fewer f (p ∷ q ∷ places) = go (makes_long_vowel (typed_at word p) (typed_at word q)) (compose_fewer f places) (compose_fewer f (q ∷ places))
    where
      go : (b : Bool) → count f (compose_places word places) ≤ count f places → count f (compose_places word (q ∷ places)) ≤ count f (q ∷ places)
          → count f (pick b (p ∷ compose_places word places) (p ∷ compose_places word (q ∷ places))) ≤ count f (p ∷ q ∷ places)
      go true short long = omega arith
      go false short long = omega arith

  -- of a pair that rule 2 joins, the first is a 1025 and the second a 102E
  joined_pair : (x y : ℕ) → makes_long_vowel x y ≡ true → (x ≡ 0x1025) × (y ≡ 0x102E)
  unfolding makes_long_vowel
  joined_pair x y e =
      let t : T (makes_long_vowel x y) = subst T (sym e) tt in
      (eqb→eq x 0x1025 (both_left (eqb x 0x1025) (eqb y 0x102E) t), eqb→eq y 0x102E (both_right (eqb x 0x1025) (eqb y 0x102E) t))

  -- a 102E was typed at r, and a 1025 takes it up, which stands among the values as a 1026
  pub record TakenUp (r : ℕ) (places values : List ℕ) : Type 0 where
    pub mark : typed_at word r ≡ 0x102E
    pub by : ℕ
    pub within : by < length values
    pub vowel : typed_at word (get_or places by 0) ≡ 0x1025
    pub long : get_or values by 0 ≡ 0x1026

  later : (r p x : ℕ) (places values : List ℕ) → TakenUp r places values → TakenUp r (p ∷ places) (x ∷ values)
  later r p x places values t =
      let w = t.within in
      record { mark = t.mark; by = suc t.by; within = omega arith; vowel = t.vowel; long = t.long }

  -- a place that rule 2 leaves out is taken up
  left_out : (r : ℕ) (places : List ℕ) → 1 ≤ count (eqb r) places → count (eqb r) (compose_places word places) ≡ 0
      → TakenUp r (compose_places word places) (compose (map (typed_at word) places))
  unfolding pick
  left_out r [] held gone = let z : ⊥ = omega arith in absurd z
  left_out r (p ∷ []) held gone = let z : ⊥ = omega arith in absurd z
  left_out r (p ∷ q ∷ places) held gone =
      go (makes_long_vowel (typed_at word p) (typed_at word q)) refl (left_out r places) (left_out r (q ∷ places)) gone
    where
      go : (b : Bool) → makes_long_vowel (typed_at word p) (typed_at word q) ≡ b
          → (1 ≤ count (eqb r) places → count (eqb r) (compose_places word places) ≡ 0
          → TakenUp r (compose_places word places) (compose (map (typed_at word) places)))
          → (1 ≤ count (eqb r) (q ∷ places) → count (eqb r) (compose_places word (q ∷ places)) ≡ 0
          → TakenUp r (compose_places word (q ∷ places)) (compose (map (typed_at word) (q ∷ places))))
          → count (eqb r) (pick b (p ∷ compose_places word places) (p ∷ compose_places word (q ∷ places))) ≡ 0
          → TakenUp r (pick b (p ∷ compose_places word places) (p ∷ compose_places word (q ∷ places)))
          (pick b (0x1026 ∷ compose (map (typed_at word) places))
          (pick (makes_letter (typed_at word p) (typed_at word q)) 0x1009 (typed_at word p) ∷ compose (map (typed_at word) (q ∷ places))))
      go true e short long gone = here (ℕ_discrete r q)
        where
          here : Dec (r ≡ q) → TakenUp r (p ∷ compose_places word places) (0x1026 ∷ compose (map (typed_at word) places))
          here (yes same) =
              let pair = joined_pair (typed_at word p) (typed_at word q) e in
              record { mark = ap (typed_at word) same ∙ pair.1; by = 0; within = omega arith; vowel = pair.0; long = refl }
          here (no other) =
              let apart : eqb r q ≡ false = ne_eqb r q other in
              later r p 0x1026 (compose_places word places) (compose (map (typed_at word) places))
              (short (omega (arith, ap (λ (b : Bool). bit_if b 1) apart)) (omega arith))
      go false e short long gone =
          later r p _ (compose_places word (q ∷ places)) (compose (map (typed_at word) (q ∷ places))) (long (omega arith) (omega arith))

  -- each place of the word stands once, or it stands nowhere and is taken up
  pub data StandsOnce (p : ℕ) : Type 0 where
    once : count (eqb p) (typed_places word) ≡ 1 → StandsOnce p
    taken_up : count (eqb p) (typed_places word) ≡ 0 → TakenUp p (typed_places word) (stored_form word) → StandsOnce p

  pub typed_once : (p : ℕ) → p < length word → StandsOnce p
  unfolding typed_places stored_form
  typed_once p h = either (count (eqb p) (typed_places word)) refl
    where
      either : (n : ℕ) → count (eqb p) (typed_places word) ≡ n → StandsOnce p
      either zero e =
          taken_up e
          (subst (λ (l : List ℕ). TakenUp p (typed_places word) (compose l)) (sorted_values word)
          (left_out p (sorted_places word) (omega (arith, sorted_once word p h)) e))
      either (suc zero) e = once e
      either (suc (suc n)) e = let z : ⊥ = omega (arith, compose_fewer (eqb p) (sorted_places word), sorted_once word p h) in absurd z

  -- where each value stands before the next, so do the places
  sort_settled : (places : List ℕ) → Settled (map (typed_at word) places) → sort_runs_by (typed_at word) places ≡ places
  sort_settled [] s = refl
  sort_settled (p ∷ []) s = refl
  sort_settled (p ∷ q ∷ places) s =
      ap (insert_by (typed_at word) p) (sort_settled (q ∷ places) s.1) ∙ insert_here (typed_at word) p q places s.0.in_order

  compose_settled : (places : List ℕ) → Settled (map (typed_at word) places) → compose_places word places ≡ places
  unfolding pick
  compose_settled [] s = refl
  compose_settled (p ∷ []) s = refl
  compose_settled (p ∷ q ∷ places) s = rw (s.0.no_vowel, compose_settled (q ∷ places) s.1)

  -- in a row of syllables each value stands where it was typed
  pub row_typed : (row : Row) → Gives row word → typed_places word ≡ up_from 0 (length word)
  unfolding typed_places
  row_typed row g =
      let settled : Settled (map (typed_at word) (up_from 0 (length word))) =
      subst Settled (sym (places_values word 0 (length word) (omega arith))) (gives_settled row word g) in
      ap (compose_places word) (sort_settled (up_from 0 (length word)) settled) ∙ compose_settled (up_from 0 (length word)) settled
