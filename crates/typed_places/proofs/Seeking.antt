-- The pass over sorted places, by those whose values stay: what stands so many of them further on is what stands at the place asked for.
-- Assumes nothing.
use mathlib.Core.Path.{◌≡◌, refl, sym, ap, ◌∙◌}
use mathlib.Core.Bool.{Bool, true, false}
use mathlib.Core.List.{List, [], ◌∷◌, ◌++◌}
use Prim.Native.Nat.{ℕ, zero, suc, ◌+◌, ◌-◌, ◌≤◌, ◌<◌}
use native.Mathlib.Decide.{dec_lt}
use native.Mathlib.Omega.{arith}
use lib.Dec.{eqb}
use lib.ListN.{length, take, drop, get_or, replicate, length-append, length-replicate, drop_of_length-le, get_or-eq_default}
use lib.Seq.{drop-cons, length-take-le, get_or-take}
use borrow.Author.Tests.{ne_eqb}
use Rattle.std.specs.Prelude.{Option, Some, None, slice_get}
use Rattle.std.proofs.lemmas.Option.{slice_get-get_or, slice_get_past}
use Rattle.letters.specs.Choice.{pick}
use Rattle.letters.proofs.Picks.{and_no_right}
use Rattle.formula.specs.Limits.{limit}
use Rattle.storage.specs.Stored.{makes_long_vowel}
use Rattle.storage.proofs.Composing.{other_vowel}
use Rattle.typed_places.specs.Typed.{typed_at, sorted_places, compose_places, typed_places}
use Rattle.typed_places.specs.Seeking.{next_kept}
use Rattle.typed_places.proofs.Sorting.{sorted_length}
use Rattle.typed_places.proofs.Passing.{typed_past}

-- the next place, by the tests of the code
pub next_other : (word places : List ℕ) (at : ℕ) → (typed_at word (get_or places at limit) ≡ 0x1025 → ⊥) → at + 1 ≡ next_kept word places at
unfolding pick
next_other word places at n = rw (other_vowel (typed_at word (get_or places at limit)) (typed_at word (get_or places (at + 1) limit)) (ne_eqb _ 0x1025 n))

pub next_taken : (word places : List ℕ) (at : ℕ) → typed_at word (get_or places at limit) ≡ 0x1025 → typed_at word (get_or places (at + 1) limit) ≡ 0x102E
    → at + 2 ≡ next_kept word places at
unfolding pick makes_long_vowel
next_taken word places at e f = rw (e, f)

no_long_vowel : (x y : ℕ) → eqb y 0x102E ≡ false → makes_long_vowel x y ≡ false
unfolding makes_long_vowel
no_long_vowel x y e = and_no_right (eqb x 0x1025) (eqb y 0x102E) e

pub next_plain : (word places : List ℕ) (at : ℕ) → (typed_at word (get_or places (at + 1) limit) ≡ 0x102E → ⊥) → at + 1 ≡ next_kept word places at
unfolding pick
next_plain word places at n = rw (no_long_vowel (typed_at word (get_or places at limit)) (typed_at word (get_or places (at + 1) limit)) (ne_eqb _ 0x102E n))

-- what follows a place whose value stays
compose_next : (word places : List ℕ) (at : ℕ) → length word ≤ limit → at < length places
    → compose_places word (drop at places) ≡ get_or places at limit ∷ compose_places word (drop (next_kept word places at) places)
unfolding pick
compose_next word places at h l =
    ap (compose_places word) first ∙ go (dec_lt (at + 1) (length places))
  where
    p : ℕ
    p = get_or places at limit

    q : ℕ
    q = get_or places (at + 1) limit

    first : drop at places ≡ p ∷ drop (at + 1) places
    first = drop-cons places at limit l ∙ ap (λ (k : ℕ). p ∷ drop k places) (let e : suc at ≡ at + 1 = omega arith in e)

    by_test : drop (at + 1) places ≡ q ∷ drop (at + 2) places → (b : Bool)
        → pick b (p ∷ compose_places word (drop (at + 2) places)) (p ∷ compose_places word (q ∷ drop (at + 2) places))
        ≡ p ∷ compose_places word (drop (pick b (at + 2) (at + 1)) places)
    by_test rest true = refl
    by_test rest false = ap (λ (l : List ℕ). p ∷ compose_places word l) (sym rest)

    go : Dec (at + 1 < length places) → compose_places word (p ∷ drop (at + 1) places) ≡ p ∷ compose_places word (drop (next_kept word places at) places)
    go (yes m) =
        let two : suc (at + 1) ≡ at + 2 = omega arith in
        let rest : drop (at + 1) places ≡ q ∷ drop (at + 2) places = drop-cons places (at + 1) limit m ∙ ap (λ (k : ℕ). q ∷ drop k places) two in
        ap (λ (l : List ℕ). compose_places word (p ∷ l)) rest ∙ by_test rest (makes_long_vowel (typed_at word p) (typed_at word q))
    go (no n) =
        let past : length places ≤ at + 1 = omega arith in
        let none : drop (at + 1) places ≡ [] = drop_of_length-le places past in
        let behind : typed_at word q ≡ 0 = ap (typed_at word) (get_or-eq_default places limit past) ∙ typed_past word limit h in
        let next : at + 1 ≡ next_kept word places at = next_plain word places at (λ e. omega arith) in
        ap (λ (l : List ℕ). compose_places word (p ∷ l)) none
        ∙ sym (ap (λ (k : ℕ). p ∷ compose_places word (drop k places)) (sym next) ∙ ap (λ (l : List ℕ). p ∷ compose_places word l) none)

-- behind the places of the word the array holds the limit
filled_at : (places : List ℕ) (n k : ℕ) → get_or (places ++ replicate n limit) k limit ≡ get_or places k limit
filled_at [] zero k = refl
filled_at [] (suc n) zero = refl
filled_at [] (suc n) (suc k) = filled_at [] n k
filled_at (p ∷ places) n zero = refl
filled_at (p ∷ places) n (suc k) = filled_at places n k

-- what stands so many further on among the values that stay, from a place on
abbrev pub seen : List ℕ → ℕ → ℕ → Option ℕ
seen word at left = slice_get (compose_places word (drop at (sorted_places word))) left

pub seen_first : (word : List ℕ) (place : ℕ) → seen word 0 place ≡ slice_get (typed_places word) place
unfolding typed_places
seen_first word place = refl

pub seen_none : (word : List ℕ) (at left : ℕ) → length word ≤ at → None ≡ seen word at left
seen_none word at left h =
    let past : length (sorted_places word) ≤ at = omega (arith, sorted_length word) in
    sym (ap (λ (l : List ℕ). slice_get (compose_places word l) left) (drop_of_length-le (sorted_places word) past))

module _ (word places : List ℕ) (h : length word ≤ limit) (e : places ≡ sorted_places word ++ replicate (limit - length word) limit) where
  pub filled_long : length places ≡ limit
  filled_long =
      ap length e
      ∙ omega (arith, length-append (sorted_places word) (replicate (limit - length word) limit), length-replicate (limit - length word) limit, sorted_length word)

  same_at : (k : ℕ) → get_or places k limit ≡ get_or (sorted_places word) k limit
  same_at k = ap (λ (l : List ℕ). get_or l k limit) e ∙ filled_at (sorted_places word) (limit - length word) k

  next_same : (at : ℕ) → next_kept word places at ≡ next_kept word (sorted_places word) at
  next_same at = rw (same_at at, same_at (at + 1))

  pub seen_next : (at left : ℕ) → at < length word → seen word (next_kept word places at) left ≡ seen word at (suc left)
  seen_next at left l =
      let long : at < length (sorted_places word) = omega (arith, sorted_length word) in
      ap (λ (k : ℕ). seen word k left) (next_same at)
      ∙ sym (ap (λ (l : List ℕ). slice_get l (suc left)) (compose_next word (sorted_places word) at h long))

  -- what stands here is the first of them
  pub seen_now : (at : ℕ) → slice_get (take (length word) places) at ≡ seen word at 0
  seen_now at = go (dec_lt at (length word))
    where
      whole : length (take (length word) places) ≡ length word
      whole = length-take-le (length word) places (omega (arith, filled_long))

      go : Dec (at < length word) → slice_get (take (length word) places) at ≡ seen word at 0
      go (yes l) =
          let long : at < length (sorted_places word) = omega (arith, sorted_length word) in
          slice_get-get_or (take (length word) places) at limit (omega (arith, whole))
          ∙ ap Some (get_or-take (length word) places at limit l ∙ same_at at)
          ∙ sym (ap (λ (l : List ℕ). slice_get l 0) (compose_next word (sorted_places word) at h long))
      go (no n) = slice_get_past (take (length word) places) at (omega (arith, whole)) ∙ seen_none word at 0 (omega arith)
