-- A turn of merging: what is taken is the first of what is left to merge, so what is written and what is left stay the merging of the two parts.
-- Assumes nothing.
use mathlib.Core.Path.{◌≡◌, refl, sym, ap, ◌∙◌}
use mathlib.Core.Bool.{Bool, true, false}
use mathlib.Core.List.{List, [], ◌∷◌, ◌++◌, append-nil}
use Prim.Native.Nat.{ℕ, suc, ◌+◌, ◌≤◌, ◌<◌}
use native.Mathlib.Numerals.{add-one}
use native.Mathlib.Omega.{arith}
use lib.ListN.{length, get_or, take, drop, set, take-append-drop, length-drop, length-set}
use lib.Seq.{append_snoc, drop-cons, drop-length, drop-set-lt, take-suc-set}
use lib.Seq.{slice, slice_empty, slice-cons, length-slice}
use Rattle.sorting.specs.Sorting.{merged, takes_second}
use Rattle.sorting.proofs.Ordered.{true_not_false}
use Rattle.sorting.proofs.Merges.{merged_second, merged_first, merged_nil}

module _ (less : ℕ → ℕ → Bool) where
  second_there : (xs ys : List ℕ) → takes_second less xs ys ≡ true → 0 < length xs + length ys → 0 < length ys
  second_there [] ys e h = omega arith
  second_there (x ∷ xs) [] e h = true_not_false (sym e)
  second_there (x ∷ xs) (y ∷ ys) e h = omega arith

  first_there : (xs ys : List ℕ) → takes_second less xs ys ≡ false → 0 < length xs
  first_there [] ys e = true_not_false e
  first_there (x ∷ xs) ys e = omega arith

  takes_second_lem : (xs : List ℕ) (y : ℕ) (ys : List ℕ) → takes_second less xs (y ∷ ys) ≡ true → merged less xs (y ∷ ys) ≡ y ∷ merged less xs ys
  unfolding merged
  takes_second_lem [] y ys e = refl
  takes_second_lem (x ∷ xs) y ys e = merged_second less x xs y ys e

  takes_first : (x : ℕ) (xs ys : List ℕ) → takes_second less (x ∷ xs) ys ≡ false → merged less (x ∷ xs) ys ≡ x ∷ merged less xs ys
  unfolding merged
  takes_first x xs [] e = ap (λ (l : List ℕ). x ∷ l) (sym (merged_nil less xs))
  takes_first x xs (y ∷ ys) e = merged_first less x xs y ys e

  -- which one is next: the first part is at its end, the second is, or neither
  module _ (starts : List ℕ) (first middle second : ℕ) where
    pub next_second : first ≡ middle → true ≡ takes_second less (slice first middle starts) (drop second starts)
    next_second e =
        sym (ap (λ (l : List ℕ). takes_second less l (drop second starts)) (ap (λ (n : ℕ). slice n middle starts) e ∙ slice_empty middle starts))

    pub next_first : first < middle → middle ≤ length starts → second ≡ length starts
        → false ≡ takes_second less (slice first middle starts) (drop second starts)
    next_first h m e =
        sym
        ((λ i. takes_second less (slice-cons first middle starts 0 h m i) (drop (e i) starts))
        ∙ ap (takes_second less (get_or starts first 0 ∷ slice (suc first) middle starts)) (drop-length starts))

    pub next_less : first < middle → middle ≤ length starts → second < length starts
        → takes_second less (slice first middle starts) (drop second starts) ≡ less (get_or starts second 0) (get_or starts first 0)
    next_less h m k = λ i. takes_second less (slice-cons first middle starts 0 h m i) (drop-cons starts second 0 k i)

-- in the midst of merging: what is written, and what is left of both parts
pub record Halfway (less : ℕ → ℕ → Bool) (starts : List ℕ) (middle : ℕ) (room₀ room : List ℕ) (first second next : ℕ) : Type 0 where
  pub parted : middle ≤ length starts
  pub fits : length starts ≤ length room₀
  pub in_first : first ≤ middle
  pub in_second : middle ≤ second
  pub within : second ≤ length starts
  pub passed : next + middle ≡ first + second
  pub long : length room ≡ length room₀
  pub whole : take next room ++ merged less (slice first middle starts) (drop second starts) ≡ merged less (take middle starts) (drop middle starts)
  pub behind : drop (length starts) room ≡ drop (length starts) room₀

module _ {less : ℕ → ℕ → Bool} {starts : List ℕ} {middle : ℕ} {room₀ : List ℕ} where
  pub start_halfway : middle ≤ length starts → length starts ≤ length room₀ → Halfway less starts middle room₀ room₀ 0 middle 0
  start_halfway p f =
      record {
        parted = p;
        fits = f;
        in_first = omega arith;
        in_second = omega arith;
        within = p;
        passed = omega arith;
        long = refl;
        whole = refl;
        behind = refl;
      }

  pub moved : {room room' : List ℕ} {first first' second second' next : ℕ} → room' ≡ room → first' ≡ first → second' ≡ second
      → Halfway less starts middle room₀ room first second next → Halfway less starts middle room₀ room' first' second' next
  moved p q r h = rw (p, q, r) h

  module _ {room : List ℕ} {first second next : ℕ} (a : Halfway less starts middle room₀ room first second next) where
    pub end_halfway : length starts ≤ next → room ≡ merged less (take middle starts) (drop middle starts) ++ drop (length starts) room₀
    unfolding merged
    end_halfway h =
        let f : first ≡ middle = omega (arith, a.in_first, a.within, a.passed) in
        let s : second ≡ length starts = omega (arith, a.in_first, a.within, a.passed) in
        let n : next ≡ length starts = omega (arith, a.in_first, a.within, a.passed) in
        let none : merged less (slice first middle starts) (drop second starts) ≡ [] =
        (λ i. merged less (slice (f i) middle starts) (drop (s i) starts))
        ∙ (λ i. merged less (slice_empty middle starts i) (drop-length starts i)) in
        let all : take next room ≡ merged less (take middle starts) (drop middle starts) =
        sym (append-nil (take next room)) ∙ ap (λ (l : List ℕ). take next room ++ l) (sym none) ∙ a.whole in
        sym (take-append-drop (length starts) room) ∙ (λ i. take (sym n i) room ++ a.behind i)
        ∙ ap (λ (l : List ℕ). l ++ drop (length starts) room₀) all

    module _ (h : next < length starts) where
      pub second_within : takes_second less (slice first middle starts) (drop second starts) ≡ true → second < length starts
      second_within e =
          let l = length-slice first middle starts a.parted in
          let k = length-drop second starts in
          let p = second_there less (slice first middle starts) (drop second starts) e (omega (arith, l, k, a.passed, a.in_first, a.within)) in
          omega (arith, p, k)

      pub first_within : takes_second less (slice first middle starts) (drop second starts) ≡ false → first < middle
      first_within e =
          let l = length-slice first middle starts a.parted in
          let p = first_there less (slice first middle starts) (drop second starts) e in
          omega (arith, p, l)

      -- one more is written, and it is the first of what was left
      written : (v : ℕ) (left right : List ℕ) → merged less (slice first middle starts) (drop second starts) ≡ v ∷ merged less left right
          → take (next + 1) (set room next v) ++ merged less left right ≡ merged less (take middle starts) (drop middle starts)
      written v left right e =
          let r : next < length room = omega (arith, a.long, a.fits) in
          ap (λ (l : List ℕ). l ++ merged less left right) (ap (λ (n : ℕ). take n (set room next v)) (add-one next) ∙ take-suc-set room next v r)
          ∙ append_snoc (take next room) v (merged less left right) ∙ ap (λ (l : List ℕ). take next room ++ l) (sym e) ∙ a.whole

      pub take_the_second : takes_second less (slice first middle starts) (drop second starts) ≡ true
          → Halfway less starts middle room₀ (set room next (get_or starts second 0)) first (second + 1) (next + 1)
      take_the_second e =
          let k : second < length starts = second_within e in
          let cut : drop second starts ≡ get_or starts second 0 ∷ drop (second + 1) starts =
          drop-cons starts second 0 k ∙ ap (λ (n : ℕ). get_or starts second 0 ∷ drop n starts) (sym (add-one second)) in
          record {
            parted = a.parted;
            fits = a.fits;
            in_first = a.in_first;
            in_second = omega (arith, a.in_second);
            within = omega arith;
            passed = omega (arith, a.passed);
            long = length-set room next (get_or starts second 0) ∙ a.long;
            whole =
                written (get_or starts second 0) (slice first middle starts) (drop (second + 1) starts)
                (ap (merged less (slice first middle starts)) cut
                ∙ takes_second_lem less (slice first middle starts) (get_or starts second 0) (drop (second + 1) starts)
                (ap (takes_second less (slice first middle starts)) (sym cut) ∙ e));
            behind = drop-set-lt (length starts) room next (get_or starts second 0) h ∙ a.behind;
          }

      pub take_the_first : takes_second less (slice first middle starts) (drop second starts) ≡ false
          → Halfway less starts middle room₀ (set room next (get_or starts first 0)) (first + 1) second (next + 1)
      take_the_first e =
          let k : first < middle = first_within e in
          let cut : slice first middle starts ≡ get_or starts first 0 ∷ slice (first + 1) middle starts =
          slice-cons first middle starts 0 k a.parted
          ∙ ap (λ (n : ℕ). get_or starts first 0 ∷ slice n middle starts) (sym (add-one first)) in
          record {
            parted = a.parted;
            fits = a.fits;
            in_first = omega arith;
            in_second = a.in_second;
            within = a.within;
            passed = omega (arith, a.passed);
            long = length-set room next (get_or starts first 0) ∙ a.long;
            whole =
                written (get_or starts first 0) (slice (first + 1) middle starts) (drop second starts)
                (ap (λ (l : List ℕ). merged less l (drop second starts)) cut
                ∙ takes_first less (get_or starts first 0) (slice (first + 1) middle starts) (drop second starts)
                (ap (λ (l : List ℕ). takes_second less l (drop second starts)) (sym cut) ∙ e));
            behind = drop-set-lt (length starts) room next (get_or starts first 0) h ∙ a.behind;
          }
