-- Document 01, "The letters": so many values are admitted of each class, 75 in all, which antt counts over 1000 to 104F; a value outside is foreign.
-- Assumes nothing.
use mathlib.Core.Path.{◌≡◌, refl, ap, sym, subst, ◌∙◌}
use mathlib.Core.Bool.{Bool, true, false, not, ◌||◌}
use mathlib.Core.List.{List, [], ◌∷◌, map}
use Prim.Native.Nat.{ℕ, ◌+◌, ◌-◌, ◌≤◌, ◌<◌}
use native.Mathlib.Decide.{dec_lt}
use native.Mathlib.Omega.{arith}
use lib.Dec.{T, eqb, leb, ltb, leb→le}
use borrow.Author.Tests.{le-leb, ne_eqb}
use Rattle.letters.specs.Choice.{pick}
use Rattle.letters.specs.Letters.{within, kind_of, is_admitted}
use Rattle.letters.specs.declared.kind.Kind.{Kind}
use Rattle.letters.specs.declared.kind.Kind.TheVariants.{Consonant, IndependentVowel, Medial, VowelMark, Tone, Killer, Stacker, GreatSa, Digit, Stop, Sign, Foreign}
use Rattle.letters.proofs.Picks.{and_yes, or_no, above_range, below_range}
use Rattle.letters.proofs.Table.{up_to, below}
pub use Rattle.letters.specs.Counting.{up_from, count}

-- the 80 values 1000 to 104F
abbrev pub chart : List ℕ
chart = up_from 0x1000 80

-- a test that passes at each value of the chart holds of each
pub on_chart : (f : ℕ → Bool) → T (up_to (λ (i : ℕ). f (0x1000 + i)) 80) → (x : ℕ) → 0x1000 ≤ x → x ≤ 0x104F → T (f x)
on_chart f t x l h =
    subst (λ (y : ℕ). T (f y)) (let e : 0x1000 + (x - 0x1000) ≡ x = omega arith in e)
    (below (λ (i : ℕ). f (0x1000 + i)) 80 t (x - 0x1000) (omega arith))

-- the kinds, numbered in the order of their declaration
abbrev pub kind_number : Kind → ℕ
kind_number Consonant = 0
kind_number IndependentVowel = 1
kind_number Medial = 2
kind_number VowelMark = 3
kind_number Tone = 4
kind_number Killer = 5
kind_number Stacker = 6
kind_number GreatSa = 7
kind_number Digit = 8
kind_number Stop = 9
kind_number Sign = 10
kind_number Foreign = 11

pub class_counts :
    map (λ (n : ℕ). count (λ (x : ℕ). eqb (kind_number (kind_of x)) n) chart) (up_from 0 11)
    ≡ 34 ∷ 7 ∷ 4 ∷ 9 ∷ 2 ∷ 1 ∷ 1 ∷ 1 ∷ 10 ∷ 2 ∷ 4 ∷ []
unfolding pick
class_counts = refl

pub admitted_count : count is_admitted chart ≡ 75
admitted_count = refl

-- any class but that of the foreign values
named : Kind → Bool
named k = ltb (kind_number k) 11

named_choice : (b rest : Bool) (k m : Kind) → named k ≡ true → rest ≡ named m → (b || rest) ≡ named (pick b k m)
unfolding pick
named_choice true rest k m e f = sym e
named_choice false rest k m e f = f

named_last : (b : Bool) (k : Kind) → named k ≡ true → b ≡ named (pick b k Foreign)
unfolding pick named
named_last true k e = sym e
named_last false k e = refl

admitted_named : (x : ℕ) → is_admitted x ≡ named (kind_of x)
unfolding named
admitted_named x = search (named_choice, named_last) depth 14

unnamed : (k : Kind) → T (not (named k)) → k ≡ Foreign
unfolding named
unnamed Consonant t = absurd t
unnamed IndependentVowel t = absurd t
unnamed Medial t = absurd t
unnamed VowelMark t = absurd t
unnamed Tone t = absurd t
unnamed Killer t = absurd t
unnamed Stacker t = absurd t
unnamed GreatSa t = absurd t
unnamed Digit t = absurd t
unnamed Stop t = absurd t
unnamed Sign t = absurd t
unnamed Foreign t = refl

-- a value is admitted unless its kind is foreign
pub unadmitted_foreign : (x : ℕ) → is_admitted x ≡ false → kind_of x ≡ Foreign
unadmitted_foreign x e = unnamed (kind_of x) (subst (λ (b : Bool). T (not b)) (sym e ∙ admitted_named x) tt)

pub foreign_unadmitted : (x : ℕ) → kind_of x ≡ Foreign → is_admitted x ≡ false
unfolding named
foreign_unadmitted x e = admitted_named x ∙ ap named e

-- no value of the chart is below 1000 or above 104F
below_value : (a x : ℕ) → x < 0x1000 → T (leb 0x1000 a) → eqb x a ≡ false
below_value a x l t = let h : 0x1000 ≤ a = leb→le 0x1000 a t in ne_eqb x a (λ (e : x ≡ a). let z : ⊥ = omega arith in z)

above_value : (a x : ℕ) → 0x104F < x → T (leb a 0x104F) → eqb x a ≡ false
above_value a x l t = let h : a ≤ 0x104F = leb→le a 0x104F t in ne_eqb x a (λ (e : x ≡ a). let z : ⊥ = omega arith in z)

pub below_foreign : (x : ℕ) → x < 0x1000 → kind_of x ≡ Foreign
below_foreign x l = unadmitted_foreign x (search (or_no, below_range, below_value, tt) depth 14)

pub above_foreign : (x : ℕ) → 0x104F < x → kind_of x ≡ Foreign
above_foreign x l = unadmitted_foreign x (search (or_no, above_range, above_value, tt) depth 14)

-- a value is below the chart, above it or on it
pub by_chart : {A : Type 0} (x : ℕ) → (x < 0x1000 → A) → (0x104F < x → A) → (0x1000 ≤ x → x ≤ 0x104F → A) → A
by_chart {A} x low high on = go (dec_lt x 0x1000) (dec_lt 0x104F x)
  where
    go : Dec (x < 0x1000) → Dec (0x104F < x) → A
    go (yes l) d = low l
    go (no l) (yes h) = high h
    go (no l) (no h) = on (omega arith) (omega arith)

pub off_chart : {A : Type 0} (x : ℕ) → (x < 0x1000 → A) → (0x104F < x → A) → within 0x1000 0x104F x ≡ false → A
off_chart x low high e =
    by_chart x low high
    (λ l h.
    let t : within 0x1000 0x104F x ≡ true = and_yes (leb 0x1000 x) (leb x 0x104F) (le-leb 0x1000 x l) (le-leb x 0x104F h) in
    let z : ◌≡◌ {A = ℕ} 0 1 = cc in
    let n : ⊥ = omega arith in
    absurd n)

-- "all outside 1000 to 104F"
pub outside_foreign : (x : ℕ) → within 0x1000 0x104F x ≡ false → kind_of x ≡ Foreign
outside_foreign x = off_chart x (below_foreign x) (above_foreign x)
