-- The parts of `is_record`, and the numbers of each part of a syllable: they pass the tests, and reading them back gives the part.
-- Assumes nothing.
use mathlib.Core.Path.{◌≡◌, refl, ap}
use mathlib.Core.Bool.{Bool, true, false, not, ◌&&◌, ◌||◌}
use mathlib.Core.List.{[], ◌∷◌}
use Prim.Native.Nat.{ℕ, zero, suc, ◌+◌, ◌≤◌, ◌<◌}
use native.Mathlib.Omega.{arith}
use lib.Dec.{T, eqb, leb, eqb→eq, leb→le}
use borrow.Author.Tests.{eq-eqb, ne_eqb, le-leb}
use Rattle.letters.specs.Choice.{pick}
use Rattle.letters.proofs.Table.{below}
use Rattle.letters.specs.Marks.{neither, ya, ra, MedialGroup, group, Vowel, no_vowel, vowel_aa, vowel_i, vowel_ii, vowel_u, vowel_uu, vowel_e, vowel_ai, vowel_e_aa, vowel_e_aa_killer, vowel_am, vowel_i_u, vowel_u_am, ToneMark, no_tone, dot, visarga}
use Rattle.letters.specs.Weights.{is_head, is_final_letter, medial_weight, vowel_weight, vowel_tall, final_number, tone_weight}
use Rattle.letters.proofs.Tests.{of_true, either, implies, implied}
use Rattle.formula.proofs.Classes.{head_bounds}
use Rattle.formula.proofs.Lists.{both, both_left, both_right}
use Rattle.formula.specs.Syllable.{Final, no_final, plain, plain_pair, stacked, kinzi, great_sa, carries_marks, carries_final, is_no_medial, is_no_vowel, is_no_final, is_no_tone, is_closed, is_final}
use Rattle.formula.specs.Record.{final_number_of, second_final_number_of, link_of}
use Rattle.rows.proofs.Complete.{low, high, inside}
use Rattle.syllable_record.specs.Decode.{medial_of_weight, vowel_of_weight, letter_of_number, plain_of_numbers, final_of_numbers, tone_of_weight}
use Rattle.syllable_record.specs.Record.{is_vowel_numbers, is_final_numbers, is_second_final_number, is_tone_number, is_record}
use Rattle.syllable_record.proofs.Bytes.{on_pairs}

-- the parts of `is_record`
pub record Tested (head medial vowel tall letter second link tone : ℕ) : Type 0 where
  pub head_test : T (is_head (0x1000 + head))
  pub medial_test : T (leb medial 11)
  pub vowel_test : T (is_vowel_numbers vowel tall)
  pub final_test : T (is_final_numbers letter link)
  pub second_final_test : T (is_second_final_number second link)
  pub tone_test : T (is_tone_number link tone)
  pub marks_test : T (carries_marks (0x1000 + head) || (eqb medial 0 && eqb vowel 0))
  pub closing_test : T (carries_final (0x1000 + head) || (eqb link 0 && eqb tone 0))

module _ (head medial vowel tall letter second link tone : ℕ) where
  -- the tests of `is_record`, each with those before it
  abbrev up_to_medial : Bool
  up_to_medial = is_head (0x1000 + head) && leb medial 11

  abbrev up_to_vowel : Bool
  up_to_vowel = up_to_medial && is_vowel_numbers vowel tall

  abbrev up_to_final : Bool
  up_to_final = up_to_vowel && is_final_numbers letter link

  abbrev up_to_second_final : Bool
  up_to_second_final = up_to_final && is_second_final_number second link

  abbrev up_to_tone : Bool
  up_to_tone = up_to_second_final && is_tone_number link tone

  abbrev marks : Bool
  marks = carries_marks (0x1000 + head) || (eqb medial 0 && eqb vowel 0)

  abbrev closing : Bool
  closing = carries_final (0x1000 + head) || (eqb link 0 && eqb tone 0)

  pub tested : T (is_record (head ∷ medial ∷ vowel ∷ tall ∷ letter ∷ second ∷ link ∷ tone ∷ [])) → Tested head medial vowel tall letter second link tone
  unfolding is_record
  tested t =
      let with_marks : T (up_to_tone && marks) = both_left (up_to_tone && marks) closing t in
      let with_tone : T up_to_tone = both_left up_to_tone marks with_marks in
      let with_second_final : T up_to_second_final = both_left up_to_second_final (is_tone_number link tone) with_tone in
      let with_final_lem : T up_to_final = both_left up_to_final (is_second_final_number second link) with_second_final in
      let with_vowel : T up_to_vowel = both_left up_to_vowel (is_final_numbers letter link) with_final_lem in
      let with_medial : T up_to_medial = both_left up_to_medial (is_vowel_numbers vowel tall) with_vowel in
      record {
        head_test = both_left (is_head (0x1000 + head)) (leb medial 11) with_medial;
        medial_test = both_right (is_head (0x1000 + head)) (leb medial 11) with_medial;
        vowel_test = both_right up_to_medial (is_vowel_numbers vowel tall) with_vowel;
        final_test = both_right up_to_vowel (is_final_numbers letter link) with_final_lem;
        second_final_test = both_right up_to_final (is_second_final_number second link) with_second_final;
        tone_test = both_right up_to_second_final (is_tone_number link tone) with_tone;
        marks_test = both_right up_to_tone marks with_marks;
        closing_test = both_right (up_to_tone && marks) closing t;
      }

  pub test_passes : Tested head medial vowel tall letter second link tone → T (is_record (head ∷ medial ∷ vowel ∷ tall ∷ letter ∷ second ∷ link ∷ tone ∷ []))
  unfolding is_record
  test_passes p =
      let with_medial : T up_to_medial = both (is_head (0x1000 + head)) (leb medial 11) p.head_test p.medial_test in
      let with_vowel : T up_to_vowel = both up_to_medial (is_vowel_numbers vowel tall) with_medial p.vowel_test in
      let with_final_lem : T up_to_final = both up_to_vowel (is_final_numbers letter link) with_vowel p.final_test in
      let with_second_final : T up_to_second_final = both up_to_final (is_second_final_number second link) with_final_lem p.second_final_test in
      let with_tone : T up_to_tone = both up_to_second_final (is_tone_number link tone) with_second_final p.tone_test in
      both (up_to_tone && marks) closing (both up_to_tone marks with_tone p.marks_test) p.closing_test

-- a head's value is at least 1000
pub head_least : (h : ℕ) → T (is_head h) → 0x1000 ≤ h
head_least h t = (head_bounds h t).0

-- a medial group by its weight, which is one of the twelve
pub record MedialRead (m : MedialGroup) : Type 0 where
  pub back : medial_of_weight (medial_weight m) ≡ m
  pub passes : T (leb (medial_weight m) 11)
  pub absent : is_no_medial m ≡ eqb (medial_weight m) 0

pub medial_read : (m : MedialGroup) → MedialRead m
unfolding medial_of_weight pick
medial_read (group neither false false) = record { back = refl; passes = tt; absent = refl }
medial_read (group neither false true) = record { back = refl; passes = tt; absent = refl }
medial_read (group neither true false) = record { back = refl; passes = tt; absent = refl }
medial_read (group neither true true) = record { back = refl; passes = tt; absent = refl }
medial_read (group ya false false) = record { back = refl; passes = tt; absent = refl }
medial_read (group ya false true) = record { back = refl; passes = tt; absent = refl }
medial_read (group ya true false) = record { back = refl; passes = tt; absent = refl }
medial_read (group ya true true) = record { back = refl; passes = tt; absent = refl }
medial_read (group ra false false) = record { back = refl; passes = tt; absent = refl }
medial_read (group ra false true) = record { back = refl; passes = tt; absent = refl }
medial_read (group ra true false) = record { back = refl; passes = tt; absent = refl }
medial_read (group ra true true) = record { back = refl; passes = tt; absent = refl }

-- each of the twelve weights is that of its group
pub medial_weighs : (n : ℕ) → T (leb n 11) → medial_weight (medial_of_weight n) ≡ n
unfolding medial_of_weight pick
medial_weighs n t =
    let small : n ≤ 11 = leb→le n 11 t in
    eqb→eq _ n (below (λ (k : ℕ). eqb (medial_weight (medial_of_weight k)) k) 12 tt n (omega arith))

-- a vowel by its weight and whether its AA is tall
pub record VowelRead (v : Vowel) : Type 0 where
  pub back : vowel_of_weight (vowel_weight v) (eqb (vowel_tall v) 1) ≡ v
  pub passes : T (is_vowel_numbers (vowel_weight v) (vowel_tall v))
  pub absent : is_no_vowel v ≡ eqb (vowel_weight v) 0

pub vowel_read : (v : Vowel) → VowelRead v
unfolding vowel_of_weight is_vowel_numbers pick
vowel_read no_vowel = record { back = refl; passes = tt; absent = refl }
vowel_read (vowel_aa false) = record { back = refl; passes = tt; absent = refl }
vowel_read (vowel_aa true) = record { back = refl; passes = tt; absent = refl }
vowel_read vowel_i = record { back = refl; passes = tt; absent = refl }
vowel_read vowel_ii = record { back = refl; passes = tt; absent = refl }
vowel_read vowel_u = record { back = refl; passes = tt; absent = refl }
vowel_read vowel_uu = record { back = refl; passes = tt; absent = refl }
vowel_read vowel_e = record { back = refl; passes = tt; absent = refl }
vowel_read vowel_ai = record { back = refl; passes = tt; absent = refl }
vowel_read (vowel_e_aa false) = record { back = refl; passes = tt; absent = refl }
vowel_read (vowel_e_aa true) = record { back = refl; passes = tt; absent = refl }
vowel_read (vowel_e_aa_killer false) = record { back = refl; passes = tt; absent = refl }
vowel_read (vowel_e_aa_killer true) = record { back = refl; passes = tt; absent = refl }
vowel_read vowel_am = record { back = refl; passes = tt; absent = refl }
vowel_read vowel_i_u = record { back = refl; passes = tt; absent = refl }
vowel_read vowel_u_am = record { back = refl; passes = tt; absent = refl }

-- numbers that pass the test are those of a vowel
vowel_right : ℕ → ℕ → Bool
vowel_right n tall =
    implies (is_vowel_numbers n tall) (eqb (vowel_weight (vowel_of_weight n (eqb tall 1))) n && eqb (vowel_tall (vowel_of_weight n (eqb tall 1))) tall)

vowel_bounds : (n tall : ℕ) → T (is_vowel_numbers n tall) → (n < 13) × (tall < 2)
unfolding is_vowel_numbers
vowel_bounds n tall t =
    let small : n ≤ 12 = leb→le n 12 (both_left (leb n 12) _ t) in
    let flag : tall ≤ 1 =
    either (tall ≤ 1) (eqb tall 0) _ (λ e. let z : tall ≡ 0 = eqb→eq tall 0 e in omega arith)
    (λ e. let o : tall ≡ 1 = eqb→eq tall 1 (both_left (eqb tall 1) _ e) in omega arith) (both_right (leb n 12) _ t) in
    (omega arith, omega arith)

pub vowel_weighs : (n tall : ℕ) → T (is_vowel_numbers n tall)
    → (vowel_weight (vowel_of_weight n (eqb tall 1)) ≡ n) × (vowel_tall (vowel_of_weight n (eqb tall 1)) ≡ tall)
unfolding vowel_right vowel_of_weight is_vowel_numbers pick
vowel_weighs n tall t =
    let bounds = vowel_bounds n tall t in
    let right = implied (is_vowel_numbers n tall) _ (on_pairs vowel_right 13 2 tt n tall bounds.0 bounds.1) t in
    let weight = eqb (vowel_weight (vowel_of_weight n (eqb tall 1))) n in
    let flag = eqb (vowel_tall (vowel_of_weight n (eqb tall 1))) tall in
    (eqb→eq _ n (both_left weight flag right), eqb→eq _ tall (both_right weight flag right))

-- a final letter by its number
record LetterRead (c : ℕ) : Type 0 where
  pub back : letter_of_number (final_number c) ≡ c
  pub least : leb 1 (final_number c) ≡ true
  pub most : leb (final_number c) 33 ≡ true
  pub some : eqb (final_number c) 0 ≡ false

letter_read : (c : ℕ) → T (is_final_letter c) → LetterRead c
letter_read c t =
    let least : 0x1000 ≤ c = low 0x1000 0x1020 c t in
    let most : c ≤ 0x1020 = high 0x1000 0x1020 c t in
    record {
      back = omega arith;
      least = le-leb 1 (final_number c) (omega arith);
      most = le-leb (final_number c) 33 (omega arith);
      some = ne_eqb (final_number c) 0 (λ e. omega arith);
    }

-- a final by its letters' numbers and its link
pub record FinalRead (f : Final) : Type 0 where
  pub back : final_of_numbers (final_number_of f) (second_final_number_of f) (link_of f) ≡ f
  pub passes : T (is_final_numbers (final_number_of f) (link_of f))
  pub second_passes : T (is_second_final_number (second_final_number_of f) (link_of f))

pub final_read : (f : Final) → T (is_final f) → FinalRead f
unfolding final_of_numbers plain_of_numbers is_final_numbers is_second_final_number pick
final_read no_final t = record { back = refl; passes = tt; second_passes = tt }
final_read (plain c) t =
    let letter = letter_read c t in
    record { back = ap plain letter.back; passes = simp (letter.least, letter.most) tt; second_passes = tt }
final_read (plain_pair c d) t =
    let letter = letter_read c (both_left (is_final_letter c) (is_final_letter d) t) in
    let second = letter_read d (both_right (is_final_letter c) (is_final_letter d) t) in
    record {
      back = rw second.some (λ i. plain_pair (letter.back i) (second.back i));
      passes = simp (letter.least, letter.most) tt;
      second_passes = of_true (leb (final_number d) 33) second.most;
    }
final_read (stacked c) t =
    let letter = letter_read c (both_left (is_final_letter c) (not (eqb c 0x1004)) t) in
    let other : c ≡ 0x1004 → ⊥ = λ e. (rw (eq-eqb c 0x1004 e) at (both_right (is_final_letter c) (not (eqb c 0x1004)) t)) in
    record {
      back = rw (ne_eqb (final_number c) 5 (λ e. other (omega (arith, letter.back)))) (ap stacked letter.back);
      passes = simp (letter.least, letter.most) tt;
      second_passes = tt;
    }
final_read kinzi t = record { back = refl; passes = tt; second_passes = tt }
final_read great_sa t = record { back = refl; passes = tt; second_passes = tt }

pub final_absent : (f : Final) → is_no_final f ≡ eqb (link_of f) 0
final_absent no_final = refl
final_absent (plain c) = refl
final_absent (plain_pair c d) = refl
final_absent (stacked c) = refl
final_absent kinzi = refl
final_absent great_sa = refl

pub final_closed : (f : Final) → is_closed f ≡ leb (link_of f) 1
final_closed no_final = refl
final_closed (plain c) = refl
final_closed (plain_pair c d) = refl
final_closed (stacked c) = refl
final_closed kinzi = refl
final_closed great_sa = refl

-- numbers that pass the tests are those of a final; first where there is no second
pub record FinalNumbers (letter second link : ℕ) : Type 0 where
  pub numbered : final_number_of (final_of_numbers letter second link) ≡ letter
  pub second_numbered : second_final_number_of (final_of_numbers letter second link) ≡ second
  pub linked : link_of (final_of_numbers letter second link) ≡ link
  pub is : T (is_final (final_of_numbers letter second link))

final_right : ℕ → ℕ → Bool
final_right letter link =
    let final = final_of_numbers letter 0 link in
    implies (is_final_numbers letter link) ((eqb (final_number_of final) letter && eqb (second_final_number_of final) 0 && eqb (link_of final) link) && is_final final)

final_bounds : (letter link : ℕ) → T (is_final_numbers letter link) → (letter < 34) × (link < 4)
unfolding is_final_numbers
final_bounds letter link t =
    let absent = eqb link 0 && eqb letter 0 in
    let links = leb 1 link && leb link 2 in
    let great = eqb link 3 && eqb letter 31 in
    either ((letter < 34) × (link < 4)) (absent || (links && leb 1 letter && leb letter 33)) great
    (either ((letter < 34) × (link < 4)) absent (links && leb 1 letter && leb letter 33)
    (λ e. let a : link ≡ 0 = eqb→eq link 0 (both_left (eqb link 0) (eqb letter 0) e) in
    let b : letter ≡ 0 = eqb→eq letter 0 (both_right (eqb link 0) (eqb letter 0) e) in (omega arith, omega arith))
    (λ e. let b : letter ≤ 33 = leb→le letter 33 (both_right (links && leb 1 letter) (leb letter 33) e) in
    let a : link ≤ 2 = leb→le link 2 (both_right (leb 1 link) (leb link 2) (both_left links (leb 1 letter) (both_left (links && leb 1 letter) (leb letter 33) e))) in
    (omega arith, omega arith)))
    (λ e. let a : link ≡ 3 = eqb→eq link 3 (both_left (eqb link 3) (eqb letter 31) e) in
    let b : letter ≡ 31 = eqb→eq letter 31 (both_right (eqb link 3) (eqb letter 31) e) in (omega arith, omega arith)) t

one_final_numbers : (letter link : ℕ) → T (is_final_numbers letter link) → FinalNumbers letter 0 link
unfolding final_right final_of_numbers plain_of_numbers is_final_numbers pick
one_final_numbers letter link t =
    let bounds = final_bounds letter link t in
    let final = final_of_numbers letter 0 link in
    let right = implied (is_final_numbers letter link) _ (on_pairs final_right 34 4 tt letter link bounds.0 bounds.1) t in
    let number = eqb (final_number_of final) letter in
    let absent = eqb (second_final_number_of final) 0 in
    let linking = eqb (link_of final) link in
    let numbers = both_left (number && absent && linking) (is_final final) right in
    record {
      numbered = eqb→eq _ letter (both_left number absent (both_left (number && absent) linking numbers));
      second_numbered = eqb→eq _ 0 (both_right number absent (both_left (number && absent) linking numbers));
      linked = eqb→eq _ link (both_right (number && absent) linking numbers);
      is = both_right (number && absent && linking) (is_final final) right;
    }

-- a second final is a letter, and the first is plain
second_final_plain : (second link : ℕ) → (second ≡ 0 → ⊥) → T (is_second_final_number second link) → (link ≡ 1) × (second ≤ 33)
unfolding is_second_final_number pick
second_final_plain second link some t = go (eqb link 1) refl t
  where
    go : (b : Bool) → eqb link 1 ≡ b → T (pick b (leb second 33) (eqb second 0)) → (link ≡ 1) × (second ≤ 33)
    go true e u = (eqb→eq link 1 (of_true (eqb link 1) e), leb→le second 33 u)
    go false e u = absurd (some (eqb→eq second 0 u))

pub final_numbers : (letter second link : ℕ) → T (is_final_numbers letter link) → T (is_second_final_number second link) → FinalNumbers letter second link
unfolding final_of_numbers plain_of_numbers pick
final_numbers letter zero link t u = one_final_numbers letter link t
final_numbers letter (suc number) link t u =
    let second = suc number in
    let not_none : second ≡ 0 → ⊥ = λ e. omega arith in
    let some : eqb second 0 ≡ false = ne_eqb second 0 not_none in
    let is_plain = second_final_plain second link not_none u in
    let first = one_final_numbers letter 1 (rw is_plain.0 at t) in
    let letters : T (is_final_letter (letter_of_number letter) && is_final_letter (letter_of_number second)) =
    both (is_final_letter (letter_of_number letter)) (is_final_letter (letter_of_number second)) first.is (inside 0x1000 0x1020 (letter_of_number second) (omega arith) (omega (arith, is_plain.1))) in
    rw is_plain.0 (record { numbered = rw some first.numbered; second_numbered = rw some (omega arith); linked = rw some; is = rw some letters })

-- a tone by its weight
pub record ToneRead (t : ToneMark) : Type 0 where
  pub back : tone_of_weight (tone_weight t) ≡ t
  pub passes : T (leb (tone_weight t) 2)
  pub absent : is_no_tone t ≡ eqb (tone_weight t) 0

pub tone_read : (t : ToneMark) → ToneRead t
unfolding tone_of_weight pick
tone_read no_tone = record { back = refl; passes = tt; absent = refl }
tone_read dot = record { back = refl; passes = tt; absent = refl }
tone_read visarga = record { back = refl; passes = tt; absent = refl }

pub tone_weighs : (n : ℕ) → T (leb n 2) → tone_weight (tone_of_weight n) ≡ n
unfolding tone_of_weight pick
tone_weighs n t =
    let small : n ≤ 2 = leb→le n 2 t in
    eqb→eq _ n (below (λ (k : ℕ). eqb (tone_weight (tone_of_weight k)) k) 3 tt n (omega arith))
