-- A test that passes at every vowel or medial group of the lists passes at any; and the vowel and the group that are none.
-- Assumes nothing.
use mathlib.Core.Path.{◌≡◌, refl}
use mathlib.Core.Bool.{Bool, true, false}
use lib.Dec.{T}
use Rattle.letters.specs.Marks.{neither, ya, ra, MedialGroup, group, medial_groups, no_medial, Vowel, no_vowel, vowel_aa, vowel_i, vowel_ii, vowel_u, vowel_uu, vowel_e, vowel_ai, vowel_e_aa, vowel_e_aa_killer, vowel_am, vowel_i_u, vowel_u_am, vowels}
use Rattle.formula.specs.Syllable.{is_no_medial, is_no_vowel}
use Rattle.formula.proofs.Lists.{every, every_all, All}

-- a test that passes at every vowel of the list passes at any vowel
pub each_vowel : (f : Vowel → Bool) → T (every f vowels) → (v : Vowel) → T (f v)
each_vowel f t v = go (every_all f (λ (u : Vowel). T (f u)) (λ (u : Vowel). λ (s : T (f u)). s) vowels t) v
  where
    go : All (λ (u : Vowel). T (f u)) vowels → (v : Vowel) → T (f v)
    go a no_vowel = a.0
    go a (vowel_aa false) = a.1.0
    go a (vowel_aa true) = a.1.1.0
    go a vowel_i = a.1.1.1.0
    go a vowel_ii = a.1.1.1.1.0
    go a vowel_u = a.1.1.1.1.1.0
    go a vowel_uu = a.1.1.1.1.1.1.0
    go a vowel_e = a.1.1.1.1.1.1.1.0
    go a vowel_ai = a.1.1.1.1.1.1.1.1.0
    go a (vowel_e_aa false) = a.1.1.1.1.1.1.1.1.1.0
    go a (vowel_e_aa true) = a.1.1.1.1.1.1.1.1.1.1.0
    go a (vowel_e_aa_killer false) = a.1.1.1.1.1.1.1.1.1.1.1.0
    go a (vowel_e_aa_killer true) = a.1.1.1.1.1.1.1.1.1.1.1.1.0
    go a vowel_am = a.1.1.1.1.1.1.1.1.1.1.1.1.1.0
    go a vowel_i_u = a.1.1.1.1.1.1.1.1.1.1.1.1.1.1.0
    go a vowel_u_am = a.1.1.1.1.1.1.1.1.1.1.1.1.1.1.1.0

pub each_medial : (f : MedialGroup → Bool) → T (every f medial_groups) → (m : MedialGroup) → T (f m)
each_medial f t m = go (every_all f (λ (g : MedialGroup). T (f g)) (λ (g : MedialGroup). λ (s : T (f g)). s) medial_groups t) m
  where
    go : All (λ (g : MedialGroup). T (f g)) medial_groups → (m : MedialGroup) → T (f m)
    go a (group neither false false) = a.0
    go a (group ya false false) = a.1.0
    go a (group ra false false) = a.1.1.0
    go a (group neither true false) = a.1.1.1.0
    go a (group neither false true) = a.1.1.1.1.0
    go a (group ya true false) = a.1.1.1.1.1.0
    go a (group ra true false) = a.1.1.1.1.1.1.0
    go a (group ya false true) = a.1.1.1.1.1.1.1.0
    go a (group ra false true) = a.1.1.1.1.1.1.1.1.0
    go a (group neither true true) = a.1.1.1.1.1.1.1.1.1.0
    go a (group ya true true) = a.1.1.1.1.1.1.1.1.1.1.0
    go a (group ra true true) = a.1.1.1.1.1.1.1.1.1.1.1.0

-- the tests for no medial and no vowel leave one
pub no_medial_is : (m : MedialGroup) → T (is_no_medial m) → m ≡ no_medial
no_medial_is (group neither false false) i = refl
no_medial_is (group neither false true) i = absurd i
no_medial_is (group neither true h) i = absurd i
no_medial_is (group ya w h) i = absurd i
no_medial_is (group ra w h) i = absurd i

pub no_vowel_is : (v : Vowel) → T (is_no_vowel v) → v ≡ no_vowel
no_vowel_is no_vowel i = refl
no_vowel_is (vowel_aa _) i = elim i [ ]
no_vowel_is vowel_i i = elim i [ ]
no_vowel_is vowel_ii i = elim i [ ]
no_vowel_is vowel_u i = elim i [ ]
no_vowel_is vowel_uu i = elim i [ ]
no_vowel_is vowel_e i = elim i [ ]
no_vowel_is vowel_ai i = elim i [ ]
no_vowel_is (vowel_e_aa _) i = elim i [ ]
no_vowel_is (vowel_e_aa_killer _) i = elim i [ ]
no_vowel_is vowel_am i = elim i [ ]
no_vowel_is vowel_i_u i = elim i [ ]
no_vowel_is vowel_u_am i = elim i [ ]
