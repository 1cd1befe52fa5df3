-- Looking alike is an equivalence on labels, since being identical is one, and it is what the call tells. A label looks like its stored form.
-- Assumes nothing.
use mathlib.Core.Path.{◌≡◌, refl, sym, ap, subst, ◌∙◌}
use mathlib.Core.Bool.{Bool, true, false}
use mathlib.Core.List.{List}
use Prim.Native.Nat.{ℕ}
use native.Mathlib.Omega.{arith}
use lib.Dec.{T}
use Rattle.letters.specs.Weights.{bit_if}
use Rattle.letters.proofs.Tests.{is_true}
use Rattle.formula.proofs.Lists.{same_list, same_list_equal, same_list_refl}
use Rattle.storage.specs.Stored.{stored_form}
use Rattle.skeletons.specs.Skeleton.{skeleton_of}
use Rattle.labelling.specs.Labelling.{IsLabel, skeleton}
use Rattle.labelling.proofs.Laws.{own_again, form_is_label}
use Rattle.likeness.specs.Likeness.{LookAlike, Likened}

pub alike_itself : (word : List ℕ) (n : ℕ) → IsLabel word n → LookAlike word word
alike_itself word n l = record { first_count = n; first_label = l; second_count = n; second_label = l; same = refl }

pub alike_turned : (first second : List ℕ) → LookAlike first second → LookAlike second first
alike_turned first second a =
    record {
      first_count = a.second_count;
      first_label = a.second_label;
      second_count = a.first_count;
      second_label = a.first_label;
      same = sym a.same;
    }

pub alike_through : (first second third : List ℕ) → LookAlike first second → LookAlike second third → LookAlike first third
alike_through first second third a b =
    record {
      first_count = a.first_count;
      first_label = a.first_label;
      second_count = b.second_count;
      second_label = b.second_label;
      same = a.same ∙ b.same;
    }

-- what is told is 1 exactly where they look alike
pub told_alike : (first second : List ℕ) → Likened first second 1 → LookAlike first second
told_alike first second l = record {
  first_count = l.first_count;
  first_label = l.first_label;
  second_count = l.second_count;
  second_label = l.second_label;
  same = same_list_equal (skeleton first) (skeleton second) (go (same_list (skeleton first) (skeleton second)) l.told);
}
  where
    go : (b : Bool) → 1 ≡ bit_if b 1 → T b
    go true e = tt
    go false e = omega arith

pub alike_told : (first second : List ℕ) (k : ℕ) → LookAlike first second → Likened first second k → k ≡ 1
alike_told first second k a l =
    l.told
    ∙ ap (λ (b : Bool). bit_if b 1)
    (is_true (same_list (skeleton first) (skeleton second)) (subst (λ (s : List ℕ). T (same_list (skeleton first) s)) a.same (same_list_refl (skeleton first))))

pub form_alike : (word : List ℕ) (n : ℕ) → IsLabel word n → LookAlike word (stored_form word)
form_alike word n l =
    record {
      first_count = n;
      first_label = l;
      second_count = n;
      second_label = form_is_label word n l;
      same = sym (ap skeleton_of (own_again word n l));
    }
