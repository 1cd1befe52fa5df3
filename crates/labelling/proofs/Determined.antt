-- Each promise determines its answer: the tests exclude one another in their order, and each of them fixes its place.
-- Assumes nothing.
use mathlib.Core.Path.{◌≡◌, sym, ap, ◌∙◌}
use mathlib.Core.List.{List}
use Prim.Native.Nat.{ℕ}
use native.Mathlib.Omega.{arith}
use lib.ListN.{length}
use Rattle.refusals.specs.Outcome.{Outcome, accepts, accepts_both, absent, refuses}
use Rattle.refusals.proofs.Determined.{Same, writes_determined}
use Rattle.storage.specs.Stored.{stored_form}
use Rattle.normaliser.proofs.Determined.{store_refused_alike, stored_not_refused, stores_alike}
use Rattle.label_rules.specs.Rules.{label_of}
use Rattle.labelling.specs.Labelling.{IsLabel, LabelRefusedWith, no_word, ruled_out, LabelAnswers, skeleton, SkeletonRight}

module _ (word : List ℕ) where
  pub label_refused_alike : (n p m q : ℕ) → LabelRefusedWith word n p → LabelRefusedWith word m q → refuses n p ≡ refuses m q
  label_refused_alike n p m q (no_word r) (no_word s) = store_refused_alike word n p m q r s
  label_refused_alike n p m q (no_word r) (ruled_out {n = k} s e) = absurd (stored_not_refused word k n p s r)
  label_refused_alike n p m q (ruled_out {n = k} s e) (no_word r) = absurd (stored_not_refused word k m q s r)
  label_refused_alike n p m q (ruled_out {n = k} s e) (ruled_out {n = l} t f) =
      sym e ∙ ap (label_of (stored_form word)) (stores_alike word k l s t) ∙ f

  pub label_not_refused : (k n p : ℕ) → IsLabel word k → LabelRefusedWith word n p → ⊥
  label_not_refused k n p l (no_word r) = stored_not_refused word k n p l.stores r
  label_not_refused k n p l (ruled_out {n = j} s e) =
      let same : accepts k ≡ refuses n p = sym l.meets ∙ ap (label_of (stored_form word)) (stores_alike word k j l.stores s) ∙ e in
      let z : ◌≡◌ {A = ℕ} 0 1 = cc in
      omega arith

  pub labels_alike : (n m : ℕ) → IsLabel word n → IsLabel word m → n ≡ m
  labels_alike n m l k = stores_alike word n m l.stores k.stores

  -- two answers to whether the word is a label are the same
  pub label_determined : (o r : Outcome) → LabelAnswers word o → LabelAnswers word r → o ≡ r
  label_determined (accepts n) (accepts m) a b = ap accepts (labels_alike n m a b)
  label_determined (accepts n) (accepts_both m k) a b = absurd b
  label_determined (accepts n) absent a b = absurd b
  label_determined (accepts n) (refuses m q) a b = absurd (label_not_refused n m q a b)
  label_determined (accepts_both n k) r a b = absurd a
  label_determined absent r a b = absurd a
  label_determined (refuses n p) (accepts m) a b = absurd (label_not_refused m n p b a)
  label_determined (refuses n p) (accepts_both m k) a b = absurd b
  label_determined (refuses n p) absent a b = absurd b
  label_determined (refuses n p) (refuses m q) a b = label_refused_alike n p m q a b

  -- two outcomes of writing its skeleton to the same output are the same, and so is what they leave there
  pub skeleton_determined : (before after final : List ℕ) (first second : Outcome) → SkeletonRight word before after first
      → SkeletonRight word before final second → Same first second after final
  skeleton_determined =
      writes_determined (LabelRefusedWith word) (IsLabel word) (λ (_ : ℕ). skeleton word) (λ (_ : ℕ). length (skeleton word)) label_refused_alike labels_alike
      label_not_refused
