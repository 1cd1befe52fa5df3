-- The skeleton of a label goes by its stored form alone, which is a label too; and a label without the four values is its own.
-- Assumes nothing.
use mathlib.Core.Path.{◌≡◌, sym, ap, ◌∙◌}
use mathlib.Core.Bool.{not}
use mathlib.Core.List.{List, ◌++◌}
use Prim.Native.Nat.{ℕ}
use lib.Dec.{T}
use lib.ListN.{length, take, drop}
use Rattle.formula.proofs.Lists.{every}
use Rattle.refusals.specs.Outcome.{accepts}
use Rattle.storage.specs.Stored.{stored_form}
use Rattle.storage.proofs.Rows.{gives_stored}
use Rattle.normaliser.proofs.Storing.{reads_stores}
use Rattle.label_rules.specs.Rules.{label_of}
use Rattle.skeletons.specs.Skeleton.{skeleton_of, is_replaced}
use Rattle.skeletons.proofs.Laws.{skeleton_again, own_skeleton}
use Rattle.labelling.specs.Labelling.{IsLabel, skeleton, SkeletonRight}
use Rattle.labelling.proofs.Given.{given}

-- "The word is normalised first.": a stored form is its own, so it is a label with the same skeleton
module _ (word : List ℕ) (n : ℕ) (l : IsLabel word n) where
  pub own_again : stored_form (stored_form word) ≡ stored_form word
  own_again = let r = l.stores.reads in gives_stored r.row (stored_form word) r.gives

  pub form_is_label : IsLabel (stored_form word) n
  form_is_label =
      record {
        stores = reads_stores (stored_form word) n l.stores.reads;
        meets = ap (λ (form : List ℕ). label_of form n) own_again ∙ l.meets;
      }

  -- a label with none of the four values is its own skeleton
  pub label_own_skeleton : T (every (λ (x : ℕ). not (is_replaced x)) (stored_form word)) → skeleton word ≡ stored_form word
  label_own_skeleton t = own_skeleton (stored_form word) t

-- "The skeleton's own values, put through the same replacements again, don't change.": what was written, replaced again, is itself
pub written_again : (word before after : List ℕ) (n : ℕ) → SkeletonRight word before after (accepts n) → skeleton_of (take n after) ≡ take n after
written_again word before after n right =
    let front = (given word before after n right).front in
    ap skeleton_of front ∙ skeleton_again (stored_form word) ∙ sym front

-- the skeletons that are written for two words of one stored form are the same
pub same_form_written : (first second before after final : List ℕ) (m n : ℕ) → stored_form first ≡ stored_form second
    → SkeletonRight first before after (accepts m) → SkeletonRight second before final (accepts n) → (m ≡ n) × (after ≡ final)
same_form_written first second before after final m n e a b =
    let f = given first before after m a in
    let g = given second before final n b in
    let same : skeleton first ≡ skeleton second = ap skeleton_of e in
    (f.long ∙ ap length same ∙ sym g.long, f.written ∙ ap (λ (s : List ℕ). s ++ drop (length s) before) same ∙ sym g.written)
