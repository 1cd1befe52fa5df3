-- `book_keys::put_key` meets its contract: the used bytes are copied behind the number.
-- Assumes nothing.
use mathlib.Core.Path.{◌≡◌, refl, sym, ap, ◌∙◌}
use mathlib.Core.List.{List, ◌++◌}
use Prim.Native.Nat.{ℕ, ◌+◌, ◌*◌, ◌-◌, ◌≤◌}
use native.Mathlib.Numerals.{add-one}
use native.Mathlib.Omega.{arith}
use borrow.Rule.Slice.PartMut.{put_mid}
use lib.ListN.{length, take, drop, set, length-set}
use lib.Seq.{sets, sets-eq, length-take-le, take_all}
use Rattle.std.proofs.lemmas.Slice.{put_mid-paste}
use Rattle.formula.specs.Limits.{weight_count}
use Rattle.book_keys.proofs.put_key.Goals as goal

-- a part of a list that is written over holds what is stored there
part_stored : (i k : ℕ) (l ys vs : List ℕ) → ys ≡ vs → k ≡ length vs → i + k ≤ length l → put_mid i k l ys ≡ sets l i vs
part_stored i k l ys vs same long fits =
    put_mid-paste i k l ys vs (length vs) same (sym long) refl
    ∙ ap (λ (m : List ℕ). take i l ++ m ++ drop (i + length vs) l) (take_all (length vs) vs (omega arith))
    ∙ sym (sets-eq vs l i (omega arith))

pub returns : goal.returns
returns c =
    let s = c.args in
    let l : List ℕ = set s.keys.now s.from s.count in
    let vs : List ℕ = take (weight_count * s.count) s.key.now in
    let long : length vs ≡ weight_count * s.count = length-take-le _ _ c.requires.1 in
    part_stored (s.from + 1) (s.from + 1 + weight_count * s.count - (s.from + 1)) l c.copy_from_slice.new.self vs c.copy_from_slice.ensures.after
    (omega (arith, long)) (omega (arith, c.requires.2, length-set s.keys.now s.from s.count))
    ∙ ap (λ (p : ℕ). sets l p vs) (add-one s.from)
