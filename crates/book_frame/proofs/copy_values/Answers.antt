-- `book_frame::copy_values` meets its contract. The invariant is `Copied`: the values of the bytes passed are stored.
-- Assumes nothing.
use mathlib.Core.Path.{◌≡◌, sym, ap, subst, ◌∙◌}
use mathlib.Core.List.{List, ◌++◌, map}
use Prim.Native.Nat.{ℕ, ◌+◌, ◌-◌, ◌≤◌, ◌<◌}
use native.Mathlib.Nat.{zero-add}
use native.Mathlib.Omega.{arith}
use lib.ListN.{length, get_or, drop, set}
use Rattle.memory.proofs.Stores.{sets_front}
use Rattle.memory.proofs.Copied.{Copied, copied_more, copied_all}
use Rattle.entries.specs.Entries.{value_of}
use Rattle.book_frame.proofs.Parts.{part, part_length, part_at, length_values, value_at}
use Rattle.book_frame.proofs.copy_values.Goals as goal

module _ (b : List ℕ) (from count : ℕ) (within : from + count ≤ length b) (l : List ℕ) where
  abbrev values : List ℕ
  values = map value_of (part b from count)

  -- one value more
  copied_value : (stored : List ℕ) (next v : ℕ) → Copied values l 0 stored next → next < count → v ≡ value_of (get_or b (from + next) 0)
      → Copied values l 0 (set stored next v) (next + 1)
  copied_value stored next v c h e =
      subst (λ (k : ℕ). Copied values l 0 (set stored k v) (next + 1)) (zero-add next)
      (subst (λ (x : ℕ). Copied values l 0 (set stored (0 + next) x) (next + 1)) (value_at b from count next within h ∙ sym e)
      (copied_more values l 0 stored next 0 c (omega (arith, length_values b from count within))))

  -- all values
  copied_values : (stored : List ℕ) (next : ℕ) → Copied values l 0 stored next → count ≤ next → count ≤ length l → stored ≡ values ++ drop count l
  copied_values stored next c h fits =
      let long = length_values b from count within in
      copied_all values l 0 stored next c (omega (arith, long)) ∙ sets_front values l (omega (arith, long)) ∙ ap (λ (k : ℕ). values ++ drop k l) long

pub loop-place-preserved : goal.loop-place-preserved
loop-place-preserved c =
    let l = c.loop-place in
    let s = c.args in
    let b = s.book.now in
    let n : ℕ = s.from + s.count - s.from in
    let within : l.place < n = omega (arith, part_length b s.from n (omega arith), c.loop-place-test.true) in
    copied_value b s.from s.count c.requires.0 s.output.now l.output l.place c.value_of.result l.invariant (omega arith)
    (c.value_of.ensures ∙ ap value_of (part_at b s.from n l.place within))

pub returns : goal.returns
returns c =
    let l = c.loop-place in
    let s = c.args in
    let n : ℕ = s.from + s.count - s.from in
    copied_values s.book.now s.from s.count c.requires.0 s.output.now l.output l.place l.invariant
    (omega (arith, part_length s.book.now s.from n (omega arith), c.loop-place-test.false)) c.requires.1
