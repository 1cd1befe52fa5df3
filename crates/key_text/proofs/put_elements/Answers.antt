-- `key_text::put_elements` meets its contract. The loop's invariant is `Further`: the elements so far are written, with what stands between behind each but the last of all.
-- Assumes nothing.
use Prim.Native.Nat.{◌<◌}
use native.Mathlib.Numerals.{add-one}
use native.Mathlib.Omega.{arith}
use lib.ListN.{length}
use Rattle.key_text.proofs.Elements.{element_text}
use Rattle.key_text.proofs.Hyphens.{put_followed, put_last, further_more, further_room, further_whole}
use Rattle.key_text.proofs.put_elements.Goals as goal
use Rattle.key_text.proofs.put_elements.Goals.{then-number-elements, else-number-elements}

pub put-next-requires : goal.put-next-requires
put-next-requires g c =
    let room = further_room c.loop-number.invariant c.loop-number-test.true c.requires.0 in
    omega arith

pub put_text-next-requires : goal.put_text-next-requires
put_text-next-requires g c =
    let room = further_room c.loop-number.invariant c.loop-number-test.true c.requires.0 in
    omega (arith, c.put-next.ensures.next, g.T.Element.sized c.index-elements-number.result)

pub loop-number-preserved : goal.loop-number-preserved
loop-number-preserved g c =
    let element = g.T.Element in
    let same = element_text element.text c.args.elements.now c.loop-number.number c.loop-number-test.true c.index-elements-number.is in
    let longer = further_more c.loop-number.invariant same (element.sized c.index-elements-number.result) c.put-next.ensures in
    elim c.if-number-elements.branch [
      | then-number-elements w ↦ rw (w.out-is, w.next-is, add-one) (longer _ _ (put_followed (omega (arith, w.if-number-elements.true)) w.put_text-next.ensures))
      | else-number-elements w ↦ rw (w.out-is, w.next-is, add-one) (longer _ _ (put_last _ _ _ (omega (arith, w.if-number-elements.false))))
    ]

pub returns : goal.returns
returns g c =
    let some : 0 < length c.args.elements.now = grind arith in
    further_whole c.loop-number.invariant some (omega arith)
