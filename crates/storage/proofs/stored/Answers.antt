-- `storage::stored` meets its contract. The loop's invariant is `StoredFrom`: from the front on the array holds the stored form of what is passed.
-- Assumes nothing.
use lib.ListN.{length-reverse}
use Rattle.std.proofs.Common.{arith, length, ◌≡◌, ◌∙◌, subst, ◌-◌}
use Rattle.std.proofs.lemmas.Grind.{common_steps}
use Rattle.std.proofs.lemmas.List.{length_push}
use Rattle.std.proofs.lemmas.Iterator.Adapters.{YieldsList-from_rev_slice}
use Rattle.std.proofs.lemmas.Iterator.Consumers.{YieldsList-turn, YieldsList-end}
use Rattle.storage.proofs.Passing.{StoredFrom, stored_none, stored_turn, stored_part}
use Rattle.storage.proofs.stored.Goals as goal

pub loop-x-init : goal.loop-x-init
loop-x-init c =
    let word = c.args.word.now in
    let start : length word ≡ length word - 0 = omega arith in
    subst (StoredFrom word _ _) start (stored_none word c.requires)

pub loop-x-preserved : goal.loop-x-preserved
loop-x-preserved c =
    let t = YieldsList-turn (YieldsList-from_rev_slice c.args.word.now (grind (arith, common_steps))) c.loop-x.yielded _ c.loop-x.yielded_by _ _ c.in-Some.x c.in-Some.is c.next.ensures.steps in
    let e = stored_turn c.args.word.now _ _ _ _ _ c.in-Some.x.now c.loop-x.invariant t c.put_front-front.ensures in
    rw (length_push c.loop-x.yielded c.in-Some.x) e

pub returns : goal.returns
returns c =
    let word = c.args.word.now in
    let t = YieldsList-end (YieldsList-from_rev_slice word (grind (arith, common_steps))) c.loop-x.yielded _ c.loop-x.yielded_by _ _ c.in-None.is c.next.ensures.steps in
    c.part.ensures ∙ stored_part word _ _ _ c.loop-x.invariant c.requires (omega (arith, t.1, length-reverse word))
