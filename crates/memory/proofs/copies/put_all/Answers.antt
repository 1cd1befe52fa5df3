-- `memory::copies::put_all` meets its contract. The invariant is `Copied`: the values passed are stored. Assumes nothing.
use mathlib.Core.Path.{sym, subst}
use lib.ListN.{set}
use Prim.Native.Nat.{◌+◌}
use Rattle.memory.proofs.Copied.{Copied, copied_none, copied_more}
use Rattle.memory.proofs.copies.put_all.Goals as goal

pub loop-done-init : goal.loop-done-init
loop-done-init g c = copied_none _ _ _

pub loop-done-preserved : goal.loop-done-preserved
loop-done-preserved g c =
    let a = c.args in
    let done = c.loop-done.done in
    let value = c.index-values-done.result in
    subst (λ v. Copied a.values.now a.output.now a.at (set c.loop-done.output (a.at + done) v) (done + 1)) (sym c.index-values-done.is)
    (copied_more a.values.now a.output.now a.at c.loop-done.output done value c.loop-done.invariant c.loop-done-test.true)
