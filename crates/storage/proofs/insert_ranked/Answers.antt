-- `storage::insert_ranked` meets its contract. The loop's invariant is `SameFrom`: inserting the element from the place on gives what inserting it from the first place gave.
-- Assumes nothing.
use Rattle.std.proofs.Common.{◌≡◌, ◌∙◌, ◌+◌, length, set, get_or, subst, arith}
use Rattle.std.proofs.lemmas.List.{get_or_default}
use borrow.Author.Tests.{lt-ltb, le-ltb}
use Rattle.formula.specs.Limits.{limit}
use Rattle.storage.proofs.Holding.{SameFrom, inserting_more, inserted_last, inserted_before}
use Rattle.storage.proofs.insert_ranked.Goals as goal
use Rattle.storage.proofs.insert_ranked.Goals.{then-loop-place-test+else-rank-own, else-loop-place-test}

pub loop-place-preserved : goal.loop-place-preserved
loop-place-preserved g c = (
  omega arith,
  λ value ranked.
      let s = c.args in
      let l = c.loop-place in
      let next = get_or l.sorted (l.place + 1) c.index-sorted-place.result in
      let long : length l.sorted ≡ limit = omega arith in
      let same = get_or_default l.sorted (l.place + 1) c.index-sorted-place.result in
      subst (λ y. SameFrom value s.sorted.now (set l.sorted l.place y) s.at (l.place + 1) s.x)
      (same c.index-sorted-place-in-loop-place.result (omega arith))
      (inserting_more value s.sorted.now l.sorted s.at l.place s.x next long (omega arith) (same next (omega arith))
      (ranked next c.rank.result c.rank.ensures ∙ lt-ltb _ _ c.if-rank-own.true) (l.invariant.1 value ranked)),
)

pub returns : goal.returns
returns g c = λ value ranked.
    let s = c.args in
    let l = c.loop-place in
    let long : length l.sorted ≡ limit = omega arith in
    elim c.loop-place-test.branch [
      | then-loop-place-test+else-rank-own w ↦
          let next = get_or l.sorted (l.place + 1) w.index-sorted-place.result in
          inserted_before value s.sorted.now l.sorted s.at l.place s.x next long w.loop-place-test.true
          (get_or_default l.sorted (l.place + 1) w.index-sorted-place.result next (let m = w.loop-place-test.true in omega arith))
          (ranked next w.rank.result w.rank.ensures ∙ le-ltb _ _ w.if-rank-own.false) (l.invariant.1 value ranked)
      | else-loop-place-test w ↦
          inserted_last value s.sorted.now l.sorted s.at l.place s.x long l.invariant.0 w.loop-place-test.false (l.invariant.1 value ranked)
    ]
