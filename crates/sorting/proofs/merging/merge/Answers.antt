-- `sorting::merging::merge` meets its contract. The invariant: what is written and what is left of both parts, merged, is the whole.
-- Assumes nothing.
use mathlib.Core.Path.{sym, ◌∙◌}
use Prim.Native.Nat.{◌<◌}
use native.Mathlib.Omega.{arith}
use lib.ListN.{length}
use Rattle.sorting.proofs.Turns.{start_halfway, end_halfway, second_within, first_within, take_the_second, take_the_first, moved}
use Rattle.sorting.proofs.merging.merge.Goals as goal
use Rattle.sorting.proofs.merging.merge.Goals.{then-is_second_next, else-is_second_next}

pub loop-next-init : goal.loop-next-init
loop-next-init c = start_halfway c.requires.0.parted c.requires.1

pub is_second_next-requires : goal.is_second_next-requires
is_second_next-requires c =
    let i = c.loop-next.invariant in
    record { mergeable = c.requires.0; in_first = i.in_first; in_second = i.in_second; within = i.within }

pub bounds-starts-second : goal.bounds-starts-second
bounds-starts-second c =
    let taken_within : c.loop-next.second < length c.args.starts.now =
    second_within c.loop-next.invariant c.loop-next-test.true (sym c.is_second_next.ensures ∙ c.if-is_second_next.true) in
    taken_within

pub bounds-room-next : goal.bounds-room-next
bounds-room-next c =
    let room_within : c.loop-next.next < length c.loop-next.room =
    omega (arith, c.loop-next-test.true, c.loop-next.invariant.long, c.requires.1) in
    room_within

pub overflow_add-second : goal.overflow_add-second
overflow_add-second c =
    let taken_within : c.loop-next.second < length c.args.starts.now =
    second_within c.loop-next.invariant c.loop-next-test.true (sym c.is_second_next.ensures ∙ c.if-is_second_next.true) in
    omega (arith, taken_within)

pub bounds-starts-first : goal.bounds-starts-first
bounds-starts-first c =
    let left_within : c.loop-next.first < c.args.middle =
    first_within c.loop-next.invariant c.loop-next-test.true (sym c.is_second_next.ensures ∙ c.if-is_second_next.false) in
    omega (arith, left_within, c.requires.0.parted)

pub bounds-room-next-else-is_second_next : goal.bounds-room-next-else-is_second_next
bounds-room-next-else-is_second_next c =
    let room_within : c.loop-next.next < length c.loop-next.room =
    omega (arith, c.loop-next-test.true, c.loop-next.invariant.long, c.requires.1) in
    room_within

pub overflow_add-first : goal.overflow_add-first
overflow_add-first c =
    let left_within : c.loop-next.first < c.args.middle =
    first_within c.loop-next.invariant c.loop-next-test.true (sym c.is_second_next.ensures ∙ c.if-is_second_next.false) in
    omega (arith, left_within)

pub loop-next-preserved : goal.loop-next-preserved
loop-next-preserved c =
    let i = c.loop-next.invariant in
    let h = c.loop-next-test.true in
    let e = sym c.is_second_next.ensures in
    elim c.if-is_second_next.branch [
      | then-is_second_next w ↦ moved w.room-is w.first-is w.second-is (take_the_second i h (e ∙ w.if-is_second_next.true))
      | else-is_second_next w ↦ moved w.room-is w.first-is w.second-is (take_the_first i h (e ∙ w.if-is_second_next.false))
    ]

pub shape_of-room : goal.shape_of-room
shape_of-room c = c.loop-next.invariant.long

pub returns : goal.returns
returns c = end_halfway c.loop-next.invariant c.loop-next-test.false
