-- `book_keys::file_records` meets its contract. The invariant: the live records among those that are passed are filed. The measure is what is left
-- before the free bytes. Assumes nothing.
use mathlib.Core.Path.{◌≡◌, refl}
use Prim.Native.Nat.{◌+◌}
use native.Mathlib.Omega.{arith}
use lib.ListN.{get_or}
use Rattle.entries.specs.Limits.{head_size}
use Rattle.entries.proofs.Records.{framed_is}
use Rattle.entries.proofs.Walk.{Turn}
use Rattle.book_frame.proofs.Marks.{mark_met, mark_missed}
use Rattle.book_keys.proofs.Collecting.{collect_start, collect_as, at_record, collect_long, turn_readable, collect_frame, collect_more}
use Rattle.book_keys.proofs.Collecting.{collect_live, collect_removed, collect_end}
use Rattle.book_keys.proofs.file_records.Goals as goal
use Rattle.book_keys.proofs.file_records.Goals.{then-has_mark, else-has_mark}

pub loop-at-init : goal.loop-at-init
loop-at-init c = collect_start _ _ _ _ c.requires.0

pub has_mark-requires : goal.has_mark-requires
has_mark-requires c =
    omega (arith, (collect_frame _ _ _ _ _ _ _ _ c.loop-at.invariant c.loop-at-test.true).room)

pub file_key-requires : goal.file_key-requires
file_key-requires c =
    let at_turn : Turn c.args.book.now c.loop-at.at c.args.free c.loop-at.invariant.list c.loop-at.invariant.seen c.loop-at.invariant.rest =
    at_record _ _ _ _ _ _ _ _ c.loop-at.invariant c.loop-at-test.true in
    let i = c.loop-at.invariant in
    let t = at_turn in (
      i.walk.is_book.short,
      framed_is _ _ t.stands.frame,
      turn_readable _ _ _ _ _ _ _ _ i t,
    )

pub offset_bounds-starts-live : goal.offset_bounds-starts-live
offset_bounds-starts-live c =
    omega (
      arith,
      collect_more _ _ _ _ _ _ _ _ c.loop-at.invariant c.loop-at-test.true
          (mark_met (get_or c.args.book.now c.loop-at.at 0) _ 0x4D 0x57 _ c.has_mark.ensures c.if-has_mark.true).1 c.requires.1,
      collect_long _ _ _ _ _ _ _ _ c.loop-at.invariant,
    )

pub bounds-starts-live : goal.bounds-starts-live
bounds-starts-live c =
    collect_more _ _ _ _ _ _ _ _ c.loop-at.invariant c.loop-at-test.true
    (mark_met (get_or c.args.book.now c.loop-at.at 0) _ 0x4D 0x57 _ c.has_mark.ensures c.if-has_mark.true).1 c.requires.1

pub overflow_add-live : goal.overflow_add-live
overflow_add-live c =
    omega (
      arith,
      collect_more _ _ _ _ _ _ _ _ c.loop-at.invariant c.loop-at-test.true
          (mark_met (get_or c.args.book.now c.loop-at.at 0) _ 0x4D 0x57 _ c.has_mark.ensures c.if-has_mark.true).1 c.requires.1,
      collect_long _ _ _ _ _ _ _ _ c.loop-at.invariant,
    )

pub overflow_add-at : goal.overflow_add-at
overflow_add-at c =
    let f = collect_frame _ _ _ _ _ _ _ _ c.loop-at.invariant c.loop-at-test.true in omega (arith, f.room, f.some, c.loop-at.invariant.walk.is_book.short)

pub bounds-book-at : goal.bounds-book-at
bounds-book-at c =
    omega (arith, (collect_frame _ _ _ _ _ _ _ _ c.loop-at.invariant c.loop-at-test.true).room)

pub overflow_add-at-in-loop-at-2 : goal.overflow_add-at-in-loop-at-2
overflow_add-at-in-loop-at-2 c =
    let f = collect_frame _ _ _ _ _ _ _ _ c.loop-at.invariant c.loop-at-test.true in omega (arith, f.room, f.some, c.loop-at.invariant.walk.is_book.short, c.from.ensures)

pub loop-at-preserved : goal.loop-at-preserved
loop-at-preserved c =
    let at_turn : Turn c.args.book.now c.loop-at.at c.args.free c.loop-at.invariant.list c.loop-at.invariant.seen c.loop-at.invariant.rest =
    at_record _ _ _ _ _ _ _ _ c.loop-at.invariant c.loop-at-test.true in
    let l = c.loop-at in
    let t = at_turn in
    let e : l.at + (head_size + c.from.result) ≡ l.at + head_size + get_or c.args.book.now (l.at + 2) 0 = omega (arith, c.from.ensures) in
    elim c.if-has_mark.branch [
      | then-has_mark w ↦
          collect_as _ _ _ _ _ _ _ _ _ _ _ _ w.keys-is w.starts-is w.live-is e
          (collect_live _ _ _ _ _ _ _ _ l.invariant t
          (mark_met (get_or c.args.book.now l.at 0) _ 0x4D 0x57 _ c.has_mark.ensures w.if-has_mark.true).1 _ _ w.file_key.ensures
          refl)
      | else-has_mark w ↦
          collect_as _ _ _ _ _ _ _ _ _ _ _ _ w.keys-is w.starts-is w.live-is e
          (collect_removed _ _ _ _ _ _ _ _ l.invariant t
          (λ live. mark_missed (get_or c.args.book.now l.at 0) _ 0x4D 0x57 _ c.has_mark.ensures w.if-has_mark.false t.stands.frame.first live))
    ]

pub returns : goal.returns
returns c =
    let l = c.loop-at in
    collect_end _ _ _ _ _ _ l.live l.at l.invariant (omega arith) c.requires.1 c.loop-at-test.false
