-- `tidying::close_gaps` meets its contract. The invariant is `Closing`: the live records passed stand at the front without gaps. The measure is what is
-- left before the free bytes.
-- Assumes nothing.
use Rattle.std.proofs.Common.{◌≡◌, ap, sym, ◌∙◌, ℕ, ◌+◌, get_or, drop, take, arith}
use lib.Dec.{eqb}
use lib.Seq.{sets}
use Rattle.entries.specs.Limits.{head_size}
use Rattle.entries.proofs.Records.{end_length}
use Rattle.tidying.proofs.Closing.{closing_start, closing_read, closing_turn, closing_less, closing_removed, closing_live, closing_end}
use Rattle.tidying.proofs.close_gaps.Goals as goal
use Rattle.tidying.proofs.close_gaps.Goals.{then-record, else-record}

pub loop-at-init : goal.loop-at-init
loop-at-init c = (closing_start _ _ c.requires, omega arith)

pub at-record-requires : goal.at-record-requires
at-record-requires c =
    let k = c.loop-at.invariant.0 in
    let t = closing_turn _ _ _ _ _ k c.loop-at-test.true in
    (omega (arith, k.long, k.passed.walk.is_book.short), omega (arith, t.stands.frame.room, k.long))

pub move_down-requires : goal.move_down-requires
move_down-requires c =
    let k = c.loop-at.invariant.0 in
    let t = closing_turn _ _ _ _ _ k c.loop-at-test.true in
    (closing_less _ _ _ _ _ k, omega (arith, t.stands.frame.room, k.long, c.at-record.ensures.size, closing_read _ _ _ _ _ k 2))

pub overflow_add-kept : goal.overflow_add-kept
overflow_add-kept c =
    let k = c.loop-at.invariant.0 in
    let t = closing_turn _ _ _ _ _ k c.loop-at-test.true in
    omega (arith, t.stands.frame.room, k.passed.walk.is_book.short, c.at-record.ensures.size, closing_read _ _ _ _ _ k 2, closing_less _ _ _ _ _ k)

pub overflow_add-at : goal.overflow_add-at
overflow_add-at c =
    let k = c.loop-at.invariant.0 in
    let t = closing_turn _ _ _ _ _ k c.loop-at-test.true in
    omega (arith, t.stands.frame.room, k.passed.walk.is_book.short, c.at-record.ensures.size, closing_read _ _ _ _ _ k 2)

pub loop-at-preserved : goal.loop-at-preserved
loop-at-preserved c =
    let l = c.loop-at in
    let b = c.args.book.now in
    let k = l.invariant.0 in
    let t = closing_turn _ _ _ _ _ k c.loop-at-test.true in
    let size : c.at-record.result.size ≡ head_size + get_or b (l.at + 2) 0 = c.at-record.ensures.size ∙ ap (λ (n : ℕ). head_size + n) (closing_read _ _ _ _ _ k 2) in
    let live : eqb (get_or b (l.at + 1) 0) 0x57 ≡ c.at-record.result.live = ap (λ (m : ℕ). eqb m 0x57) (sym (closing_read _ _ _ _ _ k 1)) ∙ sym c.at-record.ensures.live in
    let next = ap (λ (n : ℕ). l.at + n) size in (
      elim c.if-record.branch [
        | then-record j ↦
            closing_live _ _ _ _ _ k t (live ∙ j.if-record.true) _ _ next (j.kept-is ∙ ap (λ (n : ℕ). l.kept + n) size) _
            (j.book-is ∙ j.move_down.ensures ∙ ap (λ (n : ℕ). sets l.book l.kept (take n (drop l.at l.book))) size)
        | else-record j ↦ closing_removed _ _ _ _ _ k t (live ∙ j.if-record.false) _ _ next j.kept-is _ j.book-is
      ],
      omega (arith, size, t.stands.next.end, end_length (l.at + head_size + get_or b (l.at + 2) 0) t.behind),
    )

pub returns : goal.returns
returns c = let l = c.loop-at in closing_end _ _ _ _ _ l.invariant.0 c.loop-at-test.false l.invariant.1
