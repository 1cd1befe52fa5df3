-- `book_fitting::keep_fitting` meets its contract: all begin with no weights. The loop's invariant: the starts that are passed and whose weights
-- begin so stand at the front, and all else is as it was. Assumes nothing.
use borrow.Author.Rules.{rules}
use mathlib.Core.Path.{sym, ap, ◌∙◌}
use native.Mathlib.Omega.{arith}
use lib.ListN.{set}
use Rattle.book_fitting.specs.Fitting.{has_prefix}
use Rattle.book_fitting.proofs.Fits.{keep_all, keep_start, keep_as, keep_long, keep_here, keep_room, keep_taken, keep_left}
use Rattle.book_fitting.proofs.keep_fitting.Goals as goal
use Rattle.book_fitting.proofs.keep_fitting.Goals.{then-has_prefix, else-has_prefix}

pub returns-then-is_empty : goal.returns-then-is_empty
returns-then-is_empty c = keep_all _ _ _ (search rules)

pub loop-next-init : goal.loop-next-init
loop-next-init c = keep_start _ _ _

pub offset_bounds-starts-count : goal.offset_bounds-starts-count
offset_bounds-starts-count c =
    omega (arith, keep_room _ _ _ _ _ _ c.loop-next.invariant (search rules), keep_long _ _ _ _ _ _ c.loop-next.invariant)

pub bounds-starts-count : goal.bounds-starts-count
bounds-starts-count c = keep_room _ _ _ _ _ _ c.loop-next.invariant (search rules)

pub overflow_add-count : goal.overflow_add-count
overflow_add-count c =
    omega (arith, keep_room _ _ _ _ _ _ c.loop-next.invariant (search rules), keep_long _ _ _ _ _ _ c.loop-next.invariant)

pub loop-next-preserved : goal.loop-next-preserved
loop-next-preserved c =
    let i = c.loop-next.invariant in
    let here = keep_here _ _ _ _ _ _ i in
    let test = sym (c.has_prefix.ensures ∙ ap (has_prefix c.args.keys.now c.args.prefix.now) here) in
    elim c.if-has_prefix.branch [
      | then-has_prefix w ↦
          keep_as _ _ _ _ _ _ _ _ (w.starts-is ∙ ap (set c.loop-next.starts c.loop-next.count) here) w.count-is
          (keep_taken _ _ _ _ _ _ i (search rules) (test ∙ w.if-has_prefix.true))
      | else-has_prefix w ↦
          keep_as _ _ _ _ _ _ _ _ w.starts-is w.count-is (keep_left _ _ _ _ _ _ i (search rules) (test ∙ w.if-has_prefix.false))
    ]
