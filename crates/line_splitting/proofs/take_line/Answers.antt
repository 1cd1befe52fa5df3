-- `line_splitting::take_line` meets its contract: up to the line's end no other line ends, and what is held is answered as the whole line.
-- Assumes nothing.
use native.Mathlib.Omega.{arith}
use mathlib.Core.Path.{sym}
use lib.Seq.{length-take-le}
use Rattle.line_splitting.proofs.Taking.{part_fits, taken_open, taken_ended}
use Rattle.line_splitting.proofs.take_line.Goals as goal

pub returns-then-end-chunk : goal.returns-then-end-chunk
returns-then-end-chunk g c =
    taken_open _ c.args.chunk.now c.args.pending.now c.args.out.now c.args.progress c.hold-held.new.pending
    c.line_end-end.result c.hold-held.result c.requires c.line_end-end.ensures c.hold-held.ensures c.if-end-chunk.true

pub slice_bounds-put_line-end-3 : goal.slice_bounds-put_line-end-3
slice_bounds-put_line-end-3 g c = sym (length-take-le _ _ (omega (arith, c.hold-held.ensures.fits, c.hold-held.auto.pending)))

pub overflow_add-result-3 : goal.overflow_add-result-3
overflow_add-result-3 g c =
    let fits = part_fits c.args.out.now c.args.progress.used _ c.put_line-printed.new.out c.put_line-printed.result (omega arith) c.put_line-printed.auto.out c.put_line-printed.ensures.written in
    omega arith

pub returns : goal.returns
returns g c =
    taken_ended _ g.met.T.Task.kept c.args.chunk.now c.args.pending.now c.args.out.now c.args.progress c.hold-held.new.pending
    c.put_line-printed.new.out c.line_end-end.result c.hold-held.result c.put_line-printed.result c.requires c.line_end-end.ensures
    c.hold-held.ensures (omega arith) c.put_line-printed.auto.out c.put_line-printed.ensures
