-- `writing::row::put_row` meets its contract. The loop's invariant is `FilledWithin`: the output begins with the parts so far, and with what is left they are the word.
-- Assumes nothing.
use borrow.Author.Rules.{rules}
use lib.Seq.{take_all}
use Rattle.writing.specs.Records.{records_of}
use Rattle.writing.proofs.Filling.{PartsFit, front_fits, parts_fit, within_none, filled_length, filled_all, filled_room, filled_more}
use Rattle.writing.proofs.row.put_row.Goals as goal

pub loop-next-init : goal.loop-next-init
unfolding records_of
loop-next-init c =
    let fit : PartsFit c.as_chunks.result.0.now c.args.output.now = parts_fit c.args.records.now _ c.requires _ c.as_chunks.ensures.front in
    within_none _ _ (search (rules, fit, front_fits))

pub put_part-count-requires : goal.put_part-count-requires
put_part-count-requires c = filled_room _ _ _ _ _ _ c.loop-next.invariant c.loop-next-test.true

pub loop-next-preserved : goal.loop-next-preserved
loop-next-preserved c = filled_more _ _ _ _ _ _ c.loop-next.invariant c.loop-next-test.true _ _ c.put_part-count.ensures

pub shape_of-output : goal.shape_of-output
shape_of-output c = filled_length _ _ _ _ _ _ c.loop-next.invariant

pub returns : goal.returns
unfolding records_of
returns c = search (rules, filled_all, take_all) depth 14
