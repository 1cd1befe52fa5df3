-- `book_check::chain::bucket_of` meets its contract. The invariant: the hash of the bytes goes on from that of the bytes passed.
-- Assumes nothing.
use Rattle.std.proofs.Common.{arith, sym, ◌∙◌}
use Rattle.book_check.proofs.Parts.{hash_one, hash_done}
use Rattle.book_check.proofs.chain.bucket_of.Goals as goal

pub loop-byte-preserved : goal.loop-byte-preserved
loop-byte-preserved c = record {
  small = omega arith;
  goes_on = c.loop-byte.invariant.goes_on ∙ hash_one c.args.word.now c.loop-byte.byte-index c.loop-byte.hash _ (omega arith) c.from.ensures;
}

pub returns : goal.returns
returns c = let i = c.loop-byte.invariant in (sym (i.goes_on ∙ hash_done c.args.word.now c.loop-byte.byte-index c.loop-byte.hash (omega arith)), i.small)
