-- `recogniser::walk::answer_at` meets its contract: the state says whether the last syllable waits.
-- Assumes nothing.
use Rattle.recogniser.proofs.Walking.{walk_halted}
use Rattle.recogniser.proofs.walk.answer_at.Goals as goal

pub answer_where-requires : goal.answer_where-requires
answer_where-requires c = walk_halted c.args.word.now c.args.at c.args.state c.args.count c.requires
