-- `recogniser::walk::answer_of` meets its contract: the limit is tested first, and the walk stops where `answer_at` asks.
-- Assumes nothing.
use native.Mathlib.Omega.{arith}
use Rattle.recogniser.specs.Answer.{too_long}
use Rattle.recogniser.proofs.walk.answer_of.Goals as goal

pub returns-then-word-gt-LIMIT : goal.returns-then-word-gt-LIMIT
returns-then-word-gt-LIMIT c = too_long (omega arith)

pub answer_at-requires : goal.answer_at-requires
answer_at-requires c = c.walk_word-walk.ensures
