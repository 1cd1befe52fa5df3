-- `reading::read::pass` meets its contract: a word that is read has as many syllables as the pass has counted.
-- Assumes nothing.
use Rattle.recogniser.specs.Answer.{too_long}
use Rattle.reading.proofs.Passing.{passed}
use Rattle.reading.proofs.read.pass.Goals as goal

pub returns-then-word-gt-LIMIT : goal.returns-then-word-gt-LIMIT
returns-then-word-gt-LIMIT c = too_long c.if-word-gt-LIMIT.true

pub returns : goal.returns
returns c = passed c.args.word.now c.scan_word-scan.result c.scan_word-scan.ensures c.in_ok-answer_at.field-0 c.in_ok-answer_at.ensures
