-- `reading::read::read` meets its contract: the array of a pass holds the row's syllables where the word is read.
-- Assumes nothing.
use mathlib.Core.Path.{refl}
use Rattle.reading.proofs.Passing.{pass_read}
use Rattle.reading.proofs.read.read.Goals as goal

pub returns : goal.returns
returns c = pass_read c.args.word.now c.in_ok-scan.scan c.in_ok-scan.ensures _ refl refl
