use Rattle.scanning.specs.Scanned.{Reached}
use Rattle.scanning.proofs.scan_word.Given as goal

abbrev pub invariant-loop-at : goal.invariant-loop-at
invariant-loop-at l = Reached l.word l.at l.state l.window l.syllables l.starts
