use Rattle.std.proofs.Common.{map}
use Rattle.memory.proofs.Copied.{Copied}
use Rattle.entries.specs.Entries.{value_of}
use Rattle.book_frame.proofs.Parts.{part}
use Rattle.book_frame.proofs.copy_values.Given as goal

abbrev pub invariant-loop-place : goal.invariant-loop-place
invariant-loop-place l = Copied (map value_of (part l.book l.from l.count)) l.initial.output 0 l.output l.place
