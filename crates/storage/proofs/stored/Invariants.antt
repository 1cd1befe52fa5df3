use Rattle.std.proofs.Common.{length, ◌-◌}
use Rattle.storage.proofs.Passing.{StoredFrom}
use Rattle.storage.proofs.stored.Given as goal

abbrev pub invariant-loop-x : goal.invariant-loop-x
invariant-loop-x l = StoredFrom l.word l.values l.front (length l.word - length l.yielded)
