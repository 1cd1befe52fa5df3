use Rattle.std.proofs.Common.{◌≤◌, length}
use Rattle.listing.proofs.running.write_whole.Given as goal

-- no more bytes are taken than there are
abbrev pub invariant-loop : goal.invariant-loop
invariant-loop l = l.done ≤ length l.bytes
