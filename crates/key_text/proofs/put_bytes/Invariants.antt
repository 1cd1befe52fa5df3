use lib.ListN.{length}
use Prim.Native.Nat.{◌≤◌}
use Rattle.memory.specs.Put.{Put}
use Rattle.key_text.specs.Text.{hexadecimals_of}
use Rattle.key_text.proofs.put_bytes.Given as goal

abbrev pub invariant-loop-byte : goal.invariant-loop-byte
invariant-loop-byte l = Put l.fn.out l.at (hexadecimals_of l.byte-index l.bytes 0) l.out l.next × (l.byte-index ≤ length l.bytes)
