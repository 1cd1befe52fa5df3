-- `key_text::put_bytes` meets its contract. The loop's invariant: the bytes so far are written, two digits for each.
-- Assumes nothing.
use native.Mathlib.Nat.{zero-add}
use native.Mathlib.Numerals.{add-one}
use native.Mathlib.Omega.{arith}
use Rattle.memory.proofs.Putting.{put_after, put_length}
use Rattle.key_text.proofs.Keys.{hexadecimals_length}
use Rattle.key_text.proofs.put_bytes.Goals as goal

pub put_hexadecimal-next-requires : goal.put_hexadecimal-next-requires
put_hexadecimal-next-requires c =
    let l = c.loop-byte in
    omega (arith, put_length l.invariant.0, l.invariant.0.next, hexadecimals_length l.byte-index c.args.bytes.now 0)

pub loop-byte-preserved : goal.loop-byte-preserved
loop-byte-preserved c = (rw (add-one, zero-add) (put_after c.loop-byte.invariant.0 c.put_hexadecimal-next.ensures), omega arith)
