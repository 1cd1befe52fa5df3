-- `printing::put_accepted` meets its contract: its fields are written one behind the other, a number of at most `decimal_limit` digits and a key of at most `key_text_limit` bytes.
-- Assumes nothing.
use native.Mathlib.Omega.{arith}
use lib.ListN.{length-append}
use Rattle.printing.specs.Output.{accepted_text}
use Rattle.memory.proofs.Putting.{put_after}
use Rattle.key_text.proofs.Decimal.{decimal_short}
use Rattle.key_text.proofs.Keys.{key_short}
use Rattle.printing.proofs.put_accepted.Goals as goal

pub returns : goal.returns
unfolding accepted_text
returns c =
    let key = c.args.key.now in
    let digits = decimal_short key.count (omega arith) in
    let keyed = key_short key.count key.bytes c.requires.1 in
    record {
      put = put_after c.put_text-spoken.ensures (put_after c.put_decimal-counted.ensures (put_after c.put-spaced.ensures c.put_key.ensures));
      short = simp length-append (omega arith);
    }
