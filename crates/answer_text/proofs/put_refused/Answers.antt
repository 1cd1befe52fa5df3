-- `answer_text::put_refused` meets its contract: its fields are written one behind the other, and each number has at most `decimal_limit` digits.
-- Assumes nothing.
use native.Mathlib.Omega.{arith}
use Rattle.memory.proofs.Putting.{put_after}
use Rattle.answer_text.specs.Answer.{refused_text}
use Rattle.answer_text.proofs.Refused.{refused_short}
use Rattle.answer_text.proofs.put_refused.Goals as goal

pub returns : goal.returns
unfolding refused_text
returns c =
    rw (← c.number.ensures, ← c.place.ensures)
    (record {
      put =
          put_after c.put_text-spoken.ensures
          (put_after (rw c.from.ensures at c.put_decimal-numbered.ensures) (put_after c.put-spaced.ensures c.put_decimal.ensures));
      short = refused_short _ _ (omega arith) (omega arith);
    })
