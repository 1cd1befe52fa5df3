-- The bytes behind the number of a refused line are few, since its two numbers have 64 bits.
-- Assumes nothing.
use Prim.Native.Nat.{ℕ, ◌≤◌, ◌<◌, ◌^◌}
use native.Mathlib.Omega.{arith}
use lib.ListN.{length, length-append}
use Rattle.key_text.proofs.Decimal.{decimal_short}
use Rattle.answer_text.specs.Answer.{refused_text, answer_text_limit}

pub refused_short : (number place : ℕ) → number < 2 ^ 64 → place < 2 ^ 64 → length (refused_text number place) ≤ answer_text_limit
unfolding refused_text
refused_short number place h k = simp length-append (omega (arith, decimal_short number h, decimal_short place k))
