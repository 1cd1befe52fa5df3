-- What is printed for a line is its fields one behind the other, from the front on.
-- Assumes nothing.
use mathlib.Core.List.{List, [], ◌∷◌}
use Prim.Native.Nat.{ℕ, ◌≤◌, ◌<◌, ◌^◌}
use native.Mathlib.Omega.{arith}
use lib.ListN.{length, length-append}
use Rattle.key_text.specs.Text.{decimal_of}
use Rattle.key_text.proofs.Decimal.{decimal_short}
use Rattle.memory.specs.Put.{Put}
use Rattle.memory.proofs.Putting.{put_after, put_front}
use Rattle.answer_text.specs.Answer.{AnswerPut}
use Rattle.line_printing.specs.Printed.{printed, printed_limit, LinePut}

pub line_written : {Answers : List ℕ → List ℕ → Type 0} {line a b c d e : List ℕ} {i j k l : ℕ} (number : ℕ) → number < 2 ^ 64 → printed_limit ≤ length a
    → Put a 0 (decimal_of number) b i → Put b i (0x20 ∷ []) c j → AnswerPut (Answers line) c j d k → Put d k (0x0A ∷ []) e l
    → LinePut Answers a number line e l
unfolding printed
line_written {Answers} {line} {a} {b} {c} {d} {e} {i} {j} {k} {l} number fits room p q r s = record {
  text = r.text;
  right = r.right;
  written =
      put_front (simp length-append (omega (arith, decimal_short number fits, r.put.short)))
      (put_after (put_after p (put_after q r.put.put)) s);
}
