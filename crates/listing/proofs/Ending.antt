-- The end of an input: the line that is open then is printed where it has a byte, and with it the text is that of all lines.
-- Assumes nothing.
use mathlib.Core.Path.{◌≡◌, refl, sym, ap, ◌∙◌}
use mathlib.Core.List.{List, [], ◌∷◌, ◌++◌}
use Prim.Native.Nat.{ℕ, ◌+◌, ◌≤◌}
use native.Mathlib.Nat.{zero-add}
use native.Mathlib.Omega.{arith}
use lib.ListN.{length, take, drop, length-append}
use lib.Seq.{sets-eq}
use Rattle.memory.specs.Put.{Put, Written}
use Rattle.memory.proofs.Putting.{put_nothing}
use Rattle.line_printing.specs.Printed.{Keeps, LinePut, printed}
use Rattle.line_splitting.specs.Lines.{cut_from, last_line}
use Rattle.line_splitting.specs.Taken.{Held, none}
use Rattle.line_splitting.specs.Following.{Follows}
use Rattle.line_splitting.proofs.Taking.{prints_append, prints_one}
use Rattle.listing.specs.Running.{Comes}

-- the line that is open at the end of an input has a byte where one is held
last_none : (pending line : List ℕ) → Held pending 0 line → last_line line ≡ []
last_none pending [] h = refl
last_none pending (byte ∷ line) h = let z : ⊥ = omega (arith, h.count) in absurd z

last_one : (pending line : List ℕ) (held : ℕ) → (held ≡ 0 → ⊥) → Held pending held line → last_line line ≡ line ∷ []
last_one pending [] held nonzero h = absurd (nonzero h.count)
last_one pending (byte ∷ line) held nonzero h = refl

-- what is written at the front of an output lies in it
pub written_within : {before text after : List ℕ} {used : ℕ} → length after ≡ length before → Written before text after used → used ≤ length before
written_within {before} {text} {after} {used} same w =
    let size : length after ≡ length text + length (drop used before) = ap length w.written ∙ length-append text _ in
    omega (arith, same, size, w.count)

-- and is put there
written_put : {before text after : List ℕ} {used : ℕ} → length after ≡ length before → Written before text after used → Put before 0 text after used
written_put {before} {text} {after} {used} same w =
    let front : used ≡ 0 + length text = w.count ∙ sym (zero-add (length text)) in
    record {
      written = w.written ∙ ap (λ (n : ℕ). text ++ drop n before) front ∙ sym (sets-eq text before 0 (rw (← front) (written_within same w)));
      next = front;
    }

module _ {Answers : List ℕ → List ℕ → Type 0} {bytes text pending : List ℕ} {held number : ℕ} (f : Follows Answers bytes pending held number text) (out : List ℕ) where
  pub comes_none : held ≡ 0 → Comes Answers bytes text out 0 out 0
  comes_none empty = record {
    last = [];
    put = put_nothing out 0;
    prints = prints_append (number + 1) (omega (arith, f.count)) f.prints (rw (last_none pending (cut_from [] bytes).open_line (rw empty at f.open_line)) none);
  }

  pub comes_line : Keeps Answers → {out_after : List ℕ} {ready : ℕ} → (held ≡ 0 → ⊥) → length out_after ≡ length out
      → LinePut Answers out (number + 1) (take held pending) out_after ready → Comes Answers bytes text out 0 out_after ready
  comes_line kept {out_after} {ready} nonzero same line_put = record {
    last = printed (number + 1) line_put.text;
    put = written_put same line_put.written;
    prints =
        prints_append (number + 1) (omega (arith, f.count)) f.prints
        (rw (last_one pending (cut_from [] bytes).open_line held nonzero f.open_line) (prints_one Answers kept (number + 1) (cut_from [] bytes).open_line pending held line_put.text f.open_line line_put.right));
  }
