-- The answer to a line, computed, which is what decoding promises.
-- Assumes nothing.
use mathlib.Core.Path.{◌≡◌, refl}
use mathlib.Core.Bool.{Bool, true, false}
use mathlib.Core.List.{List}
use Prim.Native.Nat.{ℕ}
use borrow.Author.Tests.{leb-true, leb-false}
use lib.Dec.{leb}
use lib.ListN.{length}
use Rattle.letters.specs.Choice.{pick}
use Rattle.formula.specs.Limits.{line_limit}
use Rattle.formula.specs.Held.{word_of}
use Rattle.refusals.specs.declared.Refusal.TheVariants.{TooLong, FaultyLine}
use Rattle.std.specs.declared.result.Result.{Result}
use Rattle.std.specs.declared.result.Result.TheVariants.{Ok, Err}
use Rattle.formula.specs.declared.Word.{Word}
use Rattle.refusals.specs.declared.Refusal.{Refusal}
use Rattle.lines.specs.Line.{Decoding, values, faulty, decode_from, too_long, faulty_three, DecodeRight}

-- the word that the values make, or refusal 7
abbrev pub answer_of : Decoding → Result Word Refusal
answer_of (values vs) = Ok (word_of vs)
answer_of (faulty p) = Err (FaultyLine p)

-- refusal 1 comes before anything else
unfoldable pub decoded_of : List ℕ → Result Word Refusal
decoded_of line = pick (leb (length line) line_limit) (answer_of (decode_from 0 line)) (Err TooLong)

pub decided : (line : List ℕ) → DecodeRight line (decoded_of line)
unfolding decoded_of pick
decided line = go (leb (length line) line_limit) refl (decode_from 0 line) refl
  where
    go : (t : Bool) → leb (length line) line_limit ≡ t → (d : Decoding) → decode_from 0 line ≡ d
        → DecodeRight line (pick t (answer_of d) (Err TooLong))
    go true e (values vs) f =
        record { word = vs; decodes = record { short = leb-true (length line) line_limit e; into = f }; count = refl; is = refl }
    go true e (faulty p) f = (faulty_three (leb-true (length line) line_limit e) f, refl)
    go false e d f = (too_long (leb-false (length line) line_limit e), refl)
