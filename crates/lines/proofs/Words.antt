-- Worked examples: the answers to a table of lines, by computing them.
-- Assumes nothing.
use mathlib.Core.Path.{◌≡◌, refl}
use mathlib.Core.List.{List, [], ◌∷◌, map}
use Prim.Native.Nat.{ℕ}
use lib.ListN.{replicate}
use Rattle.letters.specs.Choice.{pick}
use Rattle.refusals.specs.declared.Refusal.TheVariants.{TooLong, FaultyLine}
use Rattle.lines.specs.Line.{is_three, values, after, encode}
use Rattle.formula.specs.declared.Word.{Word}
use Rattle.refusals.specs.declared.Refusal.{Refusal}
use Rattle.std.specs.declared.result.Result.{Result}
use Rattle.std.specs.declared.result.Result.TheVariants.{Err}
use Rattle.lines.proofs.Decided.{answer_of, decoded_of}

-- the answer to a line of these values
abbrev word : List ℕ → Result Word Refusal
word vs = answer_of (values vs)

-- a line and its answer
unfoldable pub words : List (List ℕ × Result Word Refusal)
words =
    -- the three lines of the program's example
    (
      0xE1 ∷ 0x80 ∷ 0x90 ∷ 0xE1 ∷ 0x80 ∷ 0x80 ∷ 0xE1 ∷ 0x80 ∷ 0xB9 ∷ 0xE1 ∷ 0x80 ∷ 0x80 ∷ 0xE1 ∷ 0x80 ∷ 0x9E ∷ 0xE1 ∷ 0x80 ∷ 0xAD ∷ 0xE1 ∷ 0x80 ∷ 0xAF ∷ 0xE1 ∷ 0x80 ∷ 0x9C ∷ 0xE1 ∷ 0x80 ∷ 0xBA ∷ [],
      word (0x1010 ∷ 0x1000 ∷ 0x1039 ∷ 0x1000 ∷ 0x101E ∷ 0x102D ∷ 0x102F ∷ 0x101C ∷ 0x103A ∷ []),
    )
    ∷ (0xE1 ∷ 0x80 ∷ 0x80 ∷ 0xE1 ∷ 0x80 ∷ 0xB9 ∷ [], word (0x1000 ∷ 0x1039 ∷ []))
    ∷ ([], word [])
    -- the last value of a three, and the first that is beyond it
    ∷ (0xE1 ∷ 0x81 ∷ 0xBF ∷ [], word (0x107F ∷ []))
    ∷ (0xE1 ∷ 0x82 ∷ 0x80 ∷ [], Err (FaultyLine 0))
    -- a short three, of two bytes and of one
    ∷ (0xE1 ∷ 0x80 ∷ [], Err (FaultyLine 0))
    ∷ (0xE1 ∷ 0x80 ∷ 0x80 ∷ 0xE1 ∷ [], Err (FaultyLine 3))
    -- ASCII, "abc", and a 0D behind a value
    ∷ (0x61 ∷ 0x62 ∷ 0x63 ∷ [], Err (FaultyLine 0))
    ∷ (0xE1 ∷ 0x80 ∷ 0x80 ∷ 0x0D ∷ [], Err (FaultyLine 3))
    -- two faulty threes: the first counts
    ∷ (0xE1 ∷ 0x80 ∷ 0x80 ∷ 0xE1 ∷ 0x80 ∷ 0xC0 ∷ 0xE1 ∷ 0x82 ∷ 0x80 ∷ [], Err (FaultyLine 3))
    -- a second byte below 80, and a third
    ∷ (0xE1 ∷ 0x7F ∷ 0x80 ∷ [], Err (FaultyLine 0))
    ∷ (0xE1 ∷ 0x80 ∷ 0x7F ∷ [], Err (FaultyLine 0))
    -- 64 values are a word, and one more is refusal 1; 192 bytes that are no UTF-8 are refusal 7, and one more is 1
    ∷ (encode (replicate 64 0x1000), word (replicate 64 0x1000))
    ∷ (encode (replicate 65 0x1000), Err TooLong)
    ∷ (replicate 192 0x61, Err (FaultyLine 0))
    ∷ (replicate 193 0x61, Err TooLong)
    ∷ []

-- each line of the table has its answer
pub words_decoded : map (λ (w : List ℕ × Result Word Refusal). decoded_of w.0) words ≡ map (λ (w : List ℕ × Result Word Refusal). w.1) words
unfolding words decoded_of is_three pick after
words_decoded = refl
