-- The numbers of every right answer on a record, a key or a line fit their bits: a line that is not too long is at most 192 bytes.
-- Assumes nothing.
use mathlib.Core.Path.{subst}
use mathlib.Core.Bool.{Bool, true, false}
use mathlib.Core.List.{List, [], ◌∷◌}
use Prim.Native.Nat.{ℕ, ◌+◌, ◌≤◌}
use native.Mathlib.Omega.{arith}
use lib.ListN.{length}
use Rattle.letters.specs.Choice.{pick}
use Rattle.refusals.specs.Outcome.{Outcome, refuses}
use Rattle.lines.specs.Line.{is_three, value_of, Decoding, values, faulty as broken, after, decode_from, Decodes, LineRefused, too_long, faulty_three}
use Rattle.recogniser.proofs.Counted.{count_limit}
use Rattle.recogniser.specs.Answer.{RefusedWith}
use Rattle.reading.specs.Records.{HasRecord}
use Rattle.storage.specs.Stored.{stored_form}
use Rattle.normaliser.specs.Normal.{StoreRefusedWith}
use Rattle.weighing.proofs.Laws.{key_length}
use Rattle.outputs.specs.Outputs.{RecordWritten, answered, no_syllable, StoredRow, KeyWritten, DecodeWritten}
use Rattle.outputs.proofs.Sizes.{record_long, word_short}
use Rattle.packing.specs.Packing.{Fits}
use Rattle.packing.specs.Answers.{outcome_numbers}
use Rattle.packing.proofs.WordFits.{writes_fits, word_refused_fits, store_refused_fits}

pub record_fits : (word : List ℕ) (number : ℕ) (before after : List ℕ) (o : Outcome) → RecordWritten word number before after o → Fits (outcome_numbers o)
record_fits word number before after o (answered w) =
    writes_fits (RefusedWith word) (HasRecord word number) _ _ (word_refused_fits word)
    (λ bytes r. let long = record_long word number bytes r in (omega arith, omega arith)) before after o w
record_fits word number before after o (no_syllable n e) = record { tag = omega arith; second = omega arith; first = omega arith }

pub key_fits : (word before after : List ℕ) (o : Outcome) → KeyWritten word before after o → Fits (outcome_numbers o)
key_fits word =
    writes_fits (StoreRefusedWith word) (StoredRow word) _ _ (store_refused_fits word)
    (λ row s. let few = count_limit (stored_form word) (length row) s.stores.reads in (omega arith, omega (arith, key_length row few)))

-- a faulty three begins within the line
abbrev FaultyBy : ℕ → Decoding → Type 0
FaultyBy n (values word) = Unit {0}
FaultyBy n (broken place) = place ≤ n

faulty_by : (p : ℕ) (line : List ℕ) → FaultyBy (p + length line) (decode_from p line)
unfolding pick after
faulty_by p [] = tt
faulty_by p (a ∷ []) = omega arith
faulty_by p (a ∷ b ∷ []) = omega arith
faulty_by p (a ∷ b ∷ c ∷ line) = go (is_three a b c) (decode_from (p + 3) line) (faulty_by (p + 3) line)
  where
    go : (t : Bool) (d : Decoding) → FaultyBy (p + 3 + length line) d
        → FaultyBy (p + length (a ∷ b ∷ c ∷ line)) (pick t (after (value_of b c ∷ []) d) (broken p))
    go true (values word) h = tt
    go true (broken place) h = omega arith
    go false d h = omega arith

line_refused_fits : (line : List ℕ) (number place : ℕ) → LineRefused line number place → Fits (outcome_numbers (refuses number place))
line_refused_fits line number place (too_long h) = record { tag = omega arith; second = omega arith; first = omega arith }
line_refused_fits line number place (faulty_three h e) =
    let near = subst (FaultyBy (0 + length line)) e (faulty_by 0 line) in
    record { tag = omega arith; second = omega arith; first = omega arith }

pub decode_fits : (line before after : List ℕ) (o : Outcome) → DecodeWritten line before after o → Fits (outcome_numbers o)
decode_fits line =
    writes_fits (LineRefused line) (Decodes line) _ _ (line_refused_fits line)
    (λ word d. let short = word_short line word d in (omega arith, omega arith))
