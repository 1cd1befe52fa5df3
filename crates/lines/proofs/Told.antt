-- What a decoded line tells by its answer: the refusal of the line, or its word at the front of the values.
-- Assumes nothing.
use mathlib.Core.Path.{◌≡◌, sym, subst}
use mathlib.Core.List.{List}
use Prim.Native.Nat.{ℕ, ◌≤◌}
use lib.ListN.{length, take}
use Rattle.formula.proofs.Held.{held_front, held_fits, held_length}
use Rattle.formula.specs.declared.Word.{Word}
use Rattle.refusals.specs.Refusal.{number_of, place_of}
use Rattle.refusals.specs.declared.Refusal.{Refusal}
use Rattle.std.specs.declared.result.Result.{Result}
use Rattle.std.specs.declared.result.Result.TheVariants.{Ok, Err}
use Rattle.lines.specs.Line.{Decodes, LineRefused, LineHolds, DecodeRight}

module _ (line : List ℕ) (answer : Result Word Refusal) (right : DecodeRight line answer) where
  pub told_refusal : (refusal : Refusal) → answer ≡ Err refusal → LineRefused line (number_of refusal) (place_of refusal)
  told_refusal refusal e = (rw e at right).0

  module _ (word : Word) (e : answer ≡ Ok word) where
    holds : LineHolds line word.count word
    holds = rw e at right

    pub told_word : Decodes line (take word.count word.values)
    told_word = subst (Decodes line) (sym (held_front word holds.word holds.is)) holds.decodes

    pub told_fits : word.count ≤ length word.values
    told_fits = held_fits word holds.word holds.is

    pub told_count : word.count ≡ length (take word.count word.values)
    told_count = held_length word holds.word holds.is
