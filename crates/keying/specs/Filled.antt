-- Document 01, "Weights": the key of a word as handed in, made while it is read.
-- Assumes nothing.
use Rattle.std.specs.Prelude.{◌≡◌, List, ℕ, length}
use Rattle.formula.specs.Row.{Row, Gives}
use Rattle.refusals.specs.Outcome.{Outcome, accepts, accepts_both, absent, refuses, outcome_of}
use Rattle.std.specs.declared.result.Result.{Result}
use Rattle.refusals.specs.declared.Refusal.{Refusal}
use Rattle.recogniser.specs.Answer.{Answers}
use Rattle.weighing.specs.Keys.{key_limit, zeros, key_bytes}

-- the bytes are the key of the row that gives the word; with a refusal they are zeros
abbrev pub KeyIfRead : List ℕ → Outcome → List ℕ → Type 0
KeyIfRead word (accepts n) bytes = (row : Row) → Gives row word → bytes ≡ key_bytes row
KeyIfRead word (accepts_both n m) bytes = Unit {0}
KeyIfRead word absent bytes = Unit {0}
KeyIfRead word (refuses number place) bytes = bytes ≡ zeros key_limit

pub record FillRight (word : List ℕ) (answer : Result ℕ Refusal) (bytes : List ℕ) : Type 0 where
  pub answers : Answers word (outcome_of answer)
  pub key : KeyIfRead word (outcome_of answer) bytes
  pub size : length bytes ≡ key_limit
