-- The numbers of each call's answer, by document 01's terms.
-- Assumes nothing.
use Rattle.std.specs.Prelude.{Bool, List, ℕ, eqb}
use Rattle.letters.specs.Choice.{pick}
use Rattle.refusals.specs.Outcome.{Outcome, accepts, accepts_both, absent, refuses}
use Rattle.refusals.specs.Pair.{PairOutcome, tells, first_refuses, second_refuses}
use Rattle.storage.specs.Stored.{stored_form}
use Rattle.entries.specs.Entries.{entries}
use Rattle.entries.specs.Outcome.{find_of}
use Rattle.planning.specs.Preview.{PreviewOutcome}
use Rattle.wordbook.specs.Calls.{CallAnswers}
use Rattle.packing.specs.Packing.{Answer, answer}

-- the one or two numbers that success tells, that there is nothing of that number, or a refusal's number and place
abbrev pub outcome_numbers : Outcome → Answer
outcome_numbers (accepts first) = answer 0 0 first
outcome_numbers (accepts_both first second) = answer 0 second first
outcome_numbers absent = answer 128 0 0
outcome_numbers (refuses number place) = answer number 0 place

-- a preview has the number of the add: add's answer tells where its record would start and whether it would tidy
abbrev pub preview_numbers : PreviewOutcome → Answer
preview_numbers preview = outcome_numbers preview.answer

-- what a host reads from the numbers of an add or of its preview: the start, 0 where the add is refused, and whether the book is tidied
abbrev pub start_read : Answer → ℕ
start_read a = pick (eqb a.tag 0) a.first 0

abbrev pub tidies_read : Answer → Bool
tidies_read a = eqb a.second 1

-- what is told of two words, or "of two words, the first is tested whole, and the answer says which": 1 or 2
abbrev pub pair_numbers : PairOutcome → Answer
pair_numbers (tells first) = answer 0 0 first
pair_numbers (first_refuses number place) = answer number 1 place
pair_numbers (second_refuses number place) = answer number 2 place

-- what find answers to a word as it is handed in
abbrev pub FindAnswers : List ℕ → List ℕ → Outcome → Type 0
FindAnswers book word = CallAnswers word (find_of (entries book) (stored_form word))
