-- Document 01, "The syllable": "Parts joined give the word". So do those of its row, and those that are asked for by number.
-- Assumes nothing.
use mathlib.Core.Path.{◌≡◌, refl, ap, sym, ◌∙◌}
use mathlib.Core.List.{List, [], ◌∷◌, ◌++◌, flatten}
use Prim.Native.Nat.{ℕ, zero, suc, ◌≤◌, ◌<◌, suc-le-suc}
use native.Mathlib.Omega.{arith}
use lib.ListN.{length, get_or, take, drop}
use Rattle.formula.specs.Limits.{limit}
use Rattle.formula.specs.Syllable.{Final, no_final, final_of, part}
use Rattle.formula.specs.Row.{Row, parts_after, parts, join_after, Gives}
use Rattle.refusals.specs.Outcome.{outcome_by, tells_if_there}
use Rattle.std.specs.declared.result.Result.{Result}
use Rattle.refusals.specs.declared.Refusal.{Refusal}
use Rattle.std.specs.declared.result.Result.TheVariants.{Ok, Err}
use Rattle.std.specs.declared.option.Option.{Option}
use Rattle.std.specs.declared.option.Option.TheVariants.{Some, None}
use Rattle.recogniser.proofs.Answered.{row_reads}
use Rattle.reading.specs.Parts.{part_told, PartRight, PartAnswers}
use Rattle.reading.specs.declared.parts.Part.{Part}
use Rattle.reading.proofs.Parted.{parts_length, part_right, part_beyond, part_refused}

parts_join : (f : Final) (row : Row) → flatten (parts_after f row) ≡ join_after f row
unfolding flatten
parts_join f [] = refl
parts_join f (s ∷ row) = ap (λ (l : List ℕ). part f s ++ l) (parts_join (final_of s) row)

-- the parts of a row, joined, are the word that it gives
pub parts_joined : (row : Row) (word : List ℕ) → Gives row word → flatten (parts row) ≡ word
parts_joined row word g = parts_join no_final row ∙ g.joined

-- the lists of the numbers 0 to n - 1, joined in order
abbrev pub joined_to : ℕ → (ℕ → List ℕ) → List ℕ
joined_to zero list = []
joined_to (suc n) list = list 0 ++ joined_to n (λ (number : ℕ). list (suc number))

numbered_join : (lists : List (List ℕ)) (list : ℕ → List ℕ) → ((number : ℕ) → number < length lists → list number ≡ get_or lists number [])
    → joined_to (length lists) list ≡ flatten lists
unfolding flatten
numbered_join [] list is = refl
numbered_join (l ∷ lists) list is =
    ap (λ (k : List ℕ). k ++ joined_to (length lists) (λ (number : ℕ). list (suc number))) (is 0 (omega arith))
    ∙ ap (λ (k : List ℕ). l ++ k) (numbered_join lists (λ (number : ℕ). list (suc number)) (λ number h. is (suc number) (suc-le-suc h)))

-- the part at the place that an answer gives
abbrev pub part_by : List ℕ → Result (Option Part) Refusal → List ℕ
part_by word (Ok (Some part)) = take part.size (drop part.place word)
part_by word (Ok None) = []
part_by word (Err refusal) = []

answered_right : (word : List ℕ) (number : ℕ) (answer : Result (Option Part) Refusal) → PartAnswers word number (outcome_by (tells_if_there part_told) answer)
    → PartRight word number (part_by word answer)
answered_right word number (Ok (Some part)) a = part_right word number part.place part.size a
answered_right word number (Ok None) a = part_beyond word number a
answered_right word number (Err refusal) a = part_refused word number _ _ a

module _ (row : Row) (word : List ℕ) (gives : Gives row word) (short : length word ≤ limit) where
  -- the parts of a word by number, from 0 to that of its last syllable, joined, are the word
  pub parts_by_number : (at : ℕ → List ℕ) → ((number : ℕ) → PartRight word number (at number)) → joined_to (length row) at ≡ word
  parts_by_number at right =
      ap (λ (n : ℕ). joined_to n at) (sym (parts_length no_final row))
      ∙ numbered_join (parts row) at (λ number _. (right number).has (row_reads row word gives short).admissible row gives) ∙ parts_joined row word gives

  -- and so are the parts at the places and of the lengths that are answered by number
  pub places_by_number : (answer : ℕ → Result (Option Part) Refusal) → ((number : ℕ) → PartAnswers word number (outcome_by (tells_if_there part_told) (answer number)))
      → joined_to (length row) (λ (number : ℕ). part_by word (answer number)) ≡ word
  places_by_number answer right = parts_by_number _ (λ number. answered_right word number (answer number) (right number))
