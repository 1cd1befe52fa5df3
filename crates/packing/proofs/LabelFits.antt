-- The numbers of every right answer on labels fit their bits: a place is one of the stored form or the limit of syllables, and a skeleton is short.
-- Assumes nothing.
use mathlib.Core.Path.{◌≡◌}
use mathlib.Core.Bool.{Bool, true, false}
use mathlib.Core.List.{List}
use Prim.Native.Nat.{ℕ, ◌≤◌}
use native.Mathlib.Omega.{arith}
use lib.ListN.{length}
use Rattle.letters.specs.Weights.{bit_if}
use Rattle.formula.specs.Limits.{limit}
use Rattle.formula.specs.Lists.{same_list}
use Rattle.refusals.specs.Outcome.{Outcome, accepts, accepts_both, absent, refuses}
use Rattle.refusals.specs.Pair.{PairOutcome}
use Rattle.storage.specs.Stored.{stored_form}
use Rattle.label_rules.specs.Rules.{label_of}
use Rattle.label_rules.proofs.Laws.{accepted_meets}
use Rattle.label_rules.proofs.Meaning.{Breaks, sign, digit, many, refused_breaks}
use Rattle.labelling.specs.Labelling.{IsLabel, LabelRefusedWith, no_word, ruled_out, LabelAnswers, skeleton, SkeletonRight}
use Rattle.labelling.proofs.Stored.{skeleton_short}
use Rattle.likeness.specs.Likeness.{Likened, LookAlikeAnswers}
use Rattle.packing.specs.Packing.{Fits}
use Rattle.packing.specs.Answers.{outcome_numbers, pair_numbers}
use Rattle.packing.proofs.WordFits.{Small, small_fits, store_refused_small, writes_fits, pair_fits}

ruled_small : (form : List ℕ) (n number place : ℕ) → length form ≤ limit → label_of form n ≡ refuses number place → Small number place
ruled_small form n number place short e = go number place (refused_breaks form n number place e)
  where
    go : (m q : ℕ) → Breaks form n m q → Small m q
    go m q (sign f) = let w = f.within in record { some = omega arith; few = omega arith; near = omega arith }
    go m q (digit s f) = let w = f.within in record { some = omega arith; few = omega arith; near = omega arith }
    go m q (many s d h) = record { some = omega arith; few = omega arith; near = omega arith }

pub label_refused_small : (word : List ℕ) (number place : ℕ) → LabelRefusedWith word number place → Small number place
label_refused_small word number place (no_word r) = store_refused_small word number place r
label_refused_small word number place (ruled_out {n = n} s e) = ruled_small (stored_form word) n number place s.reads.admissible.short e

label_refused_fits : (word : List ℕ) (number place : ℕ) → LabelRefusedWith word number place → Fits (outcome_numbers (refuses number place))
label_refused_fits word number place r = small_fits number 0 place (omega arith) (label_refused_small word number place r)

pub label_fits : (word : List ℕ) (o : Outcome) → LabelAnswers word o → Fits (outcome_numbers o)
label_fits word (accepts n) l =
    let few = (accepted_meets (stored_form word) n n l.meets).few in
    record { tag = omega arith; second = omega arith; first = omega arith }
label_fits word (accepts_both n m) l = absurd l
label_fits word absent l = absurd l
label_fits word (refuses number place) l = label_refused_fits word number place l

pub skeleton_fits : (word before after : List ℕ) (o : Outcome) → SkeletonRight word before after o → Fits (outcome_numbers o)
skeleton_fits word =
    writes_fits (LabelRefusedWith word) (IsLabel word) _ _ (label_refused_fits word)
    (λ n l. let short = skeleton_short word n l in (omega arith, omega arith))

bit_small : (b : Bool) → bit_if b 1 ≤ 1
bit_small true = omega arith
bit_small false = omega arith

pub look_alike_fits : (first second : List ℕ) (o : PairOutcome) → LookAlikeAnswers first second o → Fits (pair_numbers o)
look_alike_fits =
    pair_fits IsLabel LabelRefusedWith Likened label_refused_small
    (λ first second n t. omega (arith, t.told, bit_small (same_list (skeleton first) (skeleton second))))
