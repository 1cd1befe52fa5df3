-- A word whose stored form was readable in an earlier edition keeps its row, by which its key is made, and two of them the order in which they stood.
-- Assumes nothing.
use mathlib.Core.Path.{◌≡◌, refl, sym}
use mathlib.Core.List.{List}
use Prim.Native.Nat.{ℕ}
use lib.ListN.{length}
use Rattle.formula.specs.Earlier.{Edition}
use Rattle.std.specs.declared.result.Result.{Result}
use Rattle.std.specs.declared.result.Result.TheVariants.{Ok}
use Rattle.refusals.specs.declared.Refusal.{Refusal}
use Rattle.refusals.specs.Pair.{PairOutcome, tells}
use Rattle.rows.proofs.Earlier.{earlier_gives}
use Rattle.recogniser.specs.Answer.{Admissible}
use Rattle.recogniser.specs.Earlier.{ReadableIn}
use Rattle.recogniser.proofs.Earlier.{earlier_same}
use Rattle.storage.specs.Stored.{stored_form}
use Rattle.normaliser.proofs.Earlier.{earlier_stores}
use Rattle.weighing.specs.Order.{order}
use Rattle.weighing.specs.Keys.{key_bytes}
use Rattle.weighing.specs.Earlier.{filed_by_five}
use Rattle.weighing.proofs.Earlier.{earlier_order}
use Rattle.collation.specs.Comparison.{order_number, CompareAnswers}
use Rattle.collation.specs.Keyed.{KeyRight}
use Rattle.collation.specs.declared.key.Key.{Key}
use Rattle.collation.proofs.Laws.{ordered_by}
use Rattle.collation.proofs.Determined.{outcome_once, key_determined}

pub earlier_key : {edition : Edition} (word : List ℕ) → Admissible word → (b : ReadableIn edition (stored_form word)) → (answer : Result Key Refusal) → KeyRight word answer
    → answer ≡ Ok (record { count = length b.row; bytes = key_bytes b.row })
earlier_key word a b answer right =
    key_determined word answer (Ok (record { count = length b.row; bytes = key_bytes b.row })) right
    (record {
      stores = earlier_stores word a b;
      bytes = λ row g. rw (earlier_same (stored_form word) b row g);
    })

-- of the answers to a comparison no other is right than that of the five weights by which they were filed
pub earlier_compared : {edition : Edition} (first second : List ℕ) → Admissible first → Admissible second → (a : ReadableIn edition (stored_form first))
    → (b : ReadableIn edition (stored_form second)) → (outcome : PairOutcome) → CompareAnswers first second outcome
    → outcome ≡ tells (order_number (order (filed_by_five a.row (stored_form first)) (filed_by_five b.row (stored_form second))))
earlier_compared {edition} first second i j a b outcome right =
    outcome_once first second outcome (tells _) right
    (record {
      is = _;
      ordered =
          ordered_by first second (length a.row) (length b.row) (earlier_stores first i a) (earlier_stores second j b) a.row b.row
          (earlier_gives edition a.row (stored_form first) a.gives) (earlier_gives edition b.row (stored_form second) b.gives) _
          (sym (earlier_order edition a.row b.row a.gives.is_row b.gives.is_row (stored_form first) (stored_form second)));
      numbered = refl;
    })
