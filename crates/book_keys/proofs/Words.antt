-- A readable word is filled as its row, so the used bytes of its key are the weights of the row.
-- Assumes nothing.
use mathlib.Core.Path.{◌≡◌, sym, ap, subst, ◌∙◌}
use mathlib.Core.List.{List, ◌∷◌}
use Prim.Native.Nat.{ℕ, ◌-◌, ◌≤◌}
use native.Mathlib.Omega.{arith}
use lib.ListN.{length, take}
use lib.Seq.{take_at}
use Rattle.formula.specs.Limits.{limit}
use Rattle.formula.specs.Row.{Gives}
use Rattle.refusals.specs.Refusal.{number_of, place_of}
use Rattle.refusals.specs.Outcome.{outcome_of}
use Rattle.refusals.specs.declared.Refusal.{Refusal}
use Rattle.recogniser.specs.Answer.{Reads, Answers, Readable}
use Rattle.std.specs.declared.result.Result.{Result}
use Rattle.std.specs.declared.result.Result.TheVariants.{Ok, Err}
use Rattle.recogniser.proofs.Answered.{refused_unreadable}
use Rattle.recogniser.proofs.Counted.{count_limit}
use Rattle.weighing.specs.Keys.{used_bytes, key_limit, zeros, key_of}
use Rattle.weighing.proofs.Laws.{key_used}
use Rattle.keying.specs.Filled.{KeyIfRead, FillRight}
use Rattle.book_keys.specs.Filing.{row_of, filed_key}
use Rattle.book_keys.proofs.Rows.{row_gives}

module _ (word : List ℕ) (readable : Readable word) (answer : Result ℕ Refusal) (key : List ℕ) (right : FillRight word answer key) where
  pub not_refused : (refusal : Refusal) → answer ≡ Err refusal → ⊥
  not_refused refusal e =
      refused_unreadable word (number_of refusal) (place_of refusal) (subst (λ (a : Result ℕ Refusal). Answers word (outcome_of a)) e right.answers) readable

  module _ (n : ℕ) (e : answer ≡ Ok n) where
    reads : Reads word n
    reads = subst (λ (a : Result ℕ Refusal). Answers word (outcome_of a)) e right.answers

    gives : Gives (row_of word) word
    gives = row_gives word readable

    pub filled_few : n ≤ limit
    filled_few = count_limit word n reads

    -- the used bytes are within the key
    pub filled_room : used_bytes n ≤ length key
    filled_room = let h = filled_few in omega (arith, right.size)

    pub filled_count : n ≡ length (row_of word)
    filled_count = sym (ap length (reads.only (row_of word) gives) ∙ reads.count)

    pub filled_weights : take (used_bytes n) key ≡ key_of (row_of word)
    filled_weights =
        let row = row_of word in
        let filled = subst (λ (a : Result ℕ Refusal). KeyIfRead word (outcome_of a) key) e right.key row gives in
        ap (take (used_bytes n)) filled
        ∙ take_at (key_of row) (zeros (key_limit - used_bytes (length row))) (used_bytes n) (key_used row ∙ ap used_bytes (sym filled_count))

    pub filled_key : n ∷ take (used_bytes n) key ≡ filed_key (row_of word)
    unfolding filed_key
    filled_key = λ i. filled_count i ∷ filled_weights i
