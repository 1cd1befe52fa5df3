-- What the weights of a word tell, written to lent output: the bytes are those of the row, all 384 of them.
-- Assumes nothing.
use mathlib.Core.Path.{◌≡◌, refl, ap, sym, subst, ◌∙◌}
use mathlib.Core.List.{List}
use Prim.Native.Nat.{ℕ, ◌≤◌, ◌<◌}
use native.Mathlib.Omega.{arith}
use lib.ListN.{length}
use lib.Seq.{sets}
use Rattle.memory.proofs.Stores.{sets_front}
use Rattle.formula.specs.Row.{Row}
use Rattle.refusals.specs.Refusal.{number_of, place_of}
use Rattle.refusals.specs.Outcome.{accepts, refuses}
use Rattle.refusals.specs.Output.{refused, put, too_short}
use Rattle.refusals.specs.declared.Refusal.{Refusal}
use Rattle.std.specs.declared.result.Result.{Result}
use Rattle.std.specs.declared.result.Result.TheVariants.{Ok, Err}
use Rattle.normaliser.specs.Normal.{Stores}
use Rattle.weighing.specs.Keys.{key_limit, key_bytes}
use Rattle.collation.specs.Keyed.{WeighRight}
use Rattle.collation.proofs.Weighing.{weighed_key}
use Rattle.outputs.specs.Outputs.{StoredRow, KeyWritten}

module _ (word : List ℕ) (answer : Result ℕ Refusal) (bytes : List ℕ) (right : WeighRight word answer bytes) (before : List ℕ) where
  pub key_stays : (refusal : Refusal) → answer ≡ Err refusal → KeyWritten word before before (refuses (number_of refusal) (place_of refusal))
  key_stays refusal e = let w = rw e at right in refused w.answers refl

  module _ (count : ℕ) (told : answer ≡ Ok count) where
    abbrev row : Row
    row = (weighed_key word answer bytes right count told).stores.reads.row

    counted : length row ≡ count
    counted = (weighed_key word answer bytes right count told).stores.reads.count

    stored_row : StoredRow word row
    stored_row =
        let key = weighed_key word answer bytes right count told in
        record { stores = subst (Stores word) (sym counted) key.stores; gives = key.stores.reads.gives }

    bytes_are : bytes ≡ key_bytes row
    bytes_are = (weighed_key word answer bytes right count told).bytes row stored_row.gives

    key_size : length (key_bytes row) ≡ key_limit
    key_size = sym (ap length bytes_are) ∙ right.room

    pub key_short : length before < key_limit → KeyWritten word before before (refuses 5 key_limit)
    key_short less =
        subst (λ (n : ℕ). KeyWritten word before before (refuses 5 n)) key_size (too_short stored_row (omega (arith, key_size)) refl)

    pub key_written : key_limit ≤ length before → (after : List ℕ) → after ≡ sets before 0 bytes → KeyWritten word before after (accepts count)
    key_written fits after is =
        let room : length (key_bytes row) ≤ length before = omega (arith, key_size) in
        subst (λ (n : ℕ). KeyWritten word before after (accepts n)) counted
        (put stored_row room (is ∙ ap (sets before 0) bytes_are ∙ sets_front (key_bytes row) before room))
