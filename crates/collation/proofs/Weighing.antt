-- The weights of a word's stored form are those of its key.
-- Assumes nothing.
use mathlib.Core.Path.{◌≡◌, ap, sym, subst}
use mathlib.Core.List.{List}
use Prim.Native.Nat.{ℕ, ◌≤◌, ◌<◌}
use native.Mathlib.Omega.{arith}
use lib.ListN.{length, take}
use lib.Seq.{length-take-le}
use Rattle.formula.specs.Limits.{limit}
use Rattle.formula.specs.Row.{Gives}
use Rattle.formula.specs.Held.{word_of}
use Rattle.formula.specs.declared.Word.{Word}
use Rattle.formula.proofs.Held.{held_front}
use Rattle.refusals.specs.declared.Refusal.{Refusal}
use Rattle.refusals.specs.declared.Refusal.TheVariants.{TooLong}
use Rattle.std.specs.Result.{MatchResult, IsErrAnd}
use Rattle.std.specs.declared.result.Result.{Result}
use Rattle.std.specs.declared.result.Result.TheVariants.{Ok, Err}
use Rattle.recogniser.proofs.Counted.{count_limit}
use Rattle.storage.specs.Stored.{stored_form}
use Rattle.storage.proofs.Rows.{gives_stored}
use Rattle.normaliser.specs.Normal.{HandedIn}
use Rattle.normaliser.proofs.Storing.{normal_too_long, word_admissible, refused_right, reads_stores}
use Rattle.weighing.specs.Keys.{key_limit, used_bytes, zeros}
use Rattle.keying.specs.Filled.{FillRight}
use Rattle.collation.specs.Keyed.{HasKey, WeighRight}

-- the weights of a row of syllables, which is its own stored form
pub row_weighed : (word bytes : List ℕ) (answer : Result ℕ Refusal) (n : ℕ) → FillRight word answer bytes → answer ≡ Ok n → WeighRight word (Ok n) bytes
row_weighed word bytes answer n right e =
    let filled = rw e at right in
    let reads = filled.answers in
    record {
      answers = reads_stores word n reads;
      weighed = λ row g. filled.key row (subst (Gives row) (gives_stored reads.row word reads.gives) g);
      room = right.size;
    }

pub long_weighed : (word bytes : List ℕ) → limit < length word → bytes ≡ zeros key_limit → WeighRight word (Err TooLong) bytes
long_weighed word bytes h e = record { answers = normal_too_long word h; weighed = e; room = ap length e }

-- what a word's stored form, with at most as many values as a word has, gives when it is read and weighed
module _ (word : List ℕ) (short : length word ≤ limit) (bytes : List ℕ) where
  form_weighed : (answer : Result ℕ Refusal) → FillRight (stored_form word) answer bytes → (told : Result ℕ Refusal)
      → MatchResult answer (λ n. told ≡ Ok n) (λ refusal. IsErrAnd told (HandedIn word refusal)) → WeighRight word told bytes
  form_weighed (Ok n) right told e =
      rw e
      (record {
        answers = record { admissible = word_admissible word short right.answers.admissible; reads = right.answers };
        weighed = right.key;
        room = right.size;
      })
  -- a refusal goes with zeros
  form_weighed (Err refusal) right (Err of_word) h =
      record { answers = refused_right word short refusal of_word right.answers h; weighed = right.key; room = right.size }
  form_weighed (Err refusal) right (Ok n) h = absurd h

  pub held_weighed : (held : Word) → held ≡ word_of (stored_form word) → (answer : Result ℕ Refusal)
      → FillRight (take held.count held.values) answer bytes → (told : Result ℕ Refusal)
      → MatchResult answer (λ n. told ≡ Ok n) (λ refusal. IsErrAnd told (HandedIn word refusal)) → WeighRight word told bytes
  held_weighed held e answer right = form_weighed answer (rw (held_front held (stored_form word) e) at right)

-- what is known of a word that is weighed
module _ (word : List ℕ) (answer : Result ℕ Refusal) (bytes : List ℕ) (right : WeighRight word answer bytes) (count : ℕ) (told : answer ≡ Ok count) where
  pub weighed : WeighRight word (Ok count) bytes
  weighed = subst (λ (a : Result ℕ Refusal). WeighRight word a bytes) told right

  pub weighed_key : HasKey word (record { count = count; bytes = bytes })
  weighed_key = let w = weighed in record { stores = w.answers; bytes = w.weighed }

  pub weighed_limit : count ≤ limit
  weighed_limit = let w = weighed in count_limit (stored_form word) count w.answers.reads

  -- the used bytes are within the key
  pub weighed_used : used_bytes count ≤ length bytes
  weighed_used = let h = weighed_limit in omega (arith, right.room)

  pub weighed_taken : used_bytes count ≡ length (take (used_bytes count) bytes)
  weighed_taken = sym (length-take-le (used_bytes count) bytes weighed_used)
