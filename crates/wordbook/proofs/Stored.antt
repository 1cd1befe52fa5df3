-- The stored form of a word that is not empty is not empty, since sorting keeps each value and rule 2 leaves one of two; and where it is a row, it can be stored.
-- Assumes nothing.
use mathlib.Core.Path.{◌≡◌, refl, sym, ap, subst, ◌∙◌}
use mathlib.Core.Bool.{Bool, true, false}
use mathlib.Core.List.{List, [], ◌∷◌}
use Prim.Native.Nat.{ℕ, ◌≤◌}
use native.Mathlib.Omega.{arith}
use lib.ListN.{length, take, drop, length-append}
use lib.Seq.{take_at}
use Rattle.letters.specs.Choice.{pick}
use Rattle.formula.specs.Limits.{limit}
use Rattle.refusals.specs.Refusal.{number_of, place_of}
use Rattle.refusals.specs.Outcome.{Outcome, refuses, outcome_of}
use Rattle.refusals.specs.declared.Refusal.{Refusal}
use Rattle.std.specs.declared.result.Result.{Result}
use Rattle.std.specs.declared.result.Result.TheVariants.{Ok, Err}
use Rattle.refusals.specs.Output.{refused as not_stored, put, too_short}
use Rattle.storage.specs.Stored.{sort_runs, makes_long_vowel, makes_letter, compose, stored_form}
use Rattle.storage.proofs.Runs.{sort_length}
use Rattle.normaliser.specs.Normal.{NormaliseRight}
use Rattle.entries.specs.Change.{Storable}
use Rattle.wordbook.specs.Calls.{WordRefused, refused, WordStored, CallAnswers, word_refused, word_stored, FormAt, EnteredFor}

-- rule 2 leaves something of what there is
compose_some : (word : List ℕ) → 1 ≤ length word → 1 ≤ length (compose word)
unfolding pick
compose_some [] h = h
compose_some (x ∷ []) h = h
compose_some (x ∷ y ∷ word) h = go (makes_long_vowel x y)
  where
    go : (long : Bool) → 1 ≤ length (pick long (0x1026 ∷ compose word) (pick (makes_letter x y) 0x1009 x ∷ compose (y ∷ word)))
    go true = omega arith
    go false = omega arith

pub stored_some : (word : List ℕ) → 1 ≤ length word → 1 ≤ length (stored_form word)
unfolding stored_form
stored_some word h = compose_some (sort_runs word) (omega (arith, sort_length word))

pub stored_storable : (word : List ℕ) → WordStored word → Storable (stored_form word)
stored_storable word s =
    let r = s.stores.reads in
    record {
      some = stored_some word s.some;
      readable = record { admissible = r.admissible; row = r.row; gives = r.gives; only = r.only };
    }

-- what the normaliser writes of a word that is not empty goes on to the book: there is room for any stored form
pub entered_right : (word before after : List ℕ) (o : Outcome) → 1 ≤ length word → limit ≤ length before → NormaliseRight word before after o
    → EnteredFor word before after o
entered_right word before after o some room (not_stored r e) = record { refused = refused some r; values = e }
entered_right word before after o some room (put {thing = n} s h e) =
    record { stored = record { some = some; syllables = n; stores = s }; long = refl; values = e }
entered_right word before after o some room (too_short s h e) =
    let short = s.reads.admissible.short in
    let z : ⊥ = omega arith in
    absurd z

module _ {word before after : List ℕ} {count : ℕ} (f : FormAt word before after count) where
  pub form_fits : count ≤ length after
  form_fits = omega (arith, f.long, ap length f.values, length-append (stored_form word) (drop count before))

  pub form_front : take count after ≡ stored_form word
  form_front = ap (take count) f.values ∙ take_at (stored_form word) (drop count before) count (sym f.long)

  pub form_storable : Storable (take count after)
  form_storable = subst Storable (sym form_front) (stored_storable word f.stored)

-- an outcome that is the refusal of the word, or what the book answers to its stored form, is the answer of a call
module _ (word : List ℕ) (answer outcome : Outcome) where
  pub refused_answers : (number place : ℕ) → WordRefused word number place → outcome ≡ refuses number place → CallAnswers word answer outcome
  refused_answers number place r e = subst (CallAnswers word answer) (sym e) (word_refused r)

  pub stored_answers : WordStored word → outcome ≡ answer → CallAnswers word answer outcome
  stored_answers s e = subst (CallAnswers word answer) (sym e) (word_stored s)

-- the set of rules by which the check finds that a call keeps its promise
pub ruleset answered_by_form = (form_fits, form_front, form_storable, refused_answers, stored_answers)

-- what entering a word tells by its answer: its stored form went on to the book, or the word is refused
module _ (word before after : List ℕ) (answer : Result ℕ Refusal) (right : EnteredFor word before after (outcome_of answer)) where
  answered : (other : Result ℕ Refusal) → answer ≡ other → EnteredFor word before after (outcome_of other)
  answered other e = subst (λ (a : Result ℕ Refusal). EnteredFor word before after (outcome_of a)) e right

  pub entered_form : (count : ℕ) → answer ≡ Ok count → FormAt word before after count
  entered_form count e = answered (Ok count) e

  pub entered_refused : (refusal : Refusal) → answer ≡ Err refusal → WordRefused word (number_of refusal) (place_of refusal)
  entered_refused refusal e = (answered (Err refusal) e).refused
