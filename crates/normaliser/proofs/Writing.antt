-- A word that passes the tests stands for its stored form, and what is held of that is put out.
-- Assumes nothing.
use mathlib.Core.Path.{◌≡◌, refl, sym, ◌∙◌}
use mathlib.Core.List.{List}
use Prim.Native.Nat.{ℕ, ◌<◌, ◌≤◌}
use lib.ListN.{length, take}
use Rattle.std.specs.Prelude.{Option, Some, None, MatchOption, slice_get}
use Rattle.std.proofs.Math.Option.{none, some}
use Rattle.std.proofs.Math.ListN.{get_elem?}
use Rattle.formula.specs.Held.{word_of}
use Rattle.formula.specs.declared.Word.{Word}
use Rattle.formula.proofs.Held.{held_front}
use Rattle.refusals.specs.Outcome.{Outcome, accepts, refuses, tells_if_there}
use Rattle.refusals.specs.Output.{Puts, whole, no_room, refused}
use Rattle.std.proofs.lemmas.List.Edits.{sets}
use Rattle.memory.proofs.Stores.{sets_front}
use Rattle.refusals.proofs.Putting.{puts_writes}
use Rattle.recogniser.specs.Answer.{Admissible, Readable}
use Rattle.storage.specs.Stored.{stored_form}
use Rattle.storage.proofs.Rows.{gives_stored}
use Rattle.typed_places.specs.Typed.{typed_places}
use Rattle.typed_places.proofs.Laws.{element_answered}
use Rattle.normaliser.specs.Admission.{Unadmitted}
use Rattle.normaliser.specs.Form.{FormRight}
use Rattle.normaliser.specs.Normal.{StoreRefusedWith, Stores, HoldsForm, NormaliseRight}
use Rattle.normaliser.specs.Typed.{TypedAnswers}
use Rattle.normaliser.proofs.Storing.{readable_stores}

-- values are put where there is room for them
module _ (values before : List ℕ) where
  pub values_stay : length before < length values → Puts values before before (refuses 5 (length values))
  values_stay h = no_room h refl

  pub values_put : length values ≤ length before → (after : List ℕ) → after ≡ sets before 0 values → Puts values before after (accepts (length values))
  values_put h after e = whole h (e ∙ sets_front values before h)

-- a refusal leaves the output as it was
module _ (word before : List ℕ) where
  pub form_stays : (number place : ℕ) → Unadmitted word number place → FormRight word before before (refuses number place)
  form_stays number place r = refused r refl

  pub normal_stays : (number place : ℕ) → StoreRefusedWith word number place → NormaliseRight word before before (refuses number place)
  normal_stays number place r = refused r refl

  module _ (after : List ℕ) (answer : Outcome) where
    pub form_put : Admissible word → (held : Word) → held ≡ word_of (stored_form word) → Puts (take held.count held.values) before after answer
        → FormRight word before after answer
    form_put a held e p =
        puts_writes {A = Unit {0}} (Unadmitted word) (λ _. Admissible word) (λ _. stored_form word) before after tt a _
        (held_front held (stored_form word) e) answer p

    put_values : (n : ℕ) → Stores word n → (given : List ℕ) → given ≡ stored_form word → Puts given before after answer
        → NormaliseRight word before after answer
    put_values n s given e p = puts_writes (StoreRefusedWith word) (Stores word) (λ n. stored_form word) before after n s given e answer p

    pub normal_put : (held : Word) → HoldsForm word held → Puts (take held.count held.values) before after answer → NormaliseRight word before after answer
    normal_put held right p = put_values right.count right.stores _ (held_front held (stored_form word) right.is_form) p

    -- a row of syllables is its own stored form
    pub row_put : Readable word → Puts word before after answer → NormaliseRight word before after answer
    row_put readable p =
        put_values (length readable.row) (readable_stores word readable) word (sym (gives_stored readable.row word readable.gives)) p

-- the typed place of a value is told where there is one
pub place_told : (word : List ℕ) (place : ℕ) → Admissible word → TypedAnswers word place (tells_if_there accepts (slice_get (typed_places word) place))
place_told word place a = go (slice_get (typed_places word) place) (element_answered (typed_places word) place)
  where
    go : (o : Option ℕ) → MatchOption o (get_elem? (typed_places word) place ≡ none) (λ p. get_elem? (typed_places word) place ≡ some p)
        → TypedAnswers word place (tells_if_there accepts o)
    go (Some p) e = record { admissible = a; typed = e }
    go None e = record { admissible = a; nothing = e }
