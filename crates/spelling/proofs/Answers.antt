-- A reading's packed syllables, spelled, are the spelled syllables of the row that gives the word, so the sizes say which case of `SpellRight` holds.
-- Assumes nothing.
use mathlib.Core.Path.{◌≡◌, refl, ap, sym, ◌∙◌}
use mathlib.Core.List.{List, [], ◌∷◌}
use Prim.Native.Nat.{ℕ, suc, ◌≤◌, ◌<◌}
use native.Mathlib.Omega.{arith}
use lib.ListN.{length, take}
use Rattle.formula.specs.Limits.{limit}
use Rattle.formula.specs.Syllable.{no_final}
use Rattle.formula.specs.Row.{Row}
use Rattle.formula.specs.Spelled.{spelled}
use Rattle.refusals.specs.Outcome.{accepts_both, refuses}
use Rattle.std.specs.declared.result.Result.TheVariants.{Ok}
use Rattle.recogniser.specs.Answer.{Reads}
use Rattle.reading.specs.Reading.{ReadRight}
use Rattle.reading.specs.declared.row.Reading.{Reading}
use Rattle.recogniser.proofs.Counted.{count_limit}
use Rattle.reading.proofs.Recorded.{held_row, held_count}
use Rattle.spelling.specs.Spell.{joined, ReadAs, Lists, lists, SpellRight, spelled_out, values_too_short, starts_too_short}
use Rattle.spelling.specs.Plain.{spelled_each}
use Rattle.spelling.specs.Put.{SpelledSize, Room, SyllablesPut}
use Rattle.spelling.proofs.Plains.{spelled_row}

-- a row has as many spelled syllables as syllables
pub spelled_count : (row : Row) → length (spelled row) ≡ length row
spelled_count [] = refl
spelled_count (s ∷ row) = ap suc (spelled_count row)

-- what is known of a word that is read
module _ (word : List ℕ) (reading : Reading) (right : ReadRight word (Ok reading)) (held : List ℕ) (e : held ≡ take reading.count reading.syllables) where
  abbrev read_row : Reads word reading.count
  read_row = right.answers

  read_as : ReadAs word read_row.row
  read_as = record { admissible = read_row.admissible; gives = read_row.gives }

  -- the syllables that are read are those of the row
  each_spelled : spelled_each held ≡ spelled read_row.row
  each_spelled = ap spelled_each (held_row word reading right held e) ∙ spelled_row no_final read_row.row read_row.gives.is_row

  counted : length (spelled read_row.row) ≡ length held
  counted = spelled_count read_row.row ∙ read_row.count ∙ sym (held_count word reading right held e)

  pub syllables_few : length held ≤ limit
  syllables_few = omega (arith, held_count word reading right held e, count_limit word reading.count read_row)

  module _ (values starts : List ℕ) (size : ℕ) (sized : SpelledSize held size) where
    size_is : size ≡ length (joined (spelled read_row.row))
    size_is = sized ∙ ap (λ (l : List (List ℕ)). length (joined l)) each_spelled

    -- the first list is too short
    pub spell_values_short : length values < size → SpellRight word (lists values starts) (lists values starts) (refuses 5 size)
    spell_values_short few = rw size_is (values_too_short read_as (omega (arith, size_is)) refl)

    -- the second is
    pub spell_starts_short : size ≤ length values → length starts < length held
        → SpellRight word (lists values starts) (lists values starts) (refuses 5 (length held))
    spell_starts_short enough few = rw (← counted) (starts_too_short read_as (omega (arith, size_is)) (omega (arith, counted)) refl)

    -- both have room
    pub spell_room : size ≤ length values → length held ≤ length starts → Room held values starts
    spell_room enough more = record { short = syllables_few; values_fit = omega (arith, sized); starts_fit = more }

    pub spell_done : size ≤ length values → length held ≤ length starts → (after : Lists) → SyllablesPut held (lists values starts) after
        → SpellRight word (lists values starts) after (accepts_both size (length held))
    spell_done enough more after p =
        rw (← counted, size_is)
        (spelled_out read_as (omega (arith, size_is)) (omega (arith, counted))
        (record { values = rw (← each_spelled) p.values; starts = rw (counted, ← each_spelled) p.starts }))
