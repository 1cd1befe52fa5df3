-- A word that was readable in an earlier edition keeps its records, by number and written back, and its spelled syllables.
-- Assumes nothing.
use mathlib.Core.List.{List}
use mathlib.Core.Path.{refl, subst}
use Prim.Native.Nat.{ℕ}
use Rattle.formula.specs.Row.{Row}
use Rattle.formula.specs.Record.{record_bytes}
use Rattle.formula.specs.Earlier.{Edition}
use Rattle.refusals.specs.Outcome.{accepts_both}
use Rattle.rows.proofs.Earlier.{earlier_gives}
use Rattle.recogniser.specs.Earlier.{ReadableIn}
use Rattle.recogniser.proofs.Earlier.{earlier_short, earlier_same}
use Rattle.std.specs.declared.result.Result.{Result}
use Rattle.refusals.specs.declared.Refusal.{Refusal}
use Rattle.reading.specs.Reading.{ReadRight}
use Rattle.reading.specs.declared.row.Reading.{Reading}
use Rattle.spelling.specs.Spell.{Lists, Written, SpellRight, spelled_out}
use Rattle.spelling.proofs.RoundTrip.{ReadBack, read_back}

pub earlier_records : {edition : Edition} (word : List ℕ) (b : ReadableIn edition word) (reading : Result Reading Refusal) → ReadRight word reading → ReadBack word (record_bytes b.row) reading
earlier_records {edition} word b reading right =
    read_back word (record_bytes b.row) b.row (earlier_gives edition b.row word b.gives) refl (earlier_short word b) reading right

pub earlier_spelled : {edition : Edition} (word : List ℕ) (b : ReadableIn edition word) (before after : Lists) (values count : ℕ) → SpellRight word before after (accepts_both values count)
    → Written b.row before after
earlier_spelled word b before after values count (spelled_out {row} r room starts w) = subst (λ (s : Row). Written s before after) (earlier_same word b row r.gives) w
