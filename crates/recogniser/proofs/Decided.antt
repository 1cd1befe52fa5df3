-- A word is readable, or it is not: the machine on rows tells which, and shows it.
-- Assumes nothing.
use mathlib.Core.Path.{◌≡◌, refl, sym, ◌∙◌}
use mathlib.Core.Bool.{Bool, true, false}
use mathlib.Core.List.{List, [], reverse}
use mathlib.Core.Option.{Option, none, some, none-ne-some}
use Prim.Native.Nat.{ℕ, ◌≤◌}
use native.Mathlib.Decide.{dec_le}
use lib.Dec.{T}
use lib.ListN.{length}
use Rattle.formula.specs.Limits.{limit}
use Rattle.formula.specs.Syllable.{is_closed}
use Rattle.formula.specs.Row.{Row, Gives}
use Rattle.rows.specs.Machine.{end_of, run}
use Rattle.rows.proofs.Sound.{sound}
use Rattle.rows.proofs.Viable.{read_back, unfinished}
use Rattle.recogniser.specs.Answer.{ReadableWithin, Readable}
use Rattle.recogniser.proofs.Answered.{row_reads, reads_readable}

decide_test : (t : Bool) → Dec (T t)
decide_test true = yes tt
decide_test false = no (λ t. t)

-- some row gives the word, or none does
pub decide_row : (word : List ℕ) → Dec ((row : Row) × Gives row word)
decide_row word = kept (run word []) refl
  where
    closed : (a : Row) → run word [] ≡ some a → Dec (T (is_closed (end_of a))) → Dec ((row : Row) × Gives row word)
    closed a e (yes t) = yes (reverse a, sound word a e t)
    closed a e (no n) = no (λ g. unfinished word a e n g.0 g.1)

    kept : (o : Option Row) → run word [] ≡ o → Dec ((row : Row) × Gives row word)
    kept none e = no (λ g. none-ne-some (reverse g.0) (sym e ∙ read_back g.0 word g.1))
    kept (some a) e = closed a e (decide_test (is_closed (end_of a)))

-- the word is readable, or it is not, within any limit
pub decide_within : (most : ℕ) (word : List ℕ) → Dec (ReadableWithin most word)
decide_within most word = all (dec_le (length word) most) (decide_row word)
  where
    all : Dec (length word ≤ most) → Dec ((row : Row) × Gives row word) → Dec (ReadableWithin most word)
    all (no n) g = no (λ r. n r.admissible.short)
    all (yes s) (no n) = no (λ r. n (r.row, r.gives))
    all (yes s) (yes g) = yes (reads_readable word _ (row_reads g.0 word g.1 s))

abbrev pub decide : (word : List ℕ) → Dec (Readable word)
decide word = decide_within limit word
