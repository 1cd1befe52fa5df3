-- The book as a map from words to stock numbers: what its live entries say. Assumes nothing.
use Rattle.std.specs.Prelude.{Bool, true, false, ◌&&◌, List, [], ◌∷◌, ℕ, suc}
use Rattle.std.proofs.Math.Option.{Option, none, some}
use Rattle.letters.specs.Choice.{pick}
use Rattle.formula.specs.Lists.{filtered, same_list}
use Rattle.entries.specs.Entries.{Entry}

-- the live entry with the word
unfoldable pub lookup : List Entry → List ℕ → Option Entry
lookup [] word = none
lookup (entry ∷ entries) word = pick (entry.live && same_list entry.word word) (some entry) (lookup entries word)

abbrev pub counted : Bool → ℕ → ℕ
counted true n = suc n
counted false n = n

-- how many live records there are
abbrev pub live_count : List Entry → ℕ
live_count [] = 0
live_count (entry ∷ entries) = counted entry.live (live_count entries)

-- the live entries of a list, in the list's order
abbrev pub live_ones : List Entry → List Entry
live_ones = filtered (λ (entry : Entry). entry.live)

-- the entry of a record that is removed
abbrev pub removed : Entry → Entry
removed entry = record { start = entry.start; live = false; stock = entry.stock; word = entry.word }

-- the entries with the word's live record removed
unfoldable pub without : List Entry → List ℕ → List Entry
without [] word = []
without (entry ∷ entries) word = pick (entry.live && same_list entry.word word) (removed entry) entry ∷ without entries word

-- the entry of a record that is added at a place
abbrev pub new_entry : ℕ → List ℕ → ℕ → Entry
new_entry start word stock = record { start = start; live = true; stock = stock; word = word }
