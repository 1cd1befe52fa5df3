-- What looking a word up tells, and where its record stands. Inner contracts cite it. Assumes nothing.
use Rattle.std.specs.Prelude.{◌≡◌, List, ℕ, Result, Ok, Err}
use Rattle.std.proofs.Math.Option.{Option, none, some}
use Rattle.refusals.specs.declared.Refusal.{Refusal}
use Rattle.refusals.specs.declared.Refusal.TheVariants.{NotABook}
use Rattle.refusals.specs.Outcome.{Outcome, accepts_both}
use Rattle.entries.specs.Limits.{head_size}
use Rattle.entries.specs.Entries.{Entry, Entries, book, wrong, entries}
use Rattle.entries.specs.Book.{Opened, Within}
use Rattle.entries.specs.Map.{lookup}
use Rattle.entries.specs.Tidy.{live_length}
use Rattle.lookup.specs.declared.Found.{Found}
use Rattle.lookup.specs.declared.Look.{Look}
use Rattle.lookup.specs.declared.Look.TheVariants.{Live, Missing}

-- what is told of a live record: its stock number and its start
abbrev pub found_told : Found → Outcome
found_told found = accepts_both found.stock found.start

abbrev pub look_of_entry : Option Entry → ℕ → ℕ → Look
look_of_entry none free length = Missing free length
look_of_entry (some entry) free length = Live (record { stock = entry.stock; start = entry.start })

abbrev pub look_of : Entries → List ℕ → Result Look Refusal
look_of (book list free) word = Ok (look_of_entry (lookup list word) free (live_length list))
look_of (wrong place) word = Err (NotABook place)

abbrev pub LookWithin : List ℕ → Look → Type 0
LookWithin bytes (Live found) = Within bytes found.start head_size
LookWithin bytes (Missing free length) = Opened bytes free

abbrev pub LookedWithin : List ℕ → Result Look Refusal → Type 0
LookedWithin bytes (Ok look) = LookWithin bytes look
LookedWithin bytes (Err refusal) = Unit {0}

-- the same of a book that is opened
pub record LocateRight (bytes word : List ℕ) (look : Look) : Type 0 where
  pub answer : Ok look ≡ look_of (entries bytes) word
  pub within : LookWithin bytes look

pub record LookRight (bytes word : List ℕ) (look : Result Look Refusal) : Type 0 where
  pub answer : look ≡ look_of (entries bytes) word
  pub within : LookedWithin bytes look
