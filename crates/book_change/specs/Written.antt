-- Document 01, "The word book", and document 02, "Tidying a book": what add and remove answer, and what each byte of the buffer is afterwards.
-- Assumes nothing.
use Rattle.std.specs.Prelude.{◌≡◌, List, ℕ, zero, suc, length}
use Rattle.refusals.specs.Outcome.{Outcome, accepts, accepts_both, absent, refuses}
use Rattle.entries.specs.Entries.{Entry, Entries, entries}
use Rattle.entries.specs.Change.{with_record, with_removed}
use Rattle.entries.specs.Tidy.{bytes_tidied, tidied, start_after}
use Rattle.entries.specs.Outcome.{add_of, remove_of}

-- the buffer to which a record is added, by whether add tidies
abbrev pub bytes_ready : ℕ → List ℕ → List ℕ
bytes_ready zero bytes = bytes
bytes_ready (suc n) bytes = bytes_tidied bytes

-- the entries to which it is added, and where a record then starts; the laws cite them
abbrev pub list_ready : ℕ → List Entry → List Entry
list_ready zero list = list
list_ready (suc n) list = tidied list

abbrev pub start_ready : ℕ → Entries → ℕ → ℕ
start_ready zero held start = start
start_ready (suc n) held start = start_after held start

-- the buffer after add: with one record more, or, "A refusal gives number and place and writes nothing", as it was
abbrev pub bytes_added : Outcome → List ℕ → List ℕ → ℕ → List ℕ
bytes_added (accepts start) bytes word stock = bytes
bytes_added (accepts_both start tidies) bytes word stock = with_record (bytes_ready tidies bytes) start word stock
bytes_added absent bytes word stock = bytes
bytes_added (refuses number place) bytes word stock = bytes

-- the buffer after remove: with one byte changed, or as it was
abbrev pub bytes_removed : Outcome → List ℕ → List ℕ
bytes_removed (accepts start) bytes = with_removed bytes start
bytes_removed (accepts_both number start) bytes = bytes
bytes_removed absent bytes = bytes
bytes_removed (refuses number place) bytes = bytes

-- the promise of add, for a word in storage order
pub record AddRight (word : List ℕ) (stock : ℕ) (before after : List ℕ) (outcome : Outcome) : Type 0 where
  pub answer : outcome ≡ add_of (entries before) (length before) word
  pub bytes : after ≡ bytes_added outcome before word stock

-- the promise of remove, for a word in storage order
pub record RemoveRight (word before after : List ℕ) (outcome : Outcome) : Type 0 where
  pub answer : outcome ≡ remove_of (entries before) word
  pub bytes : after ≡ bytes_removed outcome before
