-- Document 01, "The word book" and "Weights": the rows of the words of a book, and how the keys of its live records are filed.
-- Assumes nothing.
use Rattle.std.specs.Prelude.{◌≡◌, List, [], ◌∷◌, map, ℕ, ◌+◌, ◌≤◌, T, length, get_or, take, drop}
use Rattle.std.proofs.lemmas.List.Edits.{sets}
use Rattle.formula.specs.Row.{Row, Gives}
use Rattle.recogniser.specs.Answer.{Readable}
use Rattle.weighing.specs.Keys.{key_of, used_bytes}
use Rattle.recogniser.proofs.Decided.{decide_row}
use Rattle.entries.specs.Entries.{Entry, word_at, is_framed}
use Rattle.entries.specs.Book.{IsBook}
use Rattle.entries.specs.Map.{live_count, live_ones}

abbrev pub decided_row : {word : List ℕ} → Dec ((row : Row) × Gives row word) → Row
decided_row (yes given) = given.0
decided_row (no none) = []

-- the row that gives a word, of whatever length; no row where none does
unfoldable pub row_of : List ℕ → Row
row_of word = decided_row (decide_row word)

-- how a key is filed: the number of syllables, then the weights, six bytes a syllable
unfoldable pub filed_key : Row → List ℕ
filed_key row = length row ∷ key_of row

-- the record at a place has a readable word, whose key stands from byte 6 times the place on
pub record HasKey (bytes keys : List ℕ) (at : ℕ) : Type 0 where
  pub framed : T (is_framed bytes at)
  pub readable : Readable (word_at bytes at)
  pub key_there : take (length (filed_key (row_of (word_at bytes at)))) (drop (used_bytes at) keys) ≡ filed_key (row_of (word_at bytes at))

-- the weights in the key that is filed for the record at a start
abbrev pub weights_at : List ℕ → ℕ → List ℕ
weights_at keys start = take (used_bytes (get_or keys (used_bytes start) 0)) (drop (used_bytes start + 1) keys)

-- each of these starts has its key
abbrev pub AllKeyed : List ℕ → List ℕ → List ℕ → Type 0
AllKeyed bytes keys [] = Unit {0}
AllKeyed bytes keys (start ∷ starts) = HasKey bytes keys start × AllKeyed bytes keys starts

abbrev pub start_of : Entry → ℕ
start_of entry = entry.start

-- the bytes for keys: six for each byte of a book
abbrev pub key_room : ℕ
key_room = 98304

-- the most live records of a book: each has at least eight bytes
abbrev pub most_live : ℕ
most_live = 2048

-- the keys of the records at these starts, filed one after the other
unfoldable pub with_keys : List ℕ → List ℕ → List ℕ → List ℕ
with_keys bytes keys [] = keys
with_keys bytes keys (start ∷ starts) = with_keys bytes (sets keys (used_bytes start) (filed_key (row_of (word_at bytes start)))) starts

-- the promise of `file_records`: the starts of the live records in their order, with the key of each; all else that is lent stays
pub record FiledRight (bytes keys_before starts_before_lem keys starts : List ℕ) (count : ℕ) : Type 0 where
  pub live : (list : List Entry) → IsBook bytes list → count ≡ live_count list
  pub filed : (list : List Entry) → IsBook bytes list → take count starts ≡ map start_of (live_ones list)
  pub keyed : AllKeyed bytes keys (take count starts)
  pub few : count ≤ most_live
  pub key_room_lem : length keys ≡ key_room
  pub start_room : count ≤ length starts
  pub other_starts : drop count starts ≡ drop count starts_before_lem
  pub all_keys : keys ≡ with_keys bytes keys_before (take count starts)
