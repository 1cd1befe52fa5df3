-- A full book that is emptied in part and filled again, byte by byte, by the promises of the calls alone: with words of the one table of worked words, a
-- part is removed from a full book, the book is tidied or another part added, which tidies; then the book is full again. Assumes nothing.
use mathlib.Core.Path.{◌≡◌, refl, sym, ap, subst, ◌∙◌}
use mathlib.Core.Bool.{Bool, true, false, ◌&&◌}
use mathlib.Core.List.{List, [], ◌∷◌, ◌++◌}
use Prim.Native.Nat.{ℕ, ◌≤◌, ◌<◌}
use native.Mathlib.Omega.{arith}
use lib.Dec.{T, leb, leb→le}
use lib.ListN.{length}
use Rattle.letters.specs.Choice.{pick}
use Rattle.formula.specs.Limits.{limit}
use Rattle.formula.specs.Lists.{filtered}
use Rattle.formula.specs.Syllable.{carries_marks, carries_final}
use Rattle.formula.specs.Record.{record_of}
use Rattle.formula.specs.Weighing.{weights_of}
use Rattle.formula.proofs.Lists.{both_left, both_right, All, every_all}
use Rattle.formula.proofs.Words.{Example, letter, closed, toned_i, ukka, aforementioned, is_right, right}
use Rattle.refusals.specs.Outcome.{Outcome, accepts, accepts_both, refuses}
use Rattle.recogniser.specs.Answer.{Reads}
use Rattle.recogniser.proofs.Answered.{row_reads, reads_readable}
use Rattle.storage.specs.Stored.{stored_form}
use Rattle.storage.proofs.Rows.{gives_stored}
use Rattle.entries.specs.Entries.{Entry, holds, is_fresh, Entries, book, wrong, zero_tail, entries, entries_from_within, entries_within}
use Rattle.entries.specs.Limits.{book_limit}
use Rattle.entries.specs.Book.{zeros, record_bytes, records, end_of, GoodEntry, GoodAfter}
use Rattle.entries.specs.Map.{lookup}
use Rattle.entries.specs.Change.{with_record}
use Rattle.entries.specs.Tidy.{entries_tidied}
use Rattle.entries.specs.Outcome.{remove_of, add_of}
use Rattle.entries.proofs.Agree.{complete}
use Rattle.tidying.specs.Tidy.{tidy_of, TidyRight}
use Rattle.book_change.specs.Written.{bytes_added, bytes_removed}
use Rattle.wordbook.specs.Calls.{WordStored, AddPromise, RemovePromise}
use Rattle.wordbook.proofs.Laws.{stored_answer}

-- the entry of a worked word
abbrev entry_of : ℕ → Bool → ℕ → Example → Entry
entry_of start live stock example = record { start = start; live = live; stock = stock; word = example.word }

-- a worked word goes on to the book as it is, and a record can hold it
record Held (example : Example) : Type 0 where
  own_form : stored_form example.word ≡ example.word
  stored : WordStored example.word
  good : (start stock : ℕ) (live : Bool) → stock < 4294967296 → GoodEntry (entry_of start live stock example)

abbrev is_held : Example → Bool
is_held example = is_right example && (leb 1 (length example.word) && leb (length example.word) limit)

held : (example : Example) → T (is_held example) → Held example
held example t =
    let word = example.word in
    let bounds = both_right (is_right example) _ t in
    let some = leb→le 1 (length word) (both_left (leb 1 (length word)) _ bounds) in
    let short = leb→le (length word) limit (both_right (leb 1 (length word)) _ bounds) in
    let gives = (right example (both_left (is_right example) _ t)).gives in
    let own : stored_form word ≡ word = gives_stored example.row word gives in
    let reads : Reads word (length example.row) = row_reads example.row word gives short in
    record {
      own_form = own;
      stored =
          record {
            some = some;
            syllables = length example.row;
            stores = record { admissible = reads.admissible; reads = subst (λ (w : List ℕ). Reads w (length example.row)) (sym own) reads };
          };
      good = λ start stock live small. record { some = some; readable = reads_readable word _ reads; stock = small };
    }

held_words : All Held (letter ∷ closed ∷ toned_i ∷ ukka ∷ aforementioned ∷ [])
unfolding record_of weights_of pick carries_marks carries_final
held_words = every_all is_held Held held (letter ∷ closed ∷ toned_i ∷ ukka ∷ aforementioned ∷ []) tt

-- three records of 8, 11 and 9 bytes, in 28
abbrev pub full : List ℕ
full =
    0x4D ∷ 0x57 ∷ 1 ∷ 7 ∷ 0 ∷ 0 ∷ 0 ∷ 0x00
    ∷ 0x4D ∷ 0x57 ∷ 4 ∷ 0x2C ∷ 1 ∷ 0 ∷ 0 ∷ 0x00 ∷ 0x14 ∷ 0x3A ∷ 0x37
    ∷ 0x4D ∷ 0x57 ∷ 2 ∷ 4 ∷ 3 ∷ 2 ∷ 1 ∷ 0x29 ∷ 0x38 ∷ []

-- the second is removed
abbrev pub emptied : List ℕ
emptied =
    0x4D ∷ 0x57 ∷ 1 ∷ 7 ∷ 0 ∷ 0 ∷ 0 ∷ 0x00
    ∷ 0x4D ∷ 0x2D ∷ 4 ∷ 0x2C ∷ 1 ∷ 0 ∷ 0 ∷ 0x00 ∷ 0x14 ∷ 0x3A ∷ 0x37
    ∷ 0x4D ∷ 0x57 ∷ 2 ∷ 4 ∷ 3 ∷ 2 ∷ 1 ∷ 0x29 ∷ 0x38 ∷ []

-- and the book tidied
abbrev pub tidy : List ℕ
tidy =
    0x4D ∷ 0x57 ∷ 1 ∷ 7 ∷ 0 ∷ 0 ∷ 0 ∷ 0x00
    ∷ 0x4D ∷ 0x57 ∷ 2 ∷ 4 ∷ 3 ∷ 2 ∷ 1 ∷ 0x29 ∷ 0x38
    ∷ 0 ∷ 0 ∷ 0 ∷ 0 ∷ 0 ∷ 0 ∷ 0 ∷ 0 ∷ 0 ∷ 0 ∷ 0 ∷ []

-- or a record of 11 bytes added instead, which fits once the book is tidied
abbrev pub filled : List ℕ
filled =
    0x4D ∷ 0x57 ∷ 1 ∷ 7 ∷ 0 ∷ 0 ∷ 0 ∷ 0x00
    ∷ 0x4D ∷ 0x57 ∷ 2 ∷ 4 ∷ 3 ∷ 2 ∷ 1 ∷ 0x29 ∷ 0x38
    ∷ 0x4D ∷ 0x57 ∷ 4 ∷ 5 ∷ 0 ∷ 0 ∷ 0 ∷ 0x25 ∷ 0x00 ∷ 0x39 ∷ 0x00 ∷ []

abbrev entries_full : List Entry
entries_full = entry_of 0 true 7 letter ∷ entry_of 8 true 300 closed ∷ entry_of 19 true 16909060 toned_i ∷ []

abbrev entries_emptied : List Entry
entries_emptied = entry_of 0 true 7 letter ∷ entry_of 8 false 300 closed ∷ entry_of 19 true 16909060 toned_i ∷ []

abbrev entries_filled : List Entry
entries_filled = entry_of 0 true 7 letter ∷ entry_of 8 true 16909060 toned_i ∷ entry_of 17 true 5 ukka ∷ []

-- a buffer that is these records, and then zeros, is read as these entries
read_as : (bytes : List ℕ) (list : List Entry) (pad : ℕ) → length bytes ≤ book_limit → bytes ≡ records list ++ zeros pad → GoodAfter 0 [] list
    → entries bytes ≡ book list (end_of 0 list)
read_as bytes list pad short written good = complete bytes list (record { short = short; pad = pad; written = written; good = good })

entries_full_lem : entries full ≡ book entries_full 28
unfolding record_bytes is_fresh holds
entries_full_lem =
    let w = held_words in
    read_as full entries_full 0 (omega arith) refl
    (refl, w.0.good _ _ _ (omega arith), tt, (refl, w.1.0.good _ _ _ (omega arith), tt, (refl, w.1.1.0.good _ _ _ (omega arith), tt, tt)))

entries_emptied_lem : entries emptied ≡ book entries_emptied 28
unfolding record_bytes is_fresh holds
entries_emptied_lem =
    let w = held_words in
    read_as emptied entries_emptied 0 (omega arith) refl
    (refl, w.0.good _ _ _ (omega arith), tt, (refl, w.1.0.good _ _ _ (omega arith), tt, (refl, w.1.1.0.good _ _ _ (omega arith), tt, tt)))

entries_filled_lem : entries filled ≡ book entries_filled 28
unfolding record_bytes is_fresh holds
entries_filled_lem =
    let w = held_words in
    read_as filled entries_filled 0 (omega arith) refl
    (refl, w.0.good _ _ _ (omega arith), tt, (refl, w.1.1.0.good _ _ _ (omega arith), tt, (refl, w.1.1.1.0.good _ _ _ (omega arith), tt, tt)))

-- the part is removed from the full book
pub shelf_removed : (after : List ℕ) (outcome : Outcome) → RemovePromise closed.word full after outcome → (outcome ≡ accepts 8) × (after ≡ emptied)
unfolding lookup pick
shelf_removed after outcome p =
    let h = held_words.1.0 in
    let answer : outcome ≡ accepts 8 =
    stored_answer closed.word _ outcome h.stored p.answers
    ∙ (λ i. remove_of (entries_full_lem i) (h.own_form i)) in
    (answer, p.bytes ∙ ap (λ (o : Outcome). bytes_removed o full) answer)

-- tidying gives the live length, and closes the gap
pub shelf_tidied : (after : List ℕ) (outcome : Outcome) → TidyRight emptied after outcome → (outcome ≡ accepts 17) × (after ≡ tidy)
unfolding filtered pick record_bytes
shelf_tidied after outcome t = (t.answer ∙ ap tidy_of entries_emptied_lem, t.bytes ∙ ap (λ (x : Entries). entries_tidied x emptied) entries_emptied_lem)

-- an add of a worked word answers and writes what the definition does for the entries of the book
module _ (example : Example) (h : Held example) (bytes : List ℕ) (held : Entries) (is : entries bytes ≡ held) (stock : ℕ) where
  worked : (after : List ℕ) (outcome : Outcome) → AddPromise example.word stock bytes after outcome → let answer = add_of held (length bytes) example.word in
      (outcome ≡ answer) × (after ≡ bytes_added answer bytes example.word stock)
  worked after outcome p =
      let answer : outcome ≡ add_of held (length bytes) example.word =
      stored_answer example.word _ outcome h.stored p.answers ∙ (λ i. add_of (is i) (length bytes) (h.own_form i)) in
      (answer, p.bytes ∙ (λ i. bytes_added (answer i) bytes (h.own_form i) stock))

-- "add after remove in a full book": the record does not fit behind the last one, and fits once the book is tidied
pub shelf_added : (after : List ℕ) (outcome : Outcome) → AddPromise ukka.word 5 emptied after outcome → (outcome ≡ accepts_both 17 1) × (after ≡ filled)
unfolding lookup filtered pick record_bytes
shelf_added after outcome p =
    let w = worked ukka held_words.1.1.1.0 emptied _ entries_emptied_lem 5 after outcome p in
    (w.0, w.1 ∙ ap (λ (x : Entries). with_record (entries_tidied x emptied) 17 ukka.word 5) entries_emptied_lem)

-- and then the book is full: 14 with the live length, and no byte moved
pub shelf_full : (after : List ℕ) (outcome : Outcome) → AddPromise aforementioned.word 6 filled after outcome → (outcome ≡ refuses 14 28) × (after ≡ filled)
unfolding lookup filtered pick record_bytes
shelf_full = worked aforementioned held_words.1.1.1.1.0 filled _ entries_filled_lem 6

-- the part that was added is there: 12 with its start
pub shelf_live : (after : List ℕ) (outcome : Outcome) → AddPromise ukka.word 6 filled after outcome → (outcome ≡ refuses 12 17) × (after ≡ filled)
unfolding lookup pick
shelf_live = worked ukka held_words.1.1.1.0 filled _ entries_filled_lem 6

-- a zero and then a seven are no book: 11 with the place of the seven
pub shelf_no_book : (after : List ℕ) (outcome : Outcome) → AddPromise letter.word 6 (0 ∷ 7 ∷ []) after outcome → (outcome ≡ refuses 11 1) × (after ≡ 0 ∷ 7 ∷ [])
unfolding entries_within entries_from_within zero_tail pick
shelf_no_book = worked letter held_words.0 (0 ∷ 7 ∷ []) (wrong 1) refl 6

-- a removed record of 8 bytes, and 11 that are free
abbrev pub fitting : List ℕ
fitting = 0x4D ∷ 0x2D ∷ 1 ∷ 7 ∷ 0 ∷ 0 ∷ 0 ∷ 0x00 ∷ 0 ∷ 0 ∷ 0 ∷ 0 ∷ 0 ∷ 0 ∷ 0 ∷ 0 ∷ 0 ∷ 0 ∷ 0 ∷ []

entries_fitting : entries fitting ≡ book (entry_of 0 false 7 letter ∷ []) 8
unfolding record_bytes is_fresh holds
entries_fitting =
    read_as fitting (entry_of 0 false 7 letter ∷ []) 11 (omega arith) refl (refl, held_words.0.good _ _ _ (omega arith), tt, tt)

-- "an exact fit never tidies": the record is put behind the removed one, which stays
pub shelf_exact : (after : List ℕ) (outcome : Outcome) → AddPromise ukka.word 5 fitting after outcome
    → (outcome ≡ accepts_both 8 0)
    × (after ≡ 0x4D ∷ 0x2D ∷ 1 ∷ 7 ∷ 0 ∷ 0 ∷ 0 ∷ 0x00 ∷ 0x4D ∷ 0x57 ∷ 4 ∷ 5 ∷ 0 ∷ 0 ∷ 0 ∷ 0x25 ∷ 0x00 ∷ 0x39 ∷ 0x00 ∷ [])
unfolding lookup filtered pick record_bytes
shelf_exact = worked ukka held_words.1.1.1.0 fitting _ entries_fitting 5
