-- The number of a preview is the number of the add on a copy of the book, and what a host reads from it is what the preview tells. By the promises alone.
-- Assumes nothing.
use mathlib.Core.Path.{◌≡◌, refl, sym, ap, ◌∙◌}
use mathlib.Core.Bool.{Bool, true, false}
use mathlib.Core.List.{List}
use mathlib.Core.Option.{Option, none, some}
use Prim.Native.Nat.{ℕ, ◌+◌, ◌≤◌}
use native.Mathlib.Omega.{arith}
use borrow.Author.Tests.{ne_eqb}
use lib.Dec.{leb}
use lib.ListN.{length}
use Rattle.letters.specs.Choice.{pick}
use Rattle.refusals.specs.Outcome.{Outcome, accepts, accepts_both, absent, refuses}
use Rattle.storage.specs.Stored.{stored_form}
use Rattle.entries.specs.Limits.{head_size}
use Rattle.entries.specs.Entries.{Entry, Entries, book, wrong, entries}
use Rattle.entries.specs.Map.{lookup}
use Rattle.entries.specs.Tidy.{live_length}
use Rattle.entries.specs.Outcome.{puts, tidies_and_puts, placing, add_of_entry, add_of}
use Rattle.entries.proofs.Bytes.{Bytes}
use Rattle.planning.specs.Preview.{PreviewOutcome, start_of, tidies_of}
use Rattle.wordbook.specs.Calls.{WordRefused, empty, refused, word_refused, word_stored, AddAnswers, AddPromise, PreviewPromise}
use Rattle.wordbook.proofs.Determined.{call_alike}
use Rattle.packing.specs.Packing.{pack, unpack, Packed}
use Rattle.packing.specs.Answers.{outcome_numbers, preview_numbers, start_read, tidies_read}
use Rattle.packing.proofs.WordFits.{store_refused_small}
use Rattle.packing.proofs.Unpacked.{preview_unpacked}

-- "Preview on a book equals add on a copy of it", of the numbers that hosts are given
pub preview_number : (word bytes seen after : List ℕ) (stock n m : ℕ) → Packed (PreviewPromise word stock bytes seen) preview_numbers n
    → Packed (AddPromise word stock bytes after) outcome_numbers m → n ≡ m
preview_number word bytes seen after stock n m p q =
    p.packed ∙ ap (λ (o : Outcome). pack (outcome_numbers o)) (call_alike word _ _ _ p.right.answers q.right.answers) ∙ sym q.packed

-- what add answers: two numbers, or a refusal, whose number is not 0
abbrev AddTold : Outcome → Type 0
AddTold (accepts number) = ⊥
AddTold (accepts_both start tidies) = Unit {0}
AddTold absent = ⊥
AddTold (refuses number place) = 1 ≤ number

word_told : (word : List ℕ) (number place : ℕ) → WordRefused word number place → AddTold (refuses number place)
word_told word number place (empty e) = omega arith
word_told word number place (refused h r) = (store_refused_small word number place r).some

book_told : (held : Entries) (room : ℕ) (word : List ℕ) → AddTold (add_of held room word)
unfolding pick
book_told (wrong place) room word = omega arith
book_told (book list free) room word = go (lookup list word)
  where
    placed : (fits behind : Bool) → AddTold (pick fits (pick behind (puts free) (tidies_and_puts (live_length list))) (refuses 14 (live_length list)))
    placed true true = tt
    placed true false = tt
    placed false behind = omega arith

    go : (o : Option Entry) → AddTold (add_of_entry o (placing list free room (head_size + length word)))
    go none = placed (leb (live_length list + (head_size + length word)) room) (leb (free + (head_size + length word)) room)
    go (some entry) = omega arith

add_told : (word : List ℕ) (stock : ℕ) (bytes : List ℕ) (o : Outcome) → AddAnswers word stock bytes o → AddTold o
add_told word stock bytes o (word_refused r) = word_told word _ _ r
add_told word stock bytes o (word_stored s) = book_told (entries bytes) (length bytes) (stored_form word)

numbers_read : (o : Outcome) → AddTold o → (start_read (outcome_numbers o) ≡ start_of o) × (tidies_read (outcome_numbers o) ≡ tidies_of o)
unfolding pick
numbers_read (accepts number) t = absurd t
numbers_read (accepts_both start tidies) t = (refl, refl)
numbers_read absent t = absurd t
numbers_read (refuses number place) t = (ap (λ (b : Bool). pick b place 0) (ne_eqb number 0 (λ e. let z : ⊥ = omega arith in z)), refl)

-- what a host reads from the number of a preview is what the preview tells: the start, 0 where the add is refused, and whether it would tidy
pub preview_read : (word : List ℕ) (stock : ℕ) (bytes seen : List ℕ) → Bytes bytes → (n : ℕ) (p : Packed (PreviewPromise word stock bytes seen) preview_numbers n)
    → (start_read (unpack n) ≡ p.outcome.start) × (tidies_read (unpack n) ≡ p.outcome.tidies)
preview_read word stock bytes seen small n p =
    let o = p.outcome in
    let numbers = preview_unpacked bytes small n word stock seen p in
    let read = numbers_read o.answer (add_told word stock bytes o.answer p.right.answers) in (
      ap start_read numbers ∙ read.0 ∙ sym (ap (λ (x : PreviewOutcome). x.start) p.right.tells),
      ap tidies_read numbers ∙ read.1 ∙ sym (ap (λ (x : PreviewOutcome). x.tidies) p.right.tells),
    )
