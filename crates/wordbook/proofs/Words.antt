-- The word of a record, by the promises of the calls alone: only one answer is right; each entry of a book is told at its own start, since no two
-- start at one place; so the record that find gives is live and has the word, and after remove it has the same word and is removed.
-- Assumes nothing.
use mathlib.Core.Path.{◌≡◌, refl, sym, ap, subst, ◌∙◌}
use mathlib.Core.Bool.{Bool, true, false, ◌&&◌}
use mathlib.Core.Logic.{inl, inr}
use mathlib.Core.List.{List, [], ◌∷◌, ◌++◌}
use mathlib.Core.Option.{Option, none, some, none-ne-some}
use Prim.Native.Nat.{ℕ, ◌+◌, ◌≤◌, ◌<◌}
use native.Mathlib.Omega.{arith}
use borrow.Author.Tests.{eq-eqb, ne_eqb, le-leb}
use lib.Dec.{T, eqb, leb}
use lib.ListN.{length, get_or, drop}
use Rattle.letters.specs.Choice.{pick}
use Rattle.letters.proofs.Tests.{is_true, pick_true, pick_false}
use Rattle.formula.specs.Limits.{limit}
use Rattle.formula.proofs.Lists.{same_list}
use Rattle.refusals.specs.Outcome.{Outcome, accepts, accepts_both, outcome_by, tells_if_there}
use Rattle.std.specs.declared.result.Result.{Result}
use Rattle.std.specs.declared.option.Option.{Option as Perhaps}
use Rattle.refusals.specs.declared.Refusal.{Refusal}
use Rattle.storage.specs.Stored.{stored_form}
use Rattle.entries.specs.Entries.{Entry, Entries, book, wrong, entries}
use Rattle.entries.specs.Book.{size, GoodEntry, GoodAfter, IsBook}
use Rattle.entries.specs.Map.{lookup, removed, without}
use Rattle.entries.specs.Outcome.{finds, find_of_entry, find_of}
use Rattle.entries.proofs.Agree.{Sound, sound, complete}
use Rattle.entries.proofs.Lookups.{lookup_word}
use Rattle.entries.proofs.Bytes.{Bytes}
use Rattle.ranking.specs.Rank.{Among}
use Rattle.ranking.specs.Whole.{OrderRight}
use Rattle.ranking.proofs.Whole.{order_only}
use Rattle.book_word.specs.declared.RecordTold.{RecordTold}
use Rattle.book_word.proofs.Told.{word_once}
use Rattle.book_word.specs.WordAt.{record_told, FewTold, entry_starting, marked_count, entry_told, word_of_entry, word_of_record, output_of_entry, output_of_record, WordRight}
use Rattle.wordbook.specs.Calls.{CallAnswers, word_refused, word_stored, RemovePromise}
use Rattle.wordbook.proofs.Laws.{remove_makes_book}

-- what is told is one, with one output, by the first clause of the promise alone
pub word_told_once : (bytes : List ℕ) (start : ℕ) (before after final : List ℕ) (first second : Result (Perhaps RecordTold) Refusal)
    → WordRight bytes start before after (outcome_by (tells_if_there record_told) first)
    → WordRight bytes start before final (outcome_by (tells_if_there record_told) second)
    → (outcome_by (tells_if_there record_told) first ≡ outcome_by (tells_if_there record_told) second) × (after ≡ final)
word_told_once bytes start before after final first second p q = (p.answer ∙ sym q.answer, p.output ∙ sym q.output)

-- and so one record only, since no word has as many values as live adds
pub record_determined : (bytes : List ℕ) (start : ℕ) (before after final : List ℕ) (first second : Result (Perhaps RecordTold) Refusal)
    → FewTold first → FewTold second → WordRight bytes start before after (outcome_by (tells_if_there record_told) first)
    → WordRight bytes start before final (outcome_by (tells_if_there record_told) second) → first ≡ second
record_determined bytes start before after final first second few small p q = word_once first second few small (p.answer ∙ sym q.answer)

-- one answer only, with one output, by the whole promise
pub word_determined : (bytes : List ℕ) (start : ℕ) (before after final : List ℕ) (first second : Result (Perhaps RecordTold) Refusal)
    → WordRight bytes start before after (outcome_by (tells_if_there record_told) first) → FewTold first
    → WordRight bytes start before final (outcome_by (tells_if_there record_told) second) → FewTold second → (first ≡ second) × (after ≡ final)
word_determined bytes start before after final first second p few q small =
    (record_determined bytes start before after final first second few small p q, p.output ∙ sym q.output)

-- what is told of an entry says whether it is live: no word has as many values as live adds
pub told_once : (e f : Entry) → GoodEntry e → GoodEntry f → entry_told e ≡ entry_told f
    → (e.stock ≡ f.stock) × (e.live ≡ f.live) × (length e.word ≡ length f.word)
told_once e f g h told =
    let stock : e.stock ≡ f.stock = cc in
    let marked : marked_count e.live (length e.word) ≡ marked_count f.live (length f.word) = cc in
    let same = counts e.live f.live _ _ g.readable.admissible.short h.readable.admissible.short marked in
    (stock, same.0, same.1)
  where
    counts : (live other : Bool) (n m : ℕ) → n ≤ limit → m ≤ limit → marked_count live n ≡ marked_count other m → (live ≡ other) × (n ≡ m)
    counts true true n m few less e = (refl, omega arith)
    counts true false n m few less e = absurd (omega arith)
    counts false true n m few less e = absurd (omega arith)
    counts false false n m few less e = (refl, e)

-- what is told where there is room: all of an entry, and its word at the front of the output
abbrev pub TellsEntry : Entry → List ℕ → List ℕ → Outcome → Type 0
TellsEntry entry before after answer = (answer ≡ entry_told entry) × (after ≡ entry.word ++ drop (length entry.word) before)

-- no entry starts before the place from which they are written on
starts_behind : (at : ℕ) (seen list : List Entry) → GoodAfter at seen list → (e : Entry) → Among e list → at ≤ e.start
starts_behind at seen [] g e m = absurd m
starts_behind at seen (x ∷ list) g e (inl p) = omega (arith, g.0, ap (λ (y : Entry). y.start) p)
starts_behind at seen (x ∷ list) g e (inr m) = omega (arith, starts_behind (at + size x) (seen ++ (x ∷ [])) list g.3 e m)

-- so an entry is the one that starts at its own start
starting_own : (at : ℕ) (seen list : List Entry) → GoodAfter at seen list → (e : Entry) → Among e list → entry_starting list e.start ≡ some e
unfolding entry_starting
starting_own at seen [] g e m = absurd m
starting_own at seen (x ∷ list) g e (inl p) =
    pick_true (eqb x.start e.start) _ _ (eq-eqb x.start e.start (ap (λ (y : Entry). y.start) (sym p))) ∙ ap some (sym p)
starting_own at seen (x ∷ list) g e (inr m) =
    let later = starts_behind (at + size x) (seen ++ (x ∷ [])) list g.3 e m in
    pick_false (eqb x.start e.start) _ _ (ne_eqb x.start e.start (λ q. let z : ⊥ = omega (arith, g.0) in z))
    ∙ starting_own (at + size x) (seen ++ (x ∷ [])) list g.3 e m

module _ (bytes : List ℕ) (list : List Entry) (k : IsBook bytes list) (e : Entry) (m : Among e list) (start : ℕ) (own : e.start ≡ start)
    (before after : List ℕ) (answer : Outcome) (p : WordRight bytes start before after answer) (room : length e.word ≤ length before) where
  starting : entry_starting list start ≡ some e
  starting = ap (entry_starting list) (sym own) ∙ starting_own 0 [] list k.good e m

  -- each entry of a book is told at its own start
  pub entry_told_lem : TellsEntry e before after answer
  entry_told_lem =
      let fits = le-leb (length e.word) (length before) room in (
        p.answer ∙ ap (λ (x : Entries). word_of_record x start (length before)) (complete bytes list k)
            ∙ ap (λ (o : Option Entry). word_of_entry o (length before)) starting ∙ pick_true (leb (length e.word) (length before)) _ _ fits,
        p.output ∙ ap (λ (x : Entries). output_of_record x start before) (complete bytes list k)
            ∙ ap (λ (o : Option Entry). output_of_entry o before) starting ∙ pick_true (leb (length e.word) (length before)) _ _ fits,
      )

-- the entry that a word looks up is one of the list, live, and has the word
pub found_among : (list : List Entry) (w : List ℕ) (e : Entry) → lookup list w ≡ some e → Among e list × T e.live × (e.word ≡ w)
unfolding lookup pick
found_among list w e q = let held = lookup_word list w e q in (among list q, held.0, held.1)
  where
    among : (es : List Entry) → lookup es w ≡ some e → Among e es
    among [] = λ r. absurd (none-ne-some e r)
    among (x ∷ es) = go (x.live && same_list x.word w) (among es)
      where
        go : (t : Bool) → (lookup es w ≡ some e → Among e es) → pick t (some x) (lookup es w) ≡ some e → Among e (x ∷ es)
        go true f r = let same : x ≡ e = cc in inl (sym same)
        go false f r = inr (f r)

-- and it is among those with the word removed, as removed
removed_among : (list : List Entry) (w : List ℕ) (e : Entry) → lookup list w ≡ some e → Among (removed e) (without list w)
unfolding lookup without pick
removed_among [] w e = λ q. absurd (none-ne-some e q)
removed_among (x ∷ list) w e = go (x.live && same_list x.word w) (removed_among list w e)
  where
    go : (t : Bool) → (lookup list w ≡ some e → Among (removed e) (without list w)) → pick t (some x) (lookup list w) ≡ some e
        → Among (removed e) (pick t (removed x) x ∷ without list w)
    go true f r = let same : x ≡ e = cc in inl (ap removed (sym same))
    go false f r = inr (f r)

-- the entry that find gives
pub record FoundEntry (bytes w : List ℕ) (start stock : ℕ) : Type 0 where
  pub list : List Entry
  pub is_book : IsBook bytes list
  pub entry : Entry
  pub found : lookup list w ≡ some entry
  pub start_is : entry.start ≡ start
  pub stock_is : entry.stock ≡ stock

pub found_entry : (bytes w : List ℕ) (start stock : ℕ) → Bytes bytes → finds start stock ≡ find_of (entries bytes) w → FoundEntry bytes w start stock
found_entry bytes w start stock small = go (entries bytes) (sound bytes small)
  where
    found_in : (list : List Entry) → IsBook bytes list → (o : Option Entry) → lookup list w ≡ o → finds start stock ≡ find_of_entry o
        → FoundEntry bytes w start stock
    found_in list k none l e = let z : ◌≡◌ {A = ℕ} 0 1 = cc in let y : ⊥ = omega arith in absurd y
    found_in list k (some x) l e = record { list = list; is_book = k; entry = x; found = l; start_is = cc; stock_is = cc }

    go : (x : Entries) → Sound bytes x → finds start stock ≡ find_of x w → FoundEntry bytes w start stock
    go (wrong p) s e = let z : ◌≡◌ {A = ℕ} 0 1 = cc in let y : ⊥ = omega arith in absurd y
    go (book list free) s e = found_in list s.0 (lookup list w) refl e

-- a call that gives a record was answered by the book
pub book_answered : (word : List ℕ) (answer outcome : Outcome) (start stock : ℕ) → outcome ≡ finds start stock → CallAnswers word answer outcome
    → finds start stock ≡ answer
book_answered word answer outcome start stock e (word_refused r) = let z : ◌≡◌ {A = ℕ} 0 1 = cc in let y : ⊥ = omega arith in absurd y
book_answered word answer outcome start stock e (word_stored s) = sym e

module _ (word bytes : List ℕ) (start stock : ℕ) (small : Bytes bytes)
    (c : CallAnswers word (find_of (entries bytes) (stored_form word)) (finds start stock)) where
  given : FoundEntry bytes (stored_form word) start stock
  given = found_entry bytes (stored_form word) start stock small (book_answered word _ (finds start stock) start stock refl c)

  word_is : given.entry.word ≡ stored_form word
  word_is = (found_among given.list (stored_form word) given.entry given.found).2

  -- the record that find gives is live, and has the stored form of the word and the stock number that find gives
  pub word_of_found : (before after : List ℕ) (answer : Outcome) → WordRight bytes start before after answer → length (stored_form word) ≤ length before
      → (answer ≡ accepts_both stock (marked_count true (length (stored_form word)))) × (after ≡ stored_form word ++ drop (length (stored_form word)) before)
  word_of_found before after answer p room =
      let g = given in
      let a = found_among g.list (stored_form word) g.entry g.found in
      let t = entry_told_lem bytes g.list g.is_book g.entry a.0 start g.start_is before after answer p (omega (arith, ap length word_is)) in (
        t.0 ∙ (λ i. accepts_both (g.stock_is i) (marked_count (is_true g.entry.live a.1 i) (length (word_is i)))),
        t.1 ∙ ap (λ (w : List ℕ). w ++ drop (length w) before) word_is,
      )

  -- and after remove it has the same word and the same stock number, and is removed
  pub word_after_remove : (final : List ℕ) → RemovePromise word bytes final (accepts start)
      → (before after : List ℕ) (answer : Outcome) → WordRight final start before after answer → length (stored_form word) ≤ length before
      → (answer ≡ accepts_both stock (marked_count false (length (stored_form word)))) × (after ≡ stored_form word ++ drop (length (stored_form word)) before)
  word_after_remove final r before after answer p room =
      let g = given in
      let made = remove_makes_book word bytes final start small r in
      let e : book made.list made.free ≡ book g.list _ = sym made.was ∙ complete bytes g.list g.is_book in
      let same : made.list ≡ g.list = cc in
      let k : IsBook final (without g.list (stored_form word)) = subst (λ (l : List Entry). IsBook final (without l (stored_form word))) same made.is_book in
      let m = removed_among g.list (stored_form word) g.entry g.found in
      let t = entry_told_lem final _ k (removed g.entry) m start g.start_is before after answer p (omega (arith, ap length word_is)) in (
        t.0 ∙ (λ i. accepts_both (g.stock_is i) (marked_count false (length (word_is i)))),
        t.1 ∙ ap (λ (w : List ℕ). w ++ drop (length w) before) word_is,
      )

-- with the order of a book, each live entry is told, from the start at its place of the list
module _ (bytes : List ℕ) (list : List Entry) (k : IsBook bytes list) (lent starts : List ℕ) (count : ℕ) (o : OrderRight bytes lent starts (accepts count)) where
  pub order_told : (place : ℕ) → place < count → (e : Entry) × Among e list × T e.live
      × ((before after : List ℕ) (answer : Outcome) → WordRight bytes (get_or starts place 0) before after answer → length e.word ≤ length before
      → TellsEntry e before after answer)
  order_told place h =
      let r = order_only bytes list k lent starts count o place h in (
        r.0,
        r.1,
        r.2,
        λ before after answer p room. entry_told_lem bytes list k r.0 r.1 (get_or starts place 0) r.3 before after answer p room,
      )
