-- The numbers of every right answer on a book fit their bits: a place is at most the book's limit, and a record's start lies before its end.
-- Assumes nothing.
use mathlib.Core.Path.{◌≡◌, refl, sym, ap, subst}
use mathlib.Core.Logic.{inl, inr}
use mathlib.Core.Bool.{Bool, true, false, ◌&&◌}
use mathlib.Core.List.{List, [], ◌∷◌, ◌++◌}
use mathlib.Core.Option.{Option, none, some}
use Prim.Native.Nat.{ℕ, zero, suc, ◌+◌, ◌≤◌, ◌<◌}
use native.Mathlib.Decide.{dec_lt}
use native.Mathlib.Omega.{arith}
use borrow.Author.Tests.{leb-true}
use lib.Dec.{T, eqb, leb}
use lib.ListN.{length, get_or, drop, length-append, length-drop}
use Rattle.letters.specs.Choice.{pick}
use Rattle.letters.proofs.Tests.{is_true}
use Rattle.formula.proofs.Lists.{same_list, both_left}
use Rattle.formula.specs.Limits.{limit}
use Rattle.refusals.specs.Outcome.{Outcome, accepts_both, refuses}
use Rattle.storage.specs.Stored.{stored_form}
use Rattle.entries.specs.Limits.{book_limit, head_size}
use Rattle.entries.specs.Entries.{Entry, entry_at, is_framed, may_follow, Entries, book, wrong, zero_tail, entries_from, entries, entries_from_within, entries_within}
use Rattle.entries.specs.Book.{zeros, record_bytes, records, size, end_of, GoodEntry, GoodAfter, IsBook}
use Rattle.entries.specs.Map.{lookup, counted, live_count}
use Rattle.entries.specs.Tidy.{live_length}
use Rattle.entries.specs.Outcome.{check_of, find_of_entry, find_of, remove_of_entry, remove_of, puts, tidies_and_puts, placing, add_of_entry, add_of}
use Rattle.entries.proofs.Records.{framed_true, length_record, end_length}
use Rattle.entries.proofs.Agree.{Sound, sound}
use Rattle.entries.proofs.Tidied.{live_before_lem}
use Rattle.tidying.specs.Tidy.{tidy_of, TidyRight}
use Rattle.entries.proofs.Bytes.{Bytes}
use Rattle.book_keys.specs.Filing.{row_of}
use Rattle.book_fitting.specs.Fitting.{fits}
use Rattle.sorting.proofs.InOrder.{passing_few}
use Rattle.ranking.specs.Rank.{starts_in_order, rank_of, Among}
use Rattle.ranking.specs.Whole.{NotABook, not_a_book, BookOf, OrderRight}
use Rattle.ranking.proofs.InOrder.{starts_count}
use Rattle.ranking.proofs.Laws.{rank_below, rank_too_high, rank_of_no_book}
use Rattle.book_word.specs.WordAt.{entry_starting, marked_count, word_of_entry, word_of_record, WordRight}
use Rattle.wordbook.specs.Calls.{WordRefused, empty, refused, CallAnswers, word_refused, word_stored, AddAnswers, RemovePromise}
use Rattle.wordbook.specs.Prefix.{QueryRefused, query_refused, no_book, Queries, starts_found, PrefixPromise}
use Rattle.packing.specs.Packing.{Fits}
use Rattle.packing.specs.Answers.{outcome_numbers, FindAnswers}
use Rattle.packing.proofs.WordFits.{small_fits, store_refused_small, writes_fits}

-- the first wrong place is at most n
abbrev Bounded : ℕ → Entries → Type 0
Bounded n (book list free) = Unit {0}
Bounded n (wrong place) = place ≤ n

bounded_pick : (n : ℕ) (t : Bool) (x y : Entries) → (T t → Bounded n x) → Bounded n y → Bounded n (pick t x y)
unfolding pick
bounded_pick n true x y f g = f tt
bounded_pick n false x y f g = g

bounded_more : (n m : ℕ) (x : Entries) → n ≤ m → Bounded n x → Bounded m x
bounded_more n m (book list free) h b = tt
bounded_more n m (wrong place) h b = omega arith

bounded_tail : (n : ℕ) (bytes : List ℕ) (place : ℕ) (given : Entries) → place + length bytes ≤ n → Bounded n given
    → Bounded n (zero_tail bytes place given)
unfolding zero_tail
bounded_tail n [] place given h g = g
bounded_tail n (byte ∷ bytes) place given h g =
    bounded_pick n (eqb byte 0) _ _ (λ _. bounded_tail n bytes (suc place) given (omega arith) g) (omega arith)

bounded_from : (fuel : ℕ) (bytes : List ℕ) (at : ℕ) (seen : List Entry) → at ≤ length bytes → Bounded (length bytes) (entries_from fuel bytes at seen)
unfolding entries_from_within
bounded_from zero bytes at seen h = h
bounded_from (suc fuel) bytes at seen h =
    bounded_pick (length bytes) (eqb (get_or bytes at 0) 0) _ _
    (λ _. bounded_tail (length bytes) (drop at bytes) at (book seen at) (omega (arith, length-drop at bytes)) tt)
    (bounded_pick (length bytes) (is_framed bytes at && may_follow seen (entry_at bytes at)) _ _
    (λ t. bounded_from fuel bytes (at + head_size + get_or bytes (at + 2) 0) (seen ++ (entry_at bytes at ∷ []))
    (framed_true bytes at (both_left (is_framed bytes at) _ t)).room)
    h)

pub bounded : (bytes : List ℕ) → Bounded book_limit (entries bytes)
unfolding entries_within
bounded bytes =
    bounded_pick book_limit (leb (length bytes) book_limit) _ _
    (λ t. bounded_more (length bytes) book_limit (entries_from (suc (length bytes)) bytes 0 [])
    (leb-true (length bytes) book_limit (is_true (leb (length bytes) book_limit) t))
    (bounded_from (suc (length bytes)) bytes 0 [] (omega arith)))
    (omega arith)

-- the records of a book end within it
book_end : (bytes : List ℕ) (es : List Entry) → IsBook bytes es → end_of 0 es ≤ book_limit
book_end bytes es is =
    let s = is.short in
    omega (arith, end_length 0 es, ap length is.written, length-append (records es) (zeros is.pad))

-- a record starts before the end, and its stock number has four bytes
record Placed (entry : Entry) (end : ℕ) : Type 0 where
  before : entry.start ≤ end
  stock : entry.stock < 0x100000000

looked : (at : ℕ) (seen es : List Entry) (word : List ℕ) (entry : Entry) → GoodAfter at seen es → lookup es word ≡ some entry
    → Placed entry (end_of at es)
unfolding lookup pick
looked at seen [] word entry g e = let z : ◌≡◌ {A = ℕ} 0 1 = cc in let y : ⊥ = omega arith in absurd y
looked at seen (x ∷ es) word entry g e = go (x.live && same_list x.word word) (looked (at + size x) (seen ++ (x ∷ [])) es word entry g.3) e
  where
    go : (t : Bool) → (lookup es word ≡ some entry → Placed entry (end_of (at + size x) es)) → pick t (some x) (lookup es word) ≡ some entry
        → Placed entry (end_of (at + size x) es)
    go true later f =
        let same : x ≡ entry = cc in
        subst (λ (y : Entry). Placed y (end_of (at + size x) es)) same
        (record { before = omega (arith, g.0, end_length (at + size x) es); stock = g.1.stock })
    go false later f = later f

-- the entry that starts at a place can be held
started : (at : ℕ) (seen es : List Entry) (start : ℕ) (entry : Entry) → GoodAfter at seen es → entry_starting es start ≡ some entry → GoodEntry entry
unfolding entry_starting pick
started at seen [] start entry g e = let z : ◌≡◌ {A = ℕ} 0 1 = cc in let y : ⊥ = omega arith in absurd y
started at seen (x ∷ es) start entry g e = go (eqb x.start start) (started (at + size x) (seen ++ (x ∷ [])) es start entry g.3) e
  where
    go : (t : Bool) → (entry_starting es start ≡ some entry → GoodEntry entry) → pick t (some x) (entry_starting es start) ≡ some entry → GoodEntry entry
    go true later f = let same : x ≡ entry = cc in subst GoodEntry same g.1
    go false later f = later f

-- the same for an entry of the list
among_placed : (at : ℕ) (seen es : List Entry) (entry : Entry) → GoodAfter at seen es → Among entry es → Placed entry (end_of at es)
among_placed at seen [] entry g m = absurd m
among_placed at seen (x ∷ es) entry g (inl e) =
    subst (λ (y : Entry). Placed y (end_of (at + size x) es)) (sym e)
    (record { before = omega (arith, g.0, end_length (at + size x) es); stock = g.1.stock })
among_placed at seen (x ∷ es) entry g (inr m) = among_placed (at + size x) (seen ++ (x ∷ [])) es entry g.3 m

live_few : (live : Bool) (n m : ℕ) → n ≤ m → counted live n ≤ suc m
live_few true n m h = omega arith
live_few false n m h = omega arith

live_near : (es : List Entry) → live_count es ≤ length (records es)
live_near [] = omega arith
live_near (x ∷ es) =
    let few = live_few x.live (live_count es) (length (records es)) (live_near es) in
    omega (arith, length-append (record_bytes x) (records es), length_record x)

-- a book has no more live records than bytes
live_within : (bytes : List ℕ) (es : List Entry) → IsBook bytes es → live_count es ≤ book_limit
live_within bytes es is = omega (arith, live_near es, book_end bytes es is, end_length 0 es)

module _ (bytes word : List ℕ) where
  check_by_lem : (e : Entries) → Bounded book_limit e → Sound bytes e → Fits (outcome_numbers (check_of e))
  check_by_lem (book es free) b s =
      record { tag = omega arith; second = omega arith; first = omega (arith, live_within bytes es s.0) }
  check_by_lem (wrong place) b s = record { tag = omega arith; second = omega arith; first = omega arith }

  wrong_fits : (place : ℕ) → place ≤ book_limit → Fits (outcome_numbers (refuses 11 place))
  wrong_fits place h = record { tag = omega arith; second = omega arith; first = omega arith }

  find_entry : (es : List Entry) → IsBook bytes es → (o : Option Entry) → lookup es word ≡ o → Fits (outcome_numbers (find_of_entry o))
  find_entry es is none e = record { tag = omega arith; second = omega arith; first = omega arith }
  find_entry es is (some entry) e =
      let p = looked 0 [] es word entry is.good e in
      let h = p.before in
      record { tag = omega arith; second = omega (arith, book_end bytes es is); first = p.stock }

  find_by_lem : (e : Entries) → Bounded book_limit e → Sound bytes e → Fits (outcome_numbers (find_of e word))
  find_by_lem (book es free) b s = find_entry es s.0 (lookup es word) refl
  find_by_lem (wrong place) b s = wrong_fits place b

  remove_entry : (es : List Entry) → IsBook bytes es → (o : Option Entry) → lookup es word ≡ o → Fits (outcome_numbers (remove_of_entry o))
  remove_entry es is none e = record { tag = omega arith; second = omega arith; first = omega arith }
  remove_entry es is (some entry) e =
      let h = (looked 0 [] es word entry is.good e).before in
      record { tag = omega arith; second = omega arith; first = omega (arith, book_end bytes es is) }

  remove_by_lem : (e : Entries) → Bounded book_limit e → Sound bytes e → Fits (outcome_numbers (remove_of e word))
  remove_by_lem (book es free) b s = remove_entry es s.0 (lookup es word) refl
  remove_by_lem (wrong place) b s = wrong_fits place b

  pick_fits : (t : Bool) (x y : Outcome) → Fits (outcome_numbers x) → Fits (outcome_numbers y) → Fits (outcome_numbers (pick t x y))
  unfolding pick
  pick_fits true x y f g = f
  pick_fits false x y f g = g

  -- a record is placed within the buffer, or the live length is told
  placing_fits : (es : List Entry) (free room size : ℕ) → IsBook bytes es → free ≡ end_of 0 es → Fits (outcome_numbers (placing es free room size))
  placing_fits es free room size is end =
      let h = book_end bytes es is in
      let l = live_before_lem es in
      pick_fits _ _ (refuses 14 (live_length es))
      (pick_fits _ (puts free) (tidies_and_puts (live_length es))
      (record { tag = omega arith; second = omega arith; first = omega arith })
      (record { tag = omega arith; second = omega arith; first = omega arith }))
      (record { tag = omega arith; second = omega arith; first = omega arith })

  add_entry : (es : List Entry) (placed : Outcome) → IsBook bytes es → Fits (outcome_numbers placed) → (o : Option Entry) → lookup es word ≡ o
      → Fits (outcome_numbers (add_of_entry o placed))
  add_entry es placed is f none e = f
  add_entry es placed is f (some entry) e =
      let h = (looked 0 [] es word entry is.good e).before in
      record { tag = omega arith; second = omega arith; first = omega (arith, book_end bytes es is) }

  add_by_lem : (room : ℕ) (e : Entries) → Bounded book_limit e → Sound bytes e → Fits (outcome_numbers (add_of e room word))
  add_by_lem room (book es free) b s =
      add_entry es _ s.0 (placing_fits es free room (head_size + length word) s.0 s.1) (lookup es word) refl
  add_by_lem room (wrong place) b s = wrong_fits place b

  tidy_by : (e : Entries) → Bounded book_limit e → Sound bytes e → Fits (outcome_numbers (tidy_of e))
  tidy_by (book es free) b s =
      record { tag = omega arith; second = omega arith; first = omega (arith, live_before_lem es, book_end bytes es s.0) }
  tidy_by (wrong place) b s = wrong_fits place b

-- what is told of an entry that can be held: its stock number has four bytes, and its word is no longer than a word may be
told_fits : (room : ℕ) (entry : Entry) → GoodEntry entry → Fits (outcome_numbers (word_of_entry (some entry) room))
unfolding pick
told_fits room entry good = go (leb (length entry.word) room) entry.live
  where
    few : length entry.word ≤ limit
    few = good.readable.admissible.short

    go : (fits live : Bool)
        → Fits (outcome_numbers (pick fits (accepts_both entry.stock (marked_count live (length entry.word))) (refuses 5 (length entry.word))))
    go true true = record { tag = omega arith; second = omega (arith, few); first = good.stock }
    go true false = record { tag = omega arith; second = omega (arith, few); first = good.stock }
    go false live = record { tag = omega arith; second = omega arith; first = omega (arith, few) }

word_fits : (word : List ℕ) (number place : ℕ) → WordRefused word number place → Fits (outcome_numbers (refuses number place))
word_fits word number place (empty e) = record { tag = omega arith; second = omega arith; first = omega arith }
word_fits word number place (refused h r) = small_fits number 0 place (omega arith) (store_refused_small word number place r)

call_fits : (word : List ℕ) (right o : Outcome) → Fits (outcome_numbers right) → CallAnswers word right o → Fits (outcome_numbers o)
call_fits word right o f (word_refused r) = word_fits word _ _ r
call_fits word right o f (word_stored s) = f

module _ (bytes : List ℕ) (small : Bytes bytes) where
  pub check_fits : Fits (outcome_numbers (check_of (entries bytes)))
  check_fits = check_by_lem bytes [] (entries bytes) (bounded bytes) (sound bytes small)

  rank_by : (number : ℕ) (e : Entries) → entries bytes ≡ e → Bounded book_limit e → Sound bytes e → Fits (outcome_numbers (rank_of (entries bytes) number))
  rank_by number (book es free) e b s = go (dec_lt number (live_count es))
    where
      go : Dec (number < live_count es) → Fits (outcome_numbers (rank_of (entries bytes) number))
      go (yes h) =
          let r = rank_below bytes es s.0 number h in
          let p = among_placed 0 [] es r.entry s.0.good r.among in
          let q = p.before in
          subst (λ (o : Outcome). Fits (outcome_numbers o)) (sym r.found)
          (record { tag = omega arith; second = omega (arith, book_end bytes es s.0); first = p.stock })
      go (no h) =
          subst (λ (o : Outcome). Fits (outcome_numbers o)) (sym (rank_too_high bytes es s.0 number (omega arith)))
          (record { tag = omega arith; second = omega arith; first = omega (arith, live_within bytes es s.0) })
  rank_by number (wrong place) e b s =
      subst (λ (o : Outcome). Fits (outcome_numbers o)) (sym (rank_of_no_book bytes place number e)) (wrong_fits bytes [] place b)

  pub rank_fits : (number : ℕ) → Fits (outcome_numbers (rank_of (entries bytes) number))
  rank_fits number = rank_by number (entries bytes) refl (bounded bytes) (sound bytes small)

  not_a_book_fits : (number place : ℕ) → NotABook bytes number place → Fits (outcome_numbers (refuses number place))
  not_a_book_fits number place (not_a_book e) = wrong_fits bytes [] place (subst (Bounded book_limit) e (bounded bytes))

  pub order_fits : (before after : List ℕ) (o : Outcome) → OrderRight bytes before after o → Fits (outcome_numbers o)
  order_fits =
      writes_fits (NotABook bytes) (BookOf bytes) starts_in_order (λ list. length (starts_in_order list)) not_a_book_fits
      (λ list h.
      let is = (subst (Sound bytes) h.is (sound bytes small)).0 in
      let few : length (starts_in_order list) < 0x100000000 = omega (arith, starts_count bytes list is, live_within bytes list is) in
      (few, few))

  query_fits : (query : List ℕ) (number place : ℕ) → QueryRefused bytes query number place → Fits (outcome_numbers (refuses number place))
  query_fits query number place (query_refused r) = word_fits query number place r
  query_fits query number place (no_book s r) = not_a_book_fits number place r

  pub prefix_fits : (query before after : List ℕ) (o : Outcome) → PrefixPromise bytes query before after o → Fits (outcome_numbers o)
  prefix_fits query =
      writes_fits (QueryRefused bytes query) (Queries bytes query) (starts_found query) (λ list. length (starts_found query list)) (query_fits query)
      (λ list h.
      let is = (subst (Sound bytes) h.is_book.is (sound bytes small)).0 in
      let few : length (starts_found query list) < 0x100000000 = omega (arith, passing_few bytes list is (fits (row_of (stored_form query))), live_within bytes list is) in
      (few, few))

  record_by : (start room : ℕ) (e : Entries) → Bounded book_limit e → Sound bytes e → Fits (outcome_numbers (word_of_record e start room))
  record_by start room (book es free) b s = go (entry_starting es start) refl
    where
      go : (o : Option Entry) → entry_starting es start ≡ o → Fits (outcome_numbers (word_of_entry o room))
      go none e = record { tag = omega arith; second = omega arith; first = omega arith }
      go (some entry) e = told_fits room entry (started 0 [] es start entry s.0.good e)
  record_by start room (wrong place) b s = wrong_fits bytes [] place b

  pub record_word_fits : (start : ℕ) (before after : List ℕ) (answer : Outcome) → WordRight bytes start before after answer
      → Fits (outcome_numbers answer)
  record_word_fits start before after answer right =
      subst (λ (a : Outcome). Fits (outcome_numbers a)) (sym right.answer)
      (record_by start (length before) (entries bytes) (bounded bytes) (sound bytes small))

  pub find_fits : (word : List ℕ) (o : Outcome) → FindAnswers bytes word o → Fits (outcome_numbers o)
  find_fits word o c = call_fits word _ o (find_by_lem bytes (stored_form word) (entries bytes) (bounded bytes) (sound bytes small)) c

  -- the answer of add, to itself and to its preview
  pub add_fits : (word : List ℕ) (stock : ℕ) (o : Outcome) → AddAnswers word stock bytes o → Fits (outcome_numbers o)
  add_fits word stock o c = call_fits word _ o (add_by_lem bytes (stored_form word) (length bytes) (entries bytes) (bounded bytes) (sound bytes small)) c

  pub tidy_fits : (after : List ℕ) (o : Outcome) → TidyRight bytes after o → Fits (outcome_numbers o)
  tidy_fits after o t =
      subst (λ (x : Outcome). Fits (outcome_numbers x)) (sym t.answer) (tidy_by bytes [] (entries bytes) (bounded bytes) (sound bytes small))

  pub remove_fits : (word after : List ℕ) (o : Outcome) → RemovePromise word bytes after o → Fits (outcome_numbers o)
  remove_fits word after o p =
      call_fits word _ o (remove_by_lem bytes (stored_form word) (entries bytes) (bounded bytes) (sound bytes small)) p.answers
