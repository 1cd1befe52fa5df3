-- Tidying, by the promises of the calls alone: it is refused with 11 alone and then changes nothing; its outcome is a book; tidying twice is tidying once; a
-- book without removed records keeps every byte; and each call answers as before, but that a record starts where it then does. Assumes nothing.
use mathlib.Core.Path.{◌≡◌, refl, sym, ap, subst, ◌∙◌}
use mathlib.Core.List.{List, ◌++◌, map}
use Prim.Native.Nat.{ℕ}
use native.Mathlib.Omega.{arith}
use lib.ListN.{length, take, drop, length-map}
use lib.Seq.{take_at, drop_at}
use Rattle.refusals.specs.Outcome.{Outcome, accepts, refuses}
use Rattle.refusals.specs.Output.{Writes, refused, put, too_short}
use Rattle.storage.specs.Stored.{stored_form}
use Rattle.entries.specs.Entries.{Entry, Entries, book, wrong, entries}
use Rattle.entries.specs.Book.{IsBook}
use Rattle.entries.specs.Tidy.{live_length, entries_tidied, bytes_tidied, tidied, start_tidied, start_after}
use Rattle.entries.specs.Outcome.{start_moved, starts_moved, finds, check_of, find_of, remove_of}
use Rattle.entries.proofs.Bytes.{Bytes}
use Rattle.entries.proofs.Agree.{Sound, sound}
use Rattle.entries.proofs.Ranked.{AllLive}
use Rattle.entries.proofs.Tidied.{live_tidied, tidied_entries, bytes_tidied_book, tidied_full, tidied_twice}
use Rattle.entries.proofs.AnswersTidied.{check_tidied, find_tidied, remove_tidied}
use Rattle.tidying.specs.Tidy.{tidy_of, TidyRight}
use Rattle.book_keys.specs.Filing.{row_of}
use Rattle.ranking.specs.Rank.{starts_in_order, rank_of}
use Rattle.ranking.specs.Whole.{NotABook, not_a_book, BookOf, OrderRight}
use Rattle.ranking.proofs.Tidied.{rank_tidied, starts_in_order_tidied}
use Rattle.prefix_search.proofs.Tidied.{fitting_tidied}
use Rattle.wordbook.specs.Calls.{CallAnswers, word_refused, word_stored}
use Rattle.wordbook.specs.Prefix.{QueryRefused, query_refused, no_book, Queries, starts_found, PrefixPromise}
use Rattle.wordbook.proofs.Determined.{call_alike}

-- the entries before and after tidying
pub record TidiedBook (before after : List ℕ) (live : ℕ) : Type 0 where
  pub list : List Entry
  pub free : ℕ
  pub was : entries before ≡ book list free
  pub was_book : IsBook before list
  pub live_is : live ≡ live_length list
  pub is_book : IsBook after (tidied list)
  pub is : entries after ≡ book (tidied list) live

module _ (before after : List ℕ) (small : Bytes before) where
  -- "tidying itself is refused with 11 alone", and then nothing has changed
  pub tidy_refused : (number place : ℕ) → TidyRight before after (refuses number place) → (number ≡ 11) × (entries before ≡ wrong place) × (after ≡ before)
  tidy_refused number place t = go (entries before) refl t.answer
    where
      go : (x : Entries) → entries before ≡ x → refuses number place ≡ tidy_of x → (number ≡ 11) × (entries before ≡ wrong place) × (after ≡ before)
      go (book list free) e a = let z : ◌≡◌ {A = ℕ} 0 1 = cc in let y : ⊥ = omega arith in absurd y
      go (wrong p) e a =
          let number_is : number ≡ 11 = cc in
          let place_is : p ≡ place = cc in
          (number_is, e ∙ ap wrong place_is, t.bytes ∙ ap (λ (x : Entries). entries_tidied x before) e)

  -- the outcome is a book, of the live entries with the starts that they then have
  pub tidy_makes_book : (live : ℕ) → TidyRight before after (accepts live) → TidiedBook before after live
  tidy_makes_book live t = go (entries before) refl (sound before small) t.answer
    where
      go : (x : Entries) → entries before ≡ x → Sound before x → accepts live ≡ tidy_of x → TidiedBook before after live
      go (book list free) e s a =
          let live_is : live ≡ live_length list = cc in
          record {
            list = list;
            free = free;
            was = e;
            was_book = s.0;
            live_is = live_is;
            is_book = subst (λ (b : List ℕ). IsBook b (tidied list)) (sym t.bytes) (bytes_tidied_book before list s.0);
            is = ap entries t.bytes ∙ tidied_entries before list s.0 ∙ ap (book (tidied list)) (sym live_is);
          }
      go (wrong p) e s a = let z : ◌≡◌ {A = ℕ} 0 1 = cc in let y : ⊥ = omega arith in absurd y

  -- "Tidying a book without removed records changes no byte"
  pub tidy_keeps : (outcome : Outcome) → TidyRight before after outcome → (list : List Entry) → IsBook before list → AllLive list → after ≡ before
  tidy_keeps outcome t list k a = t.bytes ∙ tidied_full before list k a

  -- "Tidying twice is the same as tidying once"
  pub tidy_twice : (outcome : Outcome) → TidyRight before after outcome → (final : List ℕ) (again : Outcome) → TidyRight after final again → final ≡ after
  tidy_twice outcome t final again u = u.bytes ∙ ap bytes_tidied t.bytes ∙ tidied_twice before small ∙ sym t.bytes

  -- and gives the same live length, or the same refusal
  pub tidy_answers_twice : (outcome : Outcome) → TidyRight before after outcome → (final : List ℕ) (again : Outcome) → TidyRight after final again → again ≡ outcome
  tidy_answers_twice outcome t final again u = u.answer ∙ go (entries before) refl (sound before small) ∙ sym t.answer
    where
      go : (x : Entries) → entries before ≡ x → Sound before x → tidy_of (entries after) ≡ tidy_of (entries before)
      go (book list free) e s =
          ap tidy_of (ap entries t.bytes ∙ tidied_entries before list s.0) ∙ ap accepts (live_tidied before list s.0) ∙ sym (ap tidy_of e)
      go (wrong p) e s = ap (λ (b : List ℕ). tidy_of (entries b)) (t.bytes ∙ ap (λ (x : Entries). entries_tidied x before) e)

  module _ (outcome : Outcome) (t : TidyRight before after outcome) where
    abbrev move : ℕ → ℕ
    move = start_after (entries before)

    pub check_after_tidy : check_of (entries after) ≡ check_of (entries before)
    check_after_tidy = ap (λ (b : List ℕ). check_of (entries b)) t.bytes ∙ check_tidied before small

    pub find_after_tidy : (word : List ℕ) (answer : Outcome) → CallAnswers word (find_of (entries before) (stored_form word)) answer
        → CallAnswers word (find_of (entries after) (stored_form word)) (start_moved move answer)
    find_after_tidy word answer (word_refused r) = word_refused r
    find_after_tidy word answer (word_stored s) =
        subst (CallAnswers word (find_of (entries after) (stored_form word)))
        (ap (λ (b : List ℕ). find_of (entries b) (stored_form word)) t.bytes ∙ find_tidied before small (stored_form word)) (word_stored s)

    pub remove_after_tidy : (word : List ℕ) (answer : Outcome) → CallAnswers word (remove_of (entries before) (stored_form word)) answer
        → CallAnswers word (remove_of (entries after) (stored_form word)) (start_moved move answer)
    remove_after_tidy word answer (word_refused r) = word_refused r
    remove_after_tidy word answer (word_stored s) =
        subst (CallAnswers word (remove_of (entries after) (stored_form word)))
        (ap (λ (b : List ℕ). remove_of (entries b) (stored_form word)) t.bytes ∙ remove_tidied before small (stored_form word)) (word_stored s)

    pub rank_after_tidy : (r : ℕ) → rank_of (entries after) r ≡ start_moved move (rank_of (entries before) r)
    rank_after_tidy r = ap (λ (b : List ℕ). rank_of (entries b) r) t.bytes ∙ rank_tidied before small r

    -- "Each live word has the same stock number afterwards"
    pub stock_after_tidy : (word : List ℕ) (start stock : ℕ) → CallAnswers word (find_of (entries before) (stored_form word)) (finds start stock)
        → (answer : Outcome) → CallAnswers word (find_of (entries after) (stored_form word)) answer → answer ≡ finds (move start) stock
    stock_after_tidy word start stock c answer d = call_alike word _ answer _ d (find_after_tidy word (finds start stock) c)

    -- a buffer that is no book is none afterwards
    still_no_book : (number place : ℕ) → NotABook before number place → NotABook after number place
    still_no_book number place (not_a_book e) =
        not_a_book (ap entries (t.bytes ∙ ap (λ (x : Entries). entries_tidied x before) e) ∙ e)

    still_book : (list : List Entry) → BookOf before list → IsBook before list × BookOf after (tidied list)
    still_book list b =
        let s : Sound before (book list b.free) = subst (Sound before) b.is (sound before small) in
        (s.0, record { free = _; is = ap entries t.bytes ∙ tidied_entries before list s.0 })

    -- a list of starts is that of before, each start where its record then begins
    module _ (Refuses Refuses' : ℕ → ℕ → Type 0) (Stands Stands' : List Entry → Type 0) (values : List Entry → List ℕ)
        (refuses_still : (number place : ℕ) → Refuses number place → Refuses' number place)
        (stands_still : (list : List Entry) → Stands list → BookOf before list × Stands' (tidied list))
        (moved : (list : List Entry) → IsBook before list → values (tidied list) ≡ map (start_tidied list) (values list)) where
      values_long : (list : List Entry) → values (tidied list) ≡ map (start_tidied list) (values list) → length (values (tidied list)) ≡ length (values list)
      values_long list e = ap length e ∙ length-map (values list) (start_tidied list)

      pub starts_after_tidy : (starts found : List ℕ) (answer : Outcome) → Writes Refuses Stands values (λ list. length (values list)) starts found answer
          → Writes Refuses' Stands' values (λ list. length (values list)) starts (starts_moved move answer found) answer
      starts_after_tidy starts found answer (refused r e) = refused (refuses_still _ _ r) e
      starts_after_tidy starts found answer (put {thing = list} s h e) =
          let b = stands_still list s in
          let n = length (values list) in
          let is = moved list (still_book list b.0).0 in
          let long = values_long list is in
          let front : take n found ≡ values list = ap (take n) e ∙ take_at (values list) (drop n starts) n refl in
          let rest : drop n found ≡ drop n starts = ap (drop n) e ∙ drop_at (values list) (drop n starts) n refl in
          subst (λ (m : ℕ). Writes Refuses' Stands' values (λ list. length (values list)) starts (map move (take n found) ++ drop n found) (accepts m)) long
          (put b.1 (omega arith)
          ((λ i. map move (front i) ++ rest i) ∙ ap (λ (x : Entries). map (start_after x) (values list) ++ drop n starts) b.0.is
          ∙ (λ i. sym is i ++ drop (sym long i) starts)))
      starts_after_tidy starts found answer (too_short {thing = list} s h e) =
          let b = stands_still list s in
          let long = values_long list (moved list (still_book list b.0).0) in
          subst (λ (m : ℕ). Writes Refuses' Stands' values (λ list. length (values list)) starts found (refuses 5 m)) long
          (too_short b.1 (omega arith) e)

    -- the order of all live records
    pub order_after_tidy : (starts found : List ℕ) (answer : Outcome) → OrderRight before starts found answer
        → OrderRight after starts (starts_moved move answer found) answer
    order_after_tidy =
        starts_after_tidy (NotABook before) (NotABook after) (BookOf before) (BookOf after) starts_in_order still_no_book
        (λ list b. (b, (still_book list b).1)) (λ list k. starts_in_order_tidied list k.good)

    -- and the search by the first syllables
    pub prefix_after_tidy : (query starts found : List ℕ) (answer : Outcome) → PrefixPromise before query starts found answer
        → PrefixPromise after query starts (starts_moved move answer found) answer
    prefix_after_tidy query =
        starts_after_tidy (QueryRefused before query) (QueryRefused after query) (Queries before query) (Queries after query) (starts_found query) refused_still
        (λ list q. (q.is_book, record { stored = q.stored; is_book = (still_book list q.is_book).1 }))
        (λ list k. fitting_tidied (row_of (stored_form query)) list k.good)
      where
        refused_still : (number place : ℕ) → QueryRefused before query number place → QueryRefused after query number place
        refused_still number place (query_refused r) = query_refused r
        refused_still number place (no_book s r) = no_book s (still_no_book number place r)
