-- The search by the first syllables, by its promise alone: what a query that goes on to the book is answered there is its answer; only one answer is
-- right; exactly the live entries that fit stand in the list, each once, rising in word order; a live word finds itself, what a query finds its first
-- syllables find too, and a plain final finds every other form of it. Assumes nothing.
use mathlib.Core.Path.{◌≡◌, sym, ap, subst, ◌∙◌}
use mathlib.Core.Logic.{inl, inr}
use mathlib.Core.List.{List, [], ◌∷◌, ◌++◌}
use Prim.Native.Nat.{ℕ, ◌+◌, ◌<◌}
use native.Mathlib.Omega.{arith}
use lib.Dec.{T}
use lib.ListN.{length, get_or, drop, length-map, get_or-append}
use Rattle.letters.specs.Marks.{MedialGroup, Vowel, ToneMark}
use Rattle.formula.specs.Lists.{filtered}
use Rattle.formula.specs.Syllable.{Final, syllable}
use Rattle.formula.specs.Row.{Row, Gives}
use Rattle.formula.specs.Weighing.{final_weight_of, second_final_weight_of}
use Rattle.refusals.specs.Outcome.{Outcome, accepts, refuses}
use Rattle.refusals.specs.Output.{refused, put, too_short}
use Rattle.refusals.proofs.Determined.{Same, writes_determined}
use Rattle.refusals.proofs.Accepted.{accepted_stands, accepted_count, accepted_written, accepted_rest}
use Rattle.weighing.specs.Prefix.{begins_with}
use Rattle.weighing.proofs.Prefix.{begins_with_first, begins_with_itself, begins_transitive, finals_alike}
use Rattle.storage.specs.Stored.{stored_form}
use Rattle.entries.specs.Entries.{Entry, entry_at}
use Rattle.entries.specs.Book.{size, GoodEntry, GoodAfter, IsBook}
use Rattle.entries.specs.Map.{live_ones}
use Rattle.entries.proofs.Agree.{complete}
use Rattle.book_keys.specs.Filing.{row_of, start_of}
use Rattle.book_keys.proofs.Rows.{row_is}
use Rattle.book_order.specs.Order.{before}
use Rattle.book_fitting.specs.Fitting.{fits}
use Rattle.sorting.proofs.InOrder.{passing_count}
use Rattle.ranking.specs.Rank.{Among}
use Rattle.ranking.proofs.Whole.{refused_alike, book_once, book_or_refused}
use Rattle.prefix_search.specs.Prefix.{PrefixRight}
use Rattle.prefix_search.proofs.Laws.{passing_only, passing_each, passing_rising, passing_once}
use Rattle.wordbook.specs.Calls.{WordStored}
use Rattle.wordbook.specs.Prefix.{QueryRefused, query_refused, no_book, Queries, starts_found, PrefixPromise}
use Rattle.wordbook.proofs.Stored.{stored_storable}
use Rattle.wordbook.proofs.Laws.{word_clash}
use Rattle.wordbook.proofs.Determined.{word_refused_alike}

pub queried : (bytes query starts after : List ℕ) (o : Outcome) → WordStored query → PrefixRight bytes (row_of (stored_form query)) starts after o
    → PrefixPromise bytes query starts after o
queried bytes query starts after o s (refused r e) = refused (no_book s r) e
queried bytes query starts after o s (put b h e) = put (record { stored = s; is_book = b }) h e
queried bytes query starts after o s (too_short b h e) = too_short (record { stored = s; is_book = b }) h e

module _ (bytes query : List ℕ) where
  query_alike : (n p m q : ℕ) → QueryRefused bytes query n p → QueryRefused bytes query m q → refuses n p ≡ refuses m q
  query_alike n p m q (query_refused r) (query_refused s) = word_refused_alike query n p m q r s
  query_alike n p m q (query_refused r) (no_book t s) = absurd (word_clash query n p r t)
  query_alike n p m q (no_book t r) (query_refused s) = absurd (word_clash query m q s t)
  query_alike n p m q (no_book t r) (no_book u s) = refused_alike bytes n p m q r s

  query_or_refused : (list : List Entry) (n p : ℕ) → Queries bytes query list → QueryRefused bytes query n p → ⊥
  query_or_refused list n p h (query_refused r) = word_clash query n p r h.stored
  query_or_refused list n p h (no_book t r) = book_or_refused bytes list n p h.is_book r

  -- one answer only, with one list
  pub prefix_determined : (starts after final : List ℕ) (first second : Outcome) → PrefixPromise bytes query starts after first
      → PrefixPromise bytes query starts final second → Same first second after final
  prefix_determined starts after final first second p q =
      writes_determined (QueryRefused bytes query) (Queries bytes query) (starts_found query) (λ list. length (starts_found query list)) query_alike
      (λ list other h k. book_once bytes list other h.is_book k.is_book) query_or_refused starts after final first second p q

-- where the start of an entry stands in a list of so many
abbrev pub StandsIn : Entry → List ℕ → ℕ → Type 0
StandsIn entry after count = (r : ℕ) × (r < count) × (get_or after r 0 ≡ entry.start)

module _ (bytes : List ℕ) (list : List Entry) (k : IsBook bytes list) (query starts after : List ℕ) (count : ℕ)
    (p : PrefixPromise bytes query starts after (accepts count)) where
  abbrev row : Row
  row = row_of (stored_form query)

  same : (other : List Entry) → Queries bytes query other → other ≡ list
  same other h = book_once bytes other list h.is_book (record { free = _; is = complete bytes list k })

  -- a query that is answered is stored
  pub query_stored : WordStored query
  query_stored = (accepted_stands (QueryRefused bytes query) (Queries bytes query) (starts_found query) starts after count p list same).stored

  counted : count ≡ length (starts_found query list)
  counted = accepted_count (QueryRefused bytes query) (Queries bytes query) (starts_found query) starts after count p list same

  at_front : (r : ℕ) → r < count → get_or after r 0 ≡ get_or (starts_found query list) r 0
  at_front r h =
      ap (λ (l : List ℕ). get_or l r 0) (accepted_written (QueryRefused bytes query) (Queries bytes query) (starts_found query) starts after count p list same)
      ∙ get_or-append (starts_found query list) (drop count starts) 0 r (omega (arith, counted))

  -- "The number of fitting records is given too."
  pub prefix_count : count ≡ length (filtered (fits row) (live_ones list))
  prefix_count = counted ∙ passing_count bytes list k (fits row) ∙ length-map (filtered (fits row) (live_ones list)) start_of

  -- the rest of the list is untouched
  pub prefix_rest : drop count after ≡ drop count starts
  prefix_rest = accepted_rest (QueryRefused bytes query) (Queries bytes query) (starts_found query) starts after count p list same

  -- only live entries that fit stand there
  pub prefix_only : (r : ℕ) → r < count → let e = entry_at bytes (get_or after r 0) in Among e list × T e.live × T (fits row e)
  prefix_only r h =
      subst (λ (s : ℕ). Among (entry_at bytes s) list × T (entry_at bytes s).live × T (fits row (entry_at bytes s))) (sym (at_front r h))
      (passing_only bytes list k (fits row) r (omega (arith, counted)))

  -- each of them does
  pub prefix_each : (e : Entry) → Among e list → T e.live → T (fits row e) → StandsIn e after count
  prefix_each e m live t =
      let a = passing_each bytes list k (fits row) e m live t in
      let h : a.0 < count = omega (arith, a.1, counted) in
      (a.0, h, at_front a.0 h ∙ a.2)

  -- they rise in word order,
  pub prefix_rising : (r s : ℕ) → r < s → s < count → T (before (entry_at bytes (get_or after r 0)) (entry_at bytes (get_or after s 0)))
  prefix_rising r s h j =
      let rises = passing_rising bytes list k (fits row) r s h (omega (arith, counted)) in
      subst (λ (x : ℕ). T (before (entry_at bytes x) (entry_at bytes (get_or after s 0)))) (sym (at_front r (omega arith)))
      (subst (λ (x : ℕ). T (before (entry_at bytes (get_or (starts_found query list) r 0)) (entry_at bytes x))) (sym (at_front s j)) rises)

  -- and none stands there twice
  pub prefix_once : (r s : ℕ) → r < count → s < count → get_or after r 0 ≡ get_or after s 0 → r ≡ s
  prefix_once r s h j e =
      passing_once bytes list k (fits row) r s (omega (arith, counted)) (omega (arith, counted)) (sym (at_front r h) ∙ e ∙ at_front s j)

  -- a live word finds itself
  pub prefix_itself : (e : Entry) → Among e list → T e.live → e.word ≡ stored_form query → StandsIn e after count
  prefix_itself e m live own = prefix_each e m live (subst (λ (w : List ℕ). T (begins_with (row_of w) row)) (sym own) (begins_with_itself row))

-- what a query finds is found by each query that its row begins with
pub prefix_shorter : (bytes : List ℕ) (list : List Entry) → IsBook bytes list → (query starts after : List ℕ) (count : ℕ)
    → PrefixPromise bytes query starts after (accepts count) → (first lent final : List ℕ) (more : ℕ) → PrefixPromise bytes first lent final (accepts more)
    → T (begins_with (row_of (stored_form query)) (row_of (stored_form first))) → (r : ℕ) → r < count → StandsIn (entry_at bytes (get_or after r 0)) final more
prefix_shorter bytes list k query starts after count p first lent final more q begins r h =
    let e : Entry = entry_at bytes (get_or after r 0) in
    let o = prefix_only bytes list k query starts after count p r h in
    prefix_each bytes list k first lent final more q e o.0 o.1
    (begins_transitive (row_of e.word) (row_of (stored_form query)) (row_of (stored_form first)) o.2 begins)

-- a row begins with the rows of its first syllables
first_syllables : (query first : List ℕ) → WordStored query → WordStored first → (row rest : Row) → Gives row (stored_form first)
    → Gives (row ++ rest) (stored_form query) → T (begins_with (row_of (stored_form query)) (row_of (stored_form first)))
first_syllables query first s t row rest g h =
    subst (λ (r : Row). T (begins_with r (row_of (stored_form first)))) (sym (row_is (stored_form query) (stored_storable query s).readable (row ++ rest) h))
    (subst (λ (r : Row). T (begins_with (row ++ rest) r)) (sym (row_is (stored_form first) (stored_storable first t).readable row g))
    (begins_with_first row rest))

-- so what a query finds, its first syllables find too
pub prefix_first : (bytes : List ℕ) (list : List Entry) → IsBook bytes list → (query starts after : List ℕ) (count : ℕ)
    → PrefixPromise bytes query starts after (accepts count) → (first lent final : List ℕ) (more : ℕ) → PrefixPromise bytes first lent final (accepts more)
    → (row rest : Row) → Gives row (stored_form first) → Gives (row ++ rest) (stored_form query)
    → (r : ℕ) → r < count → StandsIn (entry_at bytes (get_or after r 0)) final more
prefix_first bytes list k query starts after count p first lent final more q row rest g h =
    prefix_shorter bytes list k query starts after count p first lent final more q
    (first_syllables query first (query_stored bytes list k query starts after count p) (query_stored bytes list k first lent final more q) row rest g h)

-- an entry of a book can be held
pub among_good : (at : ℕ) (seen list : List Entry) → GoodAfter at seen list → (e : Entry) → Among e list → GoodEntry e
among_good at seen [] g e m = absurd m
among_good at seen (x ∷ list) g e (inl p) = subst GoodEntry (sym p) g.1
among_good at seen (x ∷ list) g e (inr m) = among_good (at + size x) (seen ++ (x ∷ [])) list g.3 e m

-- "a plain final in the query thus finds a stacked one": a live entry is found whose final has any form of the same weights
pub prefix_finals : (bytes : List ℕ) (list : List Entry) → IsBook bytes list → (query starts after : List ℕ) (count : ℕ)
    → PrefixPromise bytes query starts after (accepts count) → (e : Entry) → Among e list → T e.live → (front rest : Row) (head : ℕ)
    (medial : MedialGroup) (vowel : Vowel) (tone : ToneMark) (asked found : Final) → final_weight_of asked ≡ final_weight_of found
    → second_final_weight_of asked ≡ second_final_weight_of found → Gives (front ++ (syllable head medial vowel asked tone ∷ [])) (stored_form query)
    → Gives ((front ++ (syllable head medial vowel found tone ∷ [])) ++ rest) e.word → StandsIn e after count
prefix_finals bytes list k query starts after count p e m live front rest head medial vowel tone asked found same_weight same_second g h =
    let stored = (stored_storable query (query_stored bytes list k query starts after count p)).readable in
    let readable = (among_good 0 [] list k.good e m).readable in
    prefix_each bytes list k query starts after count p e m live
    (subst (λ (r : Row). T (begins_with r (row_of (stored_form query)))) (sym (row_is e.word readable _ h))
    (subst (λ (r : Row). T (begins_with ((front ++ (syllable head medial vowel found tone ∷ [])) ++ rest) r)) (sym (row_is (stored_form query) stored _ g))
    (finals_alike front rest head medial vowel tone asked found same_weight same_second)))
