-- The whole book in one call, by its promise alone: only one answer meets it, and on a book the start at each place of the list is the one that
-- the rank of that number gives. So the laws of rank say that each live entry stands there once, and nothing else.
-- Assumes nothing.
use mathlib.Core.Path.{◌≡◌, sym, ap, ◌∙◌}
use mathlib.Core.List.{List}
use mathlib.Core.Option.{Option}
use Prim.Native.Nat.{ℕ, ◌<◌}
use native.Mathlib.Omega.{arith}
use lib.Dec.{T}
use lib.ListN.{length, get_or, drop}
use Rattle.refusals.specs.Outcome.{Outcome, accepts, refuses}
use Rattle.refusals.proofs.Determined.{Same, writes_determined}
use Rattle.refusals.proofs.Accepted.{accepted_count, accepted_front, accepted_rest, accepted_fits}
use Rattle.entries.specs.Entries.{Entry, entry_at, Entries, book, entries}
use Rattle.entries.specs.Book.{IsBook}
use Rattle.entries.specs.Map.{live_count}
use Rattle.entries.specs.Rank.{live_before}
use Rattle.entries.specs.Outcome.{finds}
use Rattle.entries.proofs.Agree.{complete}
use Rattle.book_order.specs.Order.{before}
use Rattle.ranking.specs.Rank.{rank_of_entry, rank_of, starts_in_order, Among}
use Rattle.ranking.specs.Whole.{NotABook, not_a_book, BookOf, OrderRight}
use Rattle.ranking.proofs.InOrder.{starts_count, entry_there}
use Rattle.ranking.proofs.Laws.{rank_below, rank_of_each, rank_once}

module _ (bytes : List ℕ) where
  pub refused_alike : (n p m q : ℕ) → NotABook bytes n p → NotABook bytes m q → refuses n p ≡ refuses m q
  refused_alike n p m q (not_a_book e) (not_a_book f) = cc

  pub book_once : (list other : List Entry) → BookOf bytes list → BookOf bytes other → list ≡ other
  book_once list other h k =
      let e : book list h.free ≡ book other k.free = sym h.is ∙ k.is in
      cc

  pub book_or_refused : (list : List Entry) (n p : ℕ) → BookOf bytes list → NotABook bytes n p → ⊥
  book_or_refused list n p h (not_a_book e) = let z : ◌≡◌ {A = ℕ} 0 1 = cc h.is in omega arith

  -- one answer only, with one list
  pub order_determined : (starts after final : List ℕ) (first second : Outcome) → OrderRight bytes starts after first → OrderRight bytes starts final second
      → Same first second after final
  order_determined starts after final first second p q =
      writes_determined (NotABook bytes) (BookOf bytes) starts_in_order (λ list. length (starts_in_order list)) refused_alike book_once book_or_refused
      starts after final first second p q

module _ (bytes : List ℕ) (list : List Entry) (k : IsBook bytes list) (starts after : List ℕ) (count : ℕ)
    (p : OrderRight bytes starts after (accepts count)) where
  -- the entries are those of this list
  same : (other : List Entry) → BookOf bytes other → other ≡ list
  same other h = book_once bytes other list h (record { free = _; is = complete bytes list k })

  -- as many as are live
  pub order_count : count ≡ live_count list
  order_count = accepted_count (NotABook bytes) (BookOf bytes) starts_in_order starts after count p list same ∙ starts_count bytes list k

  -- the rest of the list is untouched
  pub order_rest : drop count after ≡ drop count starts
  order_rest = accepted_rest (NotABook bytes) (BookOf bytes) starts_in_order starts after count p list same

  -- the start at a place is the one that the rank of that number gives
  pub order_is_rank : (r : ℕ) → r < count → rank_of (entries bytes) r ≡ finds (get_or after r 0) (entry_at bytes (get_or after r 0)).stock
  order_is_rank r h =
      let fits = accepted_fits (NotABook bytes) (BookOf bytes) starts_in_order starts after count p list same in
      let front = accepted_front (NotABook bytes) (BookOf bytes) starts_in_order starts after count p list same in
      ap (λ (e : Entries). rank_of e r) (complete bytes list k)
      ∙ ap (λ (o : Option Entry). rank_of_entry o (live_count list))
      (entry_there bytes list k r after count order_count fits front (omega (arith, order_count)))

  -- each live entry's start stands there, at the number of those before it
  pub order_of_each : (e : Entry) → Among e list → T e.live
      → (live_before before list e < count) × (get_or after (live_before before list e) 0 ≡ e.start)
  order_of_each e m t =
      let r = rank_of_each bytes list k e m t in
      let h : live_before before list e < count = omega (arith, r.0, order_count) in
      let f = sym (order_is_rank (live_before before list e) h) ∙ r.1 in
      (h, cc)

  -- and at no other
  pub order_once : (r s : ℕ) → r < count → s < count → get_or after r 0 ≡ get_or after s 0 → r ≡ s
  order_once r s h j e =
      rank_once bytes list k r s (omega (arith, order_count)) (omega (arith, order_count))
      (order_is_rank r h ∙ ap (λ (x : ℕ). finds x (entry_at bytes x).stock) e ∙ sym (order_is_rank s j))

  -- and nothing else stands there
  pub order_only : (r : ℕ) → r < count → (e : Entry) × Among e list × T e.live × (e.start ≡ get_or after r 0)
  order_only r h =
      let a = rank_below bytes list k r (omega (arith, order_count)) in
      let f = sym a.found ∙ order_is_rank r h in
      (a.entry, a.among, a.live, cc)
