-- The list of starts at which a test passes, on a book: exactly those of the live entries that pass it stand there, each once, rising in word order.
-- Assumes nothing.
use mathlib.Core.Path.{◌≡◌, refl, sym, ap, subst, ◌∙◌}
use mathlib.Core.Bool.{Bool, true, false}
use mathlib.Core.Logic.{◌⊎◌, inl, inr, ⊎_elim}
use mathlib.Core.List.{List, [], ◌∷◌}
use Prim.Native.Nat.{ℕ, ◌<◌}
use native.Mathlib.Decide.{dec_lt}
use native.Mathlib.Omega.{arith}
use lib.Dec.{T}
use lib.ListN.{length, get_or, length-map, get_or-map}
use Rattle.letters.specs.Choice.{pick}
use Rattle.letters.proofs.Tests.{of_true}
use Rattle.formula.specs.Lists.{filtered}
use Rattle.entries.specs.Entries.{Entry, entry_at}
use Rattle.entries.specs.Book.{IsBook}
use Rattle.entries.specs.Rank.{sorted_onto, sorted}
use Rattle.entries.proofs.Ranked.{rising_of_book}
use Rattle.entries.proofs.Passing.{rising_filtered}
use Rattle.book_keys.specs.Filing.{start_of}
use Rattle.book_order.specs.Order.{before}
use Rattle.book_order.proofs.Laws.{before_irreflexive, before_transitive, before_total}
use Rattle.sorting.specs.Passing.{starts_passing}
use Rattle.sorting.proofs.InOrder.{passing_there}
use Rattle.ranking.specs.Rank.{Among}
use Rattle.ranking.proofs.Laws.{among_onto, onto_among, at_among, among_at, rising_at}

filtered_among : (test : Entry → Bool) (e : Entry) (l : List Entry) → Among e (filtered test l) → Among e l × T (test e)
unfolding filtered pick
filtered_among test e [] m = absurd m
filtered_among test e (x ∷ l) m = go (test x) refl (filtered_among test e l) m
  where
    go : (t : Bool) → test x ≡ t → (Among e (filtered test l) → Among e l × T (test e)) → Among e (pick t (x ∷ filtered test l) (filtered test l))
        → ((e ≡ x) ⊎ Among e l) × T (test e)
    go true q f (inl p) = (inl p, of_true (test e) (ap test p ∙ q))
    go true q f (inr n) = let h = f n in (inr h.0, h.1)
    go false q f n = let h = f n in (inr h.0, h.1)

among_filtered : (test : Entry → Bool) (e : Entry) (l : List Entry) → Among e l → T (test e) → Among e (filtered test l)
unfolding filtered pick
among_filtered test e [] m t = absurd m
among_filtered test e (x ∷ l) m t = go (test x) refl m (λ n. among_filtered test e l n t)
  where
    go : (b : Bool) → test x ≡ b → (e ≡ x) ⊎ Among e l → (Among e l → Among e (filtered test l)) → Among e (pick b (x ∷ filtered test l) (filtered test l))
    go true q (inl p) f = inl p
    go true q (inr n) f = inr (f n)
    go false q (inl p) f = absurd (subst T (ap test p ∙ q) t)
    go false q (inr n) f = f n

module _ (bytes : List ℕ) (list : List Entry) (k : IsBook bytes list) (test : Entry → Bool) where
  abbrev passing : List Entry
  passing = filtered test (sorted before list)

  abbrev starts : List ℕ
  starts = starts_passing test list

  -- the entry that is read at the start at a place is the one that stands there
  read_at : (r : ℕ) → get_or passing r (entry_at bytes 0) ≡ entry_at bytes (get_or starts r 0)
  read_at r = ap (λ (l : List Entry). get_or l r (entry_at bytes 0)) (sym (passing_there bytes list k test)) ∙ get_or-map (entry_at bytes) starts r 0

  -- only live entries that pass stand there
  pub passing_only : (r : ℕ) → r < length starts → let e = entry_at bytes (get_or starts r 0) in Among e list × T e.live × T (test e)
  unfolding sorted_onto
  passing_only r h =
      let long : length starts ≡ length passing = length-map passing start_of in
      let e : Entry = entry_at bytes (get_or starts r 0) in
      let there : Among e passing = subst (λ (x : Entry). Among x passing) (read_at r) (at_among passing r (entry_at bytes 0) (omega (arith, long))) in
      let a = filtered_among test e (sorted before list) there in
      let live : T e.live × Among e list = ⊎_elim (λ n. absurd n) (λ n. n) (onto_among e [] list a.0) in
      (live.1, live.0, a.1)

  -- each of them does
  pub passing_each : (e : Entry) → Among e list → T e.live → T (test e) → (r : ℕ) × (r < length starts) × (get_or starts r 0 ≡ e.start)
  unfolding sorted_onto
  passing_each e m live t =
      let long : length starts ≡ length passing = length-map passing start_of in
      let a = among_at e passing (entry_at bytes 0) (among_filtered test e (sorted before list) (among_onto e [] list live (inr m)) t) in
      (a.0, omega (arith, long, a.1), get_or-map start_of passing a.0 (entry_at bytes 0) ∙ ap start_of a.2)

  -- they rise in word order
  pub passing_rising : (r s : ℕ) → r < s → s < length starts → T (before (entry_at bytes (get_or starts r 0)) (entry_at bytes (get_or starts s 0)))
  passing_rising r s h j =
      let rises = rising_filtered before test (sorted before list) (rising_of_book before before_irreflexive before_transitive before_total bytes list k) in
      let long : length starts ≡ length passing = length-map passing start_of in
      subst (λ (e : Entry). T (before (entry_at bytes (get_or starts r 0)) e)) (read_at s)
      (subst (λ (e : Entry). T (before e (get_or passing s (entry_at bytes 0)))) (read_at r)
      (rising_at passing r s (entry_at bytes 0) rises h (omega (arith, long))))

  -- so none stands there twice
  pub passing_once : (r s : ℕ) → r < length starts → s < length starts → get_or starts r 0 ≡ get_or starts s 0 → r ≡ s
  passing_once r s h j e = go (dec_lt r s) (dec_lt s r)
    where
      twice : (m n : ℕ) → m < n → n < length starts → get_or starts m 0 ≡ get_or starts n 0 → ⊥
      twice m n l i f =
          before_irreflexive (entry_at bytes (get_or starts n 0))
          (subst (λ (x : ℕ). T (before (entry_at bytes x) (entry_at bytes (get_or starts n 0)))) f (passing_rising m n l i))

      go : Dec (r < s) → Dec (s < r) → r ≡ s
      go (yes l) d = absurd (twice r s l j e)
      go (no l) (yes d) = absurd (twice s r d h (sym e))
      go (no l) (no d) = omega arith
