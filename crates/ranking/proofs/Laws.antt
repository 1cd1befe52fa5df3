-- Rank, by its definition alone, on a buffer that is a book: below the live count each rank gives a live entry with exactly so many live
-- entries before it; each live entry has one rank and no other; ranks rise with the words; from the live count on there is 15.
-- Assumes nothing.
use mathlib.Core.Path.{◌≡◌, refl, sym, ap, subst, ◌∙◌}
use mathlib.Core.Bool.{Bool, true, false}
use mathlib.Core.Logic.{◌⊎◌, inl, inr, ⊎_elim}
use mathlib.Core.List.{List, [], ◌∷◌}
use mathlib.Core.Option.{Option}
use Prim.Native.Nat.{ℕ, zero, suc, ◌≤◌, ◌<◌, zero-le, suc-le-suc}
use native.Mathlib.Nat.{not-suc-le-zero, le_of_suc-le-suc}
use native.Mathlib.Omega.{arith}
use lib.Dec.{T}
use lib.ListN.{length, get_or}
use Rattle.formula.proofs.Lists.{element_there}
use Rattle.letters.specs.Choice.{pick}
use Rattle.letters.proofs.Tests.{of_true}
use Rattle.refusals.specs.Outcome.{refuses}
use Rattle.entries.specs.Entries.{Entry, entry_at, Entries, wrong, entries}
use Rattle.entries.specs.Book.{IsBook}
use Rattle.entries.specs.Map.{live_count}
use Rattle.entries.specs.Rank.{insert, sorted_onto, sorted, live_before, AllBehind, Rising}
use Rattle.entries.specs.Outcome.{finds}
use Rattle.entries.proofs.Agree.{complete}
use Rattle.entries.proofs.Ranked.{rank_of_book, rising_of_book}
use Rattle.book_order.specs.Order.{before}
use Rattle.book_order.proofs.Laws.{before_irreflexive, before_transitive, before_total}
use Rattle.ranking.specs.Rank.{rank_of_entry, rank_of, Among, HasRank}
use Rattle.ranking.proofs.InOrder.{sorted_length, none_there, read_there}

among_insert : (e x : Entry) (l : List Entry) → (e ≡ x) ⊎ Among e l → Among e (insert before x l)
unfolding insert pick
among_insert e x [] m = m
among_insert e x (y ∷ l) m = go (before x y) (among_insert e x l)
  where
    later : ((e ≡ x) ⊎ Among e l → Among e (insert before x l)) → (e ≡ x) ⊎ ((e ≡ y) ⊎ Among e l) → (e ≡ y) ⊎ Among e (insert before x l)
    later f (inl p) = inr (f (inl p))
    later f (inr (inl p)) = inl p
    later f (inr (inr n)) = inr (f (inr n))

    go : (t : Bool) → ((e ≡ x) ⊎ Among e l → Among e (insert before x l)) → Among e (pick t (x ∷ y ∷ l) (y ∷ insert before x l))
    go true f = m
    go false f = later f m

insert_among : (e x : Entry) (l : List Entry) → Among e (insert before x l) → (e ≡ x) ⊎ Among e l
unfolding insert pick
insert_among e x [] m = m
insert_among e x (y ∷ l) m = go (before x y) (insert_among e x l) m
  where
    later : (Among e (insert before x l) → (e ≡ x) ⊎ Among e l) → (e ≡ y) ⊎ Among e (insert before x l) → (e ≡ x) ⊎ ((e ≡ y) ⊎ Among e l)
    later f (inl p) = inr (inl p)
    later f (inr n) = ⊎_elim (λ p. inl p) (λ q. inr (inr q)) (f n)

    go : (t : Bool) → (Among e (insert before x l) → (e ≡ x) ⊎ Among e l) → Among e (pick t (x ∷ y ∷ l) (y ∷ insert before x l))
        → (e ≡ x) ⊎ ((e ≡ y) ⊎ Among e l)
    go true f n = n
    go false f n = later f n

-- what is sorted already stays, and each live entry is sorted in
pub among_onto : (e : Entry) (d es : List Entry) → T e.live → Among e d ⊎ Among e es → Among e (sorted_onto before d es)
unfolding sorted_onto pick
among_onto e d [] t m = ⊎_elim (λ n. n) (λ n. absurd n) m
among_onto e d (x ∷ es) t m = among_onto e (pick x.live (insert before x d) d) es t (go x.live refl m)
  where
    go : (b : Bool) → x.live ≡ b → Among e d ⊎ ((e ≡ x) ⊎ Among e es) → Among e (pick b (insert before x d) d) ⊎ Among e es
    go true q (inl n) = inl (among_insert e x d (inr n))
    go true q (inr (inl p)) = inl (among_insert e x d (inl p))
    go true q (inr (inr n)) = inr n
    go false q (inl n) = inl n
    go false q (inr (inl p)) = absurd (subst T (ap (λ (y : Entry). y.live) p ∙ q) t)
    go false q (inr (inr n)) = inr n

-- and nothing else is
pub onto_among : (e : Entry) (d es : List Entry) → Among e (sorted_onto before d es) → Among e d ⊎ (T e.live × Among e es)
unfolding sorted_onto pick
onto_among e d [] m = inl m
onto_among e d (x ∷ es) m = go x.live refl (onto_among e (pick x.live (insert before x d) d) es m)
  where
    put : x.live ≡ true → (e ≡ x) ⊎ Among e d → Among e d ⊎ (T e.live × ((e ≡ x) ⊎ Among e es))
    put q (inl p) = inr (of_true e.live (ap (λ (y : Entry). y.live) p ∙ q), inl p)
    put q (inr n) = inl n

    go : (b : Bool) → x.live ≡ b → Among e (pick b (insert before x d) d) ⊎ (T e.live × Among e es)
        → Among e d ⊎ (T e.live × ((e ≡ x) ⊎ Among e es))
    go b q (inr n) = inr (n.0, inr n.1)
    go true q (inl n) = put q (insert_among e x d n)
    go false q (inl n) = inl n

pub at_among : (l : List Entry) (r : ℕ) (d : Entry) → r < length l → Among (get_or l r d) l
at_among [] r d h = absurd (not-suc-le-zero h)
at_among (x ∷ l) zero d h = inl refl
at_among (x ∷ l) (suc r) d h = inr (at_among l r d (le_of_suc-le-suc h))

pub among_at : (e : Entry) (l : List Entry) (d : Entry) → Among e l → (r : ℕ) × (r < length l) × (get_or l r d ≡ e)
among_at e [] d m = absurd m
among_at e (x ∷ l) d (inl p) = (zero, suc-le-suc zero-le, sym p)
among_at e (x ∷ l) d (inr m) = let a = among_at e l d m in (suc a.0, suc-le-suc a.1, a.2)

behind_at : (x : Entry) (l : List Entry) (s : ℕ) (d : Entry) → AllBehind before x l → s < length l → T (before x (get_or l s d))
behind_at x [] s d a h = absurd (not-suc-le-zero h)
behind_at x (y ∷ l) zero d a h = a.0
behind_at x (y ∷ l) (suc s) d a h = behind_at x l s d a.1 (le_of_suc-le-suc h)

pub rising_at : (l : List Entry) (r s : ℕ) (d : Entry) → Rising before l → r < s → s < length l → T (before (get_or l r d) (get_or l s d))
rising_at [] r s d a h k = absurd (not-suc-le-zero k)
rising_at (x ∷ l) r zero d a h k = absurd (not-suc-le-zero h)
rising_at (x ∷ l) zero (suc s) d a h k = behind_at x l s d a.0 (le_of_suc-le-suc k)
rising_at (x ∷ l) (suc r) (suc s) d a h k = rising_at l r s d a.1 (le_of_suc-le-suc h) (le_of_suc-le-suc k)

module _ (bytes : List ℕ) (list : List Entry) (k : IsBook bytes list) where
  abbrev ordered : List Entry
  ordered = sorted before list

  abbrev at : ℕ → Entry
  at r = get_or ordered r (entry_at bytes 0)

  exact : (r : ℕ) → r < live_count list → live_before before list (at r) ≡ r
  exact r h = rank_of_book before before_irreflexive before_transitive before_total bytes list r (entry_at bytes 0) k h

  found : (r : ℕ) → r < live_count list → rank_of (entries bytes) r ≡ finds (at r).start (at r).stock
  found r h =
      ap (λ (e : Entries). rank_of e r) (complete bytes list k)
      ∙ ap (λ (o : Option Entry). rank_of_entry o (live_count list)) (element_there ordered r (entry_at bytes 0) (omega (arith, sorted_length bytes list k)))

  -- where a live entry stands in order: behind as many as go before it
  placed : (e : Entry) → Among e list → T e.live → (live_before before list e < live_count list) × (at (live_before before list e) ≡ e)
  unfolding sorted_onto
  placed e m t =
      let a = among_at e ordered (entry_at bytes 0) (among_onto e [] list t (inr m)) in
      let h : a.0 < live_count list = omega (arith, a.1, sorted_length bytes list k) in
      let p : live_before before list e ≡ a.0 = ap (live_before before list) (sym a.2) ∙ exact a.0 h in
      (subst (λ (n : ℕ). n < live_count list) (sym p) h, ap at p ∙ a.2)

  -- "the live record with exactly r live records before it in word order"
  pub rank_below : (r : ℕ) → r < live_count list → HasRank bytes list r
  rank_below r h =
      let m = onto_among (at r) [] list (at_among ordered r (entry_at bytes 0) (omega (arith, sorted_length bytes list k))) in
      let live : T (at r).live × Among (at r) list = ⊎_elim (λ n. absurd n) (λ n. n) m in
      record { entry = at r; found = found r h; among = live.1; live = live.0; exact = exact r h }

  -- each live entry has the rank that tells how many go before it
  pub rank_of_each : (e : Entry) → Among e list → T e.live
      → (live_before before list e < live_count list) × (rank_of (entries bytes) (live_before before list e) ≡ finds e.start e.stock)
  rank_of_each e m t =
      let p = placed e m t in
      (p.0, found (live_before before list e) p.0 ∙ (λ i. finds (p.1 i).start (p.1 i).stock))

  -- and no other: two ranks give different records
  pub rank_once : (r s : ℕ) → r < live_count list → s < live_count list → rank_of (entries bytes) r ≡ rank_of (entries bytes) s → r ≡ s
  rank_once r s h j e =
      let f : finds (at r).start (at r).stock ≡ finds (at s).start (at s).stock = sym (found r h) ∙ e ∙ found s j in
      let starts : (at r).start ≡ (at s).start = cc in
      let same : at r ≡ at s = sym (read_there bytes list k r) ∙ ap (entry_at bytes) starts ∙ read_there bytes list k s in
      sym (exact r h) ∙ ap (live_before before list) same ∙ exact s j

  -- ranks rise with the words
  pub rank_rising : (r s : ℕ) → r < s → (a : HasRank bytes list r) (b : HasRank bytes list s) → T (before a.entry b.entry)
  rank_rising r s h a b =
      let p = placed a.entry a.among a.live in
      let q = placed b.entry b.among b.live in
      let first : at r ≡ a.entry = ap at (sym a.exact) ∙ p.1 in
      let second : at s ≡ b.entry = ap at (sym b.exact) ∙ q.1 in
      let within : s < length ordered = omega (arith, b.exact, q.0, sorted_length bytes list k) in
      let rises = rising_of_book before before_irreflexive before_transitive before_total bytes list k in
      subst (λ (e : Entry). T (before a.entry e)) second
      (subst (λ (e : Entry). T (before e (at s))) first (rising_at ordered r s (entry_at bytes 0) rises h within))

  -- "rank not below the live count", with the live count
  pub rank_too_high : (r : ℕ) → live_count list ≤ r → rank_of (entries bytes) r ≡ refuses 15 (live_count list)
  rank_too_high r h =
      ap (λ (e : Entries). rank_of e r) (complete bytes list k)
      ∙ ap (λ (o : Option Entry). rank_of_entry o (live_count list)) (none_there bytes list k r h)

-- "not a book", with its place
pub rank_of_no_book : (bytes : List ℕ) (place r : ℕ) → entries bytes ≡ wrong place → rank_of (entries bytes) r ≡ refuses 11 place
rank_of_no_book bytes place r e = ap (λ (x : Entries). rank_of x r) e
