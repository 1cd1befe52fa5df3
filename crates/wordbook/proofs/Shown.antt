-- "every rank shows the same word": the record that a rank gives after tidying is told as the one that it gave before, word, stock number and all.
-- Assumes nothing.
use mathlib.Core.Path.{◌≡◌, refl, sym, ap, subst, ◌∙◌}
use mathlib.Core.Bool.{Bool, true, false}
use mathlib.Core.Logic.{inl, inr}
use mathlib.Core.List.{List, [], ◌∷◌, map}
use Prim.Native.Nat.{ℕ, ◌≤◌, ◌<◌}
use native.Mathlib.Decide.{dec_lt}
use native.Mathlib.Omega.{arith}
use lib.Dec.{T}
use lib.ListN.{length}
use Rattle.letters.specs.Choice.{pick}
use Rattle.letters.proofs.Tests.{is_true}
use Rattle.formula.specs.Limits.{limit}
use Rattle.formula.specs.Lists.{filtered}
use Rattle.refusals.specs.Outcome.{Outcome, accepts}
use Rattle.entries.specs.Entries.{Entry, Entries, book, entries}
use Rattle.entries.specs.Book.{IsBook}
use Rattle.entries.specs.Map.{live_count, live_ones}
use Rattle.entries.specs.Tidy.{tidied, start_tidied, start_after}
use Rattle.entries.specs.Outcome.{finds, start_moved}
use Rattle.entries.proofs.Bytes.{Bytes}
use Rattle.entries.proofs.Agree.{complete}
use Rattle.entries.proofs.Moved.{moved, tidied_moved}
use Rattle.tidying.specs.Tidy.{TidyRight}
use Rattle.ranking.specs.Rank.{rank_of, Among, HasRank}
use Rattle.ranking.proofs.Laws.{rank_below, rank_too_high}
use Rattle.book_word.specs.WordAt.{WordRight}
use Rattle.wordbook.proofs.Words.{entry_told_lem}
use Rattle.wordbook.proofs.Prefix.{among_good}
use Rattle.wordbook.proofs.Tidied.{tidy_makes_book, rank_after_tidy}

-- a live entry is among the live ones, and each of a list among them moved
among_live : (e : Entry) (list : List Entry) → T e.live → Among e list → Among e (live_ones list)
unfolding filtered pick
among_live e [] t m = absurd m
among_live e (x ∷ list) t (inl p) =
    subst (λ (b : Bool). Among e (pick b (x ∷ live_ones list) (live_ones list))) (sym (is_true x.live (subst (λ (y : Entry). T y.live) p t))) (inl p)
among_live e (x ∷ list) t (inr m) = go x.live (among_live e list t m)
  where
    go : (b : Bool) → Among e (live_ones list) → Among e (pick b (x ∷ live_ones list) (live_ones list))
    go true n = inr n
    go false n = n

among_moved : (list : List Entry) (e : Entry) (es : List Entry) → Among e es → Among (moved list e) (map (moved list) es)
among_moved list e [] m = absurd m
among_moved list e (x ∷ es) (inl p) = inl (ap (moved list) p)
among_moved list e (x ∷ es) (inr m) = inr (among_moved list e es m)

module _ (before after : List ℕ) (small : Bytes before) (live : ℕ) (t : TidyRight before after (accepts live)) where
  -- the record of a live entry is told after tidying as before
  pub told_after_tidy : (list : List Entry) → IsBook before list → (e : Entry) → Among e list → T e.live → (lent found final : List ℕ) (answer other : Outcome)
      → length e.word ≤ length lent → WordRight before e.start lent found answer
      → WordRight after (start_after (entries before) e.start) lent final other → (answer ≡ other) × (found ≡ final)
  told_after_tidy list k e m l lent found final answer other room p q =
      let made = tidy_makes_book before after small live t in
      let same_book : book list _ ≡ book made.list made.free = sym (complete before list k) ∙ made.was in
      let same : made.list ≡ list = cc in
      let is : IsBook after (tidied list) = subst (λ (es : List Entry). IsBook after (tidied es)) same made.is_book in
      let there : Among (moved list e) (tidied list) =
      subst (Among (moved list e)) (sym (tidied_moved list k.good)) (among_moved list e (live_ones list) (among_live e list l m)) in
      let place : start_tidied list e.start ≡ start_after (entries before) e.start = ap (λ (x : Entries). start_after x e.start) (sym (complete before list k)) in
      let one = entry_told_lem before list k e m e.start refl lent found answer p room in
      let two = entry_told_lem after (tidied list) is (moved list e) there (start_after (entries before) e.start) place lent final other q room in
      (one.0 ∙ sym two.0, one.1 ∙ sym two.1)

  pub rank_shows : (list : List Entry) → IsBook before list → (r start stock : ℕ) → rank_of (entries before) r ≡ finds start stock
      → (lent found final : List ℕ) (answer other : Outcome) → limit ≤ length lent → WordRight before start lent found answer
      → WordRight after (start_after (entries before) start) lent final other
      → (rank_of (entries after) r ≡ finds (start_after (entries before) start) stock) × (answer ≡ other) × (found ≡ final)
  rank_shows list k r start stock e lent found final answer other room p q = go (dec_lt r (live_count list))
    where
      go : Dec (r < live_count list) → (rank_of (entries after) r ≡ finds (start_after (entries before) start) stock) × (answer ≡ other) × (found ≡ final)
      go (no h) =
          let none : rank_of (entries before) r ≡ _ = rank_too_high before list k r (omega arith) in
          let z : ◌≡◌ {A = ℕ} 0 1 = cc in
          let y : ⊥ = omega arith in
          absurd y
      go (yes h) =
          let has : HasRank before list r = rank_below before list k r h in
          let told : finds start stock ≡ finds has.entry.start has.entry.stock = sym e ∙ has.found in
          let own : start ≡ has.entry.start = cc in
          let long = (among_good 0 [] list k.good has.entry has.among).readable.admissible.short in
          let shown =
          told_after_tidy list k has.entry has.among has.live lent found final answer other (omega arith)
          (subst (λ (s : ℕ). WordRight before s lent found answer) own p)
          (subst (λ (s : ℕ). WordRight after (start_after (entries before) s) lent final other) own q) in (
            rank_after_tidy before after small (accepts live) t r ∙ ap (start_moved (start_after (entries before))) e,
            shown.0,
            shown.1,
          )
