-- The live entries of a list: how many they are, that they are found and sorted as in the whole list, and that nothing but them is.
-- Assumes nothing.
use mathlib.Core.Path.{◌≡◌, refl, sym, ap, ◌∙◌}
use mathlib.Core.Bool.{Bool, true, false, ◌&&◌}
use mathlib.Core.List.{List, [], ◌∷◌, ◌++◌}
use mathlib.Core.Option.{some}
use Prim.Native.Nat.{ℕ, suc, ◌+◌}
use native.Mathlib.Omega.{arith}
use lib.ListN.{length}
use Rattle.letters.specs.Choice.{pick}
use Rattle.letters.proofs.Tests.{is_true, of_true}
use Rattle.formula.specs.Lists.{filtered, same_list}
use Rattle.entries.specs.Entries.{Entry}
use Rattle.entries.specs.Map.{lookup, counted, live_count, live_ones}
use Rattle.entries.specs.Rank.{insert, sorted_onto}
use Rattle.entries.proofs.Ranked.{AllLive}

pub live_count_lem : (list : List Entry) → length (live_ones list) ≡ live_count list
unfolding filtered pick
live_count_lem [] = refl
live_count_lem (x ∷ list) = go x.live (live_count_lem list)
  where
    go : (t : Bool) → length (live_ones list) ≡ live_count list → length (pick t (x ∷ live_ones list) (live_ones list)) ≡ counted t (live_count list)
    go true h = ap suc h
    go false h = h

pub live_append : (seen rest : List Entry) → live_count (seen ++ rest) ≡ live_count seen + live_count rest
live_append [] rest = omega arith
live_append (x ∷ seen) rest = go x.live (live_append seen rest)
  where
    go : (t : Bool) → live_count (seen ++ rest) ≡ live_count seen + live_count rest
        → counted t (live_count (seen ++ rest)) ≡ counted t (live_count seen) + live_count rest
    go true h = omega arith
    go false h = h

pub live_all : (list : List Entry) → AllLive (live_ones list)
unfolding filtered pick
live_all [] = tt
live_all (x ∷ list) = go x.live refl (live_all list)
  where
    go : (t : Bool) → x.live ≡ t → AllLive (live_ones list) → AllLive (pick t (x ∷ live_ones list) (live_ones list))
    go true e h = (of_true x.live e, h)
    go false e h = h

-- where each is live, they are all
pub all_live : (list : List Entry) → AllLive list → live_ones list ≡ list
unfolding filtered pick
all_live [] a = refl
all_live (x ∷ list) a = (λ i. pick (is_true x.live a.0 i) (x ∷ live_ones list) (live_ones list)) ∙ ap (λ (l : List Entry). x ∷ l) (all_live list a.1)

-- removed entries have no part in the order
pub sorted_live : (test : Entry → Entry → Bool) (done list : List Entry) → sorted_onto test done (live_ones list) ≡ sorted_onto test done list
unfolding sorted_onto filtered pick
sorted_live test done [] = refl
sorted_live test done (x ∷ list) =
    go x.live refl (sorted_live test (pick x.live (insert test x done) done) list)
  where
    go : (t : Bool) → x.live ≡ t
        → sorted_onto test (pick x.live (insert test x done) done) (live_ones list) ≡ sorted_onto test (pick x.live (insert test x done) done) list
        → sorted_onto test done (pick t (x ∷ live_ones list) (live_ones list)) ≡ sorted_onto test (pick x.live (insert test x done) done) list
    go true e h = h
    go false e h = ap (λ (u : Bool). sorted_onto test (pick u (insert test x done) done) (live_ones list)) (sym e) ∙ h

-- nor in what a word looks up
pub lookup_live : (list : List Entry) (word : List ℕ) → lookup (live_ones list) word ≡ lookup list word
unfolding lookup filtered pick
lookup_live [] word = refl
lookup_live (x ∷ list) word = go x.live refl (lookup_live list word)
  where
    go : (t : Bool) → x.live ≡ t → lookup (live_ones list) word ≡ lookup list word
        → lookup (pick t (x ∷ live_ones list) (live_ones list)) word ≡ pick (x.live && same_list x.word word) (some x) (lookup list word)
    go true e h = ap (pick (x.live && same_list x.word word) (some x)) h
    go false e h = h ∙ ap (λ (u : Bool). pick (u && same_list x.word word) (some x) (lookup list word)) (sym e)
