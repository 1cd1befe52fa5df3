-- The entry at r of the live entries in order has exactly r live entries before it, over any strict order that tells the live words apart:
-- sorting changes no count, and in a rising list as many stand before an entry as its place says.
-- Assumes nothing.
use mathlib.Core.Path.{◌≡◌, refl, sym, ap, subst, ◌∙◌}
use mathlib.Core.Bool.{Bool, true, false, ◌&&◌}
use mathlib.Core.Logic.{◌⊎◌, ⊎_elim}
use mathlib.Core.List.{List, [], ◌∷◌, ◌++◌}
use Prim.Native.Nat.{ℕ, zero, suc, ◌+◌, ◌<◌}
use native.Mathlib.Nat.{le_of_suc-le-suc}
use native.Mathlib.Omega.{arith}
use lib.Dec.{T}
use lib.ListN.{length, get_or}
use Rattle.letters.specs.Choice.{pick}
use Rattle.letters.proofs.Tests.{is_true, is_false, of_true, or_left, or_right, clash}
use Rattle.formula.proofs.Lists.{both, same_list, same_list_refl}
use Rattle.entries.specs.Entries.{Entry, holds, is_fresh}
use Rattle.entries.specs.Book.{size, GoodAfter, IsBook}
use Rattle.entries.specs.Map.{counted, live_count}
use Rattle.entries.specs.Rank.{insert, sorted_onto, sorted, live_before, AllBehind, Rising}

counted_swap : (s t : Bool) (n : ℕ) → counted s (counted t n) ≡ counted t (counted s n)
counted_swap true true n = refl
counted_swap true false n = refl
counted_swap false true n = refl
counted_swap false false n = refl

-- each entry of the list is live
abbrev pub AllLive : List Entry → Type 0
AllLive [] = Unit {0}
AllLive (e ∷ l) = T e.live × AllLive l

module _ {A : Type 0} (before : A → A → Bool) where
  pub length_insert : (x : A) (l : List A) → length (insert before x l) ≡ suc (length l)
  unfolding insert pick
  length_insert x [] = refl
  length_insert x (y ∷ l) = go (before x y) (length_insert x l)
    where
      go : (b : Bool) → length (insert before x l) ≡ suc (length l) → length (pick b (x ∷ y ∷ l) (y ∷ insert before x l)) ≡ suc (suc (length l))
      go true h = refl
      go false h = ap suc h

module _ (before : Entry → Entry → Bool) where
  live_insert : (x : Entry) (l : List Entry) → T x.live → AllLive l → AllLive (insert before x l)
  unfolding insert pick
  live_insert x [] t a = (t, tt)
  live_insert x (y ∷ l) t a = go (before x y) (live_insert x l t a.1)
    where
      go : (b : Bool) → AllLive (insert before x l) → AllLive (pick b (x ∷ y ∷ l) (y ∷ insert before x l))
      go true h = (t, a)
      go false h = (a.0, h)

  -- sorting in one live entry counts it once
  before_insert : (x : Entry) (l : List Entry) (e : Entry) → T x.live → AllLive l → live_before before (insert before x l) e ≡ counted (before x e) (live_before before l e)
  unfolding insert live_before pick
  before_insert x [] e t a = ap (λ (b : Bool). pick b (counted (before x e) 0) 0) (is_true x.live t)
  before_insert x (y ∷ l) e t a = go (before x y) (before_insert x l e t a.1)
    where
      other : (n : ℕ) → pick y.live (counted (before y e) n) n ≡ counted (before y e) n
      other n = ap (λ (b : Bool). pick b (counted (before y e) n) n) (is_true y.live a.0)

      go : (b : Bool) → live_before before (insert before x l) e ≡ counted (before x e) (live_before before l e)
          → live_before before (pick b (x ∷ y ∷ l) (y ∷ insert before x l)) e ≡ counted (before x e) (pick y.live (counted (before y e) (live_before before l e)) (live_before before l e))
      go true h = ap (λ (b : Bool). pick b (counted (before x e) (live_before before (y ∷ l) e)) (live_before before (y ∷ l) e)) (is_true x.live t)
      go false h =
          other (live_before before (insert before x l) e) ∙ ap (counted (before y e)) h ∙ counted_swap (before y e) (before x e) (live_before before l e)
          ∙ ap (counted (before x e)) (sym (other (live_before before l e)))

  live_onto : (d es : List Entry) → AllLive d → AllLive (sorted_onto before d es)
  unfolding sorted_onto pick
  live_onto d [] a = a
  live_onto d (e ∷ es) a = live_onto (pick e.live (insert before e d) d) es (go e.live refl)
    where
      go : (t : Bool) → e.live ≡ t → AllLive (pick t (insert before e d) d)
      go true q = live_insert e d (of_true e.live q) a
      go false q = a

  -- as many are sorted as there are live ones
  length_onto : (d es : List Entry) → length (sorted_onto before d es) ≡ live_count es + length d
  unfolding sorted_onto pick
  length_onto d [] = omega arith
  length_onto d (e ∷ es) = go e.live (length_onto (insert before e d) es) (length_onto d es)
    where
      go : (t : Bool) → length (sorted_onto before (insert before e d) es) ≡ live_count es + length (insert before e d) → length (sorted_onto before d es) ≡ live_count es + length d
          → length (sorted_onto before (pick t (insert before e d) d) es) ≡ counted t (live_count es) + length d
      go true h i = h ∙ omega (arith, length_insert before e d)
      go false h i = i

  -- sorting changes no count
  before_onto : (d es : List Entry) (x : Entry) → AllLive d → live_before before (sorted_onto before d es) x ≡ live_before before es x + live_before before d x
  unfolding sorted_onto live_before pick
  before_onto d [] x a = omega arith
  before_onto d (e ∷ es) x a = go e.live refl (λ (t : T e.live). before_onto (insert before e d) es x (live_insert e d t a)) (before_onto d es x a)
    where
      sum : (t : Bool) (n m : ℕ) → n + counted t m ≡ counted t n + m
      sum true n m = omega arith
      sum false n m = refl

      go : (t : Bool) → e.live ≡ t
          → (T e.live → live_before before (sorted_onto before (insert before e d) es) x ≡ live_before before es x + live_before before (insert before e d) x)
          → live_before before (sorted_onto before d es) x ≡ live_before before es x + live_before before d x
          → live_before before (sorted_onto before (pick t (insert before e d) d) es) x ≡ pick t (counted (before e x) (live_before before es x)) (live_before before es x) + live_before before d x
      go true q h i =
          let t : T e.live = of_true e.live q in
          h t ∙ ap (λ (n : ℕ). live_before before es x + n) (before_insert e d x t a) ∙ sum (before e x) (live_before before es x) (live_before before d x)
      go false q h i = i

  module _ (irreflexive : (x : Entry) → T (before x x) → ⊥) (transitive : (x y z : Entry) → T (before x y) → T (before y z) → T (before x z)) where
    pub behind_all : (e x : Entry) (l : List Entry) → T (before e x) → AllBehind before x l → AllBehind before e l
    behind_all e x [] t a = tt
    behind_all e x (y ∷ l) t a = (transitive e x y t a.0, behind_all e x l t a.1)

    behind_insert : (x e : Entry) (l : List Entry) → T (before x e) → AllBehind before x l → AllBehind before x (insert before e l)
    unfolding insert pick
    behind_insert x e [] t a = (t, tt)
    behind_insert x e (y ∷ l) t a = go (before e y) (behind_insert x e l t a.1)
      where
        go : (b : Bool) → AllBehind before x (insert before e l) → AllBehind before x (pick b (e ∷ y ∷ l) (y ∷ insert before e l))
        go true h = (t, a)
        go false h = (a.0, h)

    -- an entry is told apart from each of the list
    abbrev pub Apart : Entry → List Entry → Type 0
    Apart e [] = Unit {0}
    Apart e (x ∷ l) = (T (before e x) ⊎ T (before x e)) × Apart e l

    pub rising_insert : (e : Entry) (l : List Entry) → Apart e l → Rising before l → Rising before (insert before e l)
    unfolding insert pick
    rising_insert e [] d r = (tt, tt)
    rising_insert e (x ∷ l) d r = go (before e x) refl (rising_insert e l d.1 r.1)
      where
        go : (t : Bool) → before e x ≡ t → Rising before (insert before e l) → Rising before (pick t (e ∷ x ∷ l) (x ∷ insert before e l))
        go true q h = ((of_true (before e x) q, behind_all e x l (of_true (before e x) q) r.0), r)
        go false q h = (behind_insert x e l (⊎_elim (λ t. absurd (subst T q t)) (λ t. t) d.0) r.0, h)

    -- each live entry is told apart from those that are sorted before it
    abbrev pub ApartEach : List Entry → List Entry → Type 0
    ApartEach d [] = Unit {0}
    ApartEach d (e ∷ es) = (T e.live → Apart e d) × ApartEach (pick e.live (insert before e d) d) es

    pub rising_onto : (d es : List Entry) → ApartEach d es → Rising before d → Rising before (sorted_onto before d es)
    unfolding sorted_onto pick
    rising_onto d [] a r = r
    rising_onto d (e ∷ es) a r = rising_onto (pick e.live (insert before e d) d) es a.1 (go e.live refl)
      where
        go : (t : Bool) → e.live ≡ t → Rising before (pick t (insert before e d) d)
        go true q = rising_insert e d (a.0 (of_true e.live q)) r
        go false q = r

    none_before : (e : Entry) (l : List Entry) → AllBehind before e l → live_before before l e ≡ 0
    unfolding live_before pick
    none_before e [] a = refl
    none_before e (x ∷ l) a = go x.live (is_false (before x e) (λ t. irreflexive e (transitive e x e a.0 t))) (none_before e l a.1)
      where
        go : (t : Bool) → before x e ≡ false → live_before before l e ≡ 0 → pick t (counted (before x e) (live_before before l e)) (live_before before l e) ≡ 0
        go true q h = ap (λ (b : Bool). counted b (live_before before l e)) q ∙ h
        go false q h = h

    at_behind : (x : Entry) (l : List Entry) (r : ℕ) (d : Entry) → AllBehind before x l → r < length l → T (before x (get_or l r d))
    at_behind x [] r d a h = let z : ⊥ = omega arith in absurd z
    at_behind x (y ∷ l) zero d a h = a.0
    at_behind x (y ∷ l) (suc r) d a h = at_behind x l r d a.1 (le_of_suc-le-suc h)

    -- in a rising list of live entries the one at r has exactly r before it
    count_at : (l : List Entry) (r : ℕ) (d : Entry) → AllLive l → Rising before l → r < length l → live_before before l (get_or l r d) ≡ r
    unfolding live_before pick
    count_at [] r d a s h = let z : ⊥ = omega arith in absurd z
    count_at (x ∷ l) zero d a s h =
        (λ i. pick (is_true x.live a.0 i) (counted (is_false (before x x) (irreflexive x) i) (live_before before l x)) (live_before before l x))
        ∙ none_before x l s.0
    count_at (x ∷ l) (suc r) d a s h =
        (λ i. pick (is_true x.live a.0 i)
        (counted (is_true (before x (get_or l r d)) (at_behind x l r d s.0 (le_of_suc-le-suc h)) i) (live_before before l (get_or l r d)))
        (live_before before l (get_or l r d)))
        ∙ ap suc (count_at l r d a.1 s.1 (le_of_suc-le-suc h))

    -- "the live record with exactly r live records before it in word order"
    pub rank_exact : (es : List Entry) (r : ℕ) (d : Entry) → ApartEach [] es → r < live_count es → live_before before es (get_or (sorted before es) r d) ≡ r
    unfolding live_before
    rank_exact es r d a h =
        let few : r < length (sorted before es) = omega (arith, length_onto [] es) in
        let x : Entry = get_or (sorted before es) r d in
        let same : live_before before (sorted before es) x ≡ live_before before es x + 0 = before_onto [] es x tt in
        omega (arith, count_at (sorted before es) r d (live_onto [] es tt) (rising_onto [] es a tt) few)

    apart_insert : (e x : Entry) (l : List Entry) → T (before e x) ⊎ T (before x e) → Apart e l → Apart e (insert before x l)
    unfolding insert pick
    apart_insert e x [] t a = (t, tt)
    apart_insert e x (y ∷ l) t a = go (before x y) (apart_insert e x l t a.1)
      where
        go : (b : Bool) → Apart e (insert before x l) → Apart e (pick b (x ∷ y ∷ l) (y ∷ insert before x l))
        go true h = (t, a)
        go false h = (a.0, h)

    module _ (total : (x y : Entry) → (x.word ≡ y.word → ⊥) → T (before x y) ⊎ T (before y x)) where
      -- an entry whose word no live entry has is told apart from each of them
      apart_onto : (e : Entry) (d seen : List Entry) → (T (holds seen e.word) → ⊥) → Apart e d → Apart e (sorted_onto before d seen)
      unfolding sorted_onto holds pick
      apart_onto e d [] n a = a
      apart_onto e d (x ∷ seen) n a =
          apart_onto e (pick x.live (insert before x d) d) seen (λ h. n (or_right (x.live && same_list x.word e.word) (holds seen e.word) h)) (go x.live refl)
        where
          go : (t : Bool) → x.live ≡ t → Apart e (pick t (insert before x d) d)
          go true q =
              apart_insert e x d
              (total e x
              (λ w. n
              (or_left (x.live && same_list x.word e.word) (holds seen e.word)
              (both x.live (same_list x.word e.word) (of_true x.live q)
              (subst (λ (l : List ℕ). T (same_list x.word l)) (sym w) (same_list_refl x.word)))))) a
          go false q = a

      sorted_snoc : (d seen : List Entry) (e : Entry)
          → sorted_onto before d (seen ++ (e ∷ [])) ≡ pick e.live (insert before e (sorted_onto before d seen)) (sorted_onto before d seen)
      unfolding sorted_onto
      sorted_snoc d [] e = refl
      sorted_snoc d (x ∷ seen) e = sorted_snoc (pick x.live (insert before x d) d) seen e

      pub good_apart : (at : ℕ) (seen es : List Entry) → GoodAfter at seen es → ApartEach (sorted before seen) es
      unfolding is_fresh
      good_apart at seen [] g = tt
      good_apart at seen (e ∷ es) g = (
        λ t. apart_onto e [] seen (λ h. clash e.live (holds seen e.word) t h g.2) tt,
        subst (λ (d : List Entry). ApartEach d es) (sorted_snoc [] seen e) (good_apart (at + size e) (seen ++ (e ∷ [])) es g.3),
      )

      -- in a book, for any order that is total on different words
      pub rank_of_book : (b : List ℕ) (es : List Entry) (r : ℕ) (d : Entry) → IsBook b es → r < live_count es → live_before before es (get_or (sorted before es) r d) ≡ r
      unfolding sorted_onto
      rank_of_book b es r d k h = rank_exact es r d (good_apart 0 [] es k.good) h

      pub rising_of_book : (b : List ℕ) (es : List Entry) → IsBook b es → Rising before (sorted before es)
      unfolding sorted_onto
      rising_of_book b es k = rising_onto [] es (good_apart 0 [] es k.good) tt
