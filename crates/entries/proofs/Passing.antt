-- Those of the sorted entries that pass a test are the entries that pass it, sorted: an entry that goes before another goes before all that follow it,
-- so leaving some out moves no other. Assumes nothing.
use mathlib.Core.Path.{◌≡◌, refl, sym, ap, ◌∙◌}
use mathlib.Core.Bool.{Bool, true, false}
use mathlib.Core.Logic.{◌⊎◌}
use mathlib.Core.List.{List, [], ◌∷◌}
use Prim.Native.Nat.{ℕ}
use lib.Dec.{T}
use Rattle.letters.specs.Choice.{pick}
use Rattle.letters.proofs.Tests.{is_true, of_true}
use Rattle.formula.specs.Lists.{filtered}
use Rattle.entries.specs.Entries.{Entry}
use Rattle.entries.specs.Book.{IsBook}
use Rattle.entries.specs.Rank.{insert, sorted_onto, sorted, AllBehind, Rising}
use Rattle.entries.proofs.Ranked.{behind_all, rising_insert, ApartEach, good_apart}

module _ (before : Entry → Entry → Bool) (test : Entry → Bool) where
  -- an entry before all of a list is put at its front
  insert_first : (x : Entry) (l : List Entry) → AllBehind before x l → insert before x l ≡ x ∷ l
  unfolding insert pick
  insert_first x [] a = refl
  insert_first x (y ∷ l) a = ap (λ (b : Bool). pick b (x ∷ y ∷ l) (y ∷ insert before x l)) (is_true (before x y) a.0)

  behind_filtered : (x : Entry) (l : List Entry) → AllBehind before x l → AllBehind before x (filtered test l)
  unfolding filtered pick
  behind_filtered x [] a = tt
  behind_filtered x (y ∷ l) a = go (test y) (behind_filtered x l a.1)
    where
      go : (t : Bool) → AllBehind before x (filtered test l) → AllBehind before x (pick t (y ∷ filtered test l) (filtered test l))
      go true h = (a.0, h)
      go false h = h

  -- what rises goes on rising
  pub rising_filtered : (l : List Entry) → Rising before l → Rising before (filtered test l)
  unfolding filtered pick
  rising_filtered [] r = tt
  rising_filtered (x ∷ l) r = go (test x) (rising_filtered l r.1)
    where
      go : (t : Bool) → Rising before (filtered test l) → Rising before (pick t (x ∷ filtered test l) (filtered test l))
      go true h = (behind_filtered x l r.0, h)
      go false h = h

  module _ (irreflexive : (x : Entry) → T (before x x) → ⊥) (transitive : (x y z : Entry) → T (before x y) → T (before y z) → T (before x z)) where
    filtered_insert : (x : Entry) (l : List Entry) → Rising before l
        → filtered test (insert before x l) ≡ pick (test x) (insert before x (filtered test l)) (filtered test l)
    unfolding filtered insert pick
    filtered_insert x [] r = refl
    filtered_insert x (y ∷ l) r = go (before x y) refl (filtered_insert x l r.1)
      where
        first : (t : Bool) (g : List Entry) → AllBehind before x g → pick t (x ∷ g) g ≡ pick t (insert before x g) g
        first true g a = sym (insert_first x g a)
        first false g a = refl

        later : before x y ≡ false → (t u : Bool) (f i : List Entry) → i ≡ pick t (insert before x f) f
            → pick u (y ∷ i) i ≡ pick t (insert before x (pick u (y ∷ f) f)) (pick u (y ∷ f) f)
        later e true true f i h = ap (λ (m : List Entry). y ∷ m) h ∙ sym (ap (λ (b : Bool). pick b (x ∷ y ∷ f) (y ∷ insert before x f)) e)
        later e true false f i h = h
        later e false true f i h = ap (λ (m : List Entry). y ∷ m) h
        later e false false f i h = h

        go : (b : Bool) → before x y ≡ b → filtered test (insert before x l) ≡ pick (test x) (insert before x (filtered test l)) (filtered test l)
            → filtered test (pick b (x ∷ y ∷ l) (y ∷ insert before x l))
            ≡ pick (test x) (insert before x (filtered test (y ∷ l))) (filtered test (y ∷ l))
        go true e h =
            let t = of_true (before x y) e in
            first (test x) (filtered test (y ∷ l))
            (behind_filtered x (y ∷ l) (t, behind_all before irreflexive transitive x y l t r.0))
        go false e h = later e (test x) (test y) (filtered test l) (filtered test (insert before x l)) h

    -- the sorted entries that pass are those that pass, sorted
    filtered_onto : (d es : List Entry) → ApartEach before irreflexive transitive d es → Rising before d
        → filtered test (sorted_onto before d es) ≡ sorted_onto before (filtered test d) (filtered test es)
    unfolding filtered sorted_onto pick
    filtered_onto d [] a r = refl
    filtered_onto d (e ∷ es) a r =
        filtered_onto (pick e.live (insert before e d) d) es a.1 (rises e.live refl)
        ∙ ap (λ (m : List Entry). sorted_onto before m (filtered test es)) (put e.live) ∙ next (test e) (filtered test d) (filtered test es)
      where
        rises : (t : Bool) → e.live ≡ t → Rising before (pick t (insert before e d) d)
        rises true q = rising_insert before irreflexive transitive e d (a.0 (of_true e.live q)) r
        rises false q = r

        put : (t : Bool) → filtered test (pick t (insert before e d) d)
            ≡ pick t (pick (test e) (insert before e (filtered test d)) (filtered test d)) (filtered test d)
        put true = filtered_insert e d r
        put false = refl

        neither : (t : Bool) (m : List Entry) → pick t m m ≡ m
        neither true m = refl
        neither false m = refl

        next : (u : Bool) (m rest : List Entry) → sorted_onto before (pick e.live (pick u (insert before e m) m) m) rest
            ≡ sorted_onto before m (pick u (e ∷ rest) rest)
        next true m rest = refl
        next false m rest = ap (λ (l : List Entry). sorted_onto before l rest) (neither e.live m)

    module _ (total : (x y : Entry) → (x.word ≡ y.word → ⊥) → T (before x y) ⊎ T (before y x)) where
      -- in a book, for any order that is total on different words
      pub filtered_of_book : (b : List ℕ) (es : List Entry) → IsBook b es → filtered test (sorted before es) ≡ sorted before (filtered test es)
      unfolding filtered sorted_onto
      filtered_of_book b es k = filtered_onto [] es (good_apart before irreflexive transitive total 0 [] es k.good) tt
