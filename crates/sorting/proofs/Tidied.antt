-- The starts of the live records in word order, after tidying: those of before, each where its record then starts. The order goes by the words, which
-- tidying keeps. Assumes nothing.
use mathlib.Core.Path.{◌≡◌, refl, ap, ◌∙◌}
use mathlib.Core.Bool.{Bool}
use mathlib.Core.List.{List, [], ◌∷◌, map}
use Prim.Native.Nat.{ℕ}
use Rattle.formula.specs.Lists.{filtered}
use Rattle.formula.proofs.Filtered.{filtered_map}
use Rattle.entries.specs.Entries.{Entry}
use Rattle.entries.specs.Book.{GoodAfter}
use Rattle.entries.specs.Rank.{sorted}
use Rattle.entries.specs.Tidy.{starting_at, tidied, start_tidied}
use Rattle.entries.proofs.Moved.{moved, sorted_tidied}
use Rattle.book_keys.specs.Filing.{start_of}
use Rattle.book_order.specs.Order.{before}
use Rattle.sorting.specs.Passing.{starts_passing}

-- the word order does not see where a record starts
before_words : (x y : Entry) (p q : ℕ) → before (starting_at p x) (starting_at q y) ≡ before x y
unfolding before
before_words x y p q = refl

module _ (list : List Entry) (g : GoodAfter 0 [] list) where
  pub order_tidied : sorted before (tidied list) ≡ map (moved list) (sorted before list)
  order_tidied = sorted_tidied list g before before_words

  pub starts_moved_lem : (es : List Entry) → map start_of (map (moved list) es) ≡ map (start_tidied list) (map start_of es)
  starts_moved_lem [] = refl
  starts_moved_lem (x ∷ es) = ap (λ (l : List ℕ). start_tidied list x.start ∷ l) (starts_moved_lem es)

  -- for any test that does not see it either
  pub starts_tidied : (test : Entry → Bool) → ((x : Entry) (p : ℕ) → test (starting_at p x) ≡ test x)
      → starts_passing test (tidied list) ≡ map (start_tidied list) (starts_passing test list)
  starts_tidied test same =
      ap (λ (es : List Entry). map start_of (filtered test es)) order_tidied ∙ ap (map start_of) (filtered_map test (moved list) (sorted before list))
      ∙ ap (λ (es : List Entry). map start_of (map (moved list) es)) (alike (sorted before list)) ∙ starts_moved_lem (filtered test (sorted before list))
    where
      alike : (es : List Entry) → filtered (λ (x : Entry). test (moved list x)) es ≡ filtered test es
      alike es = λ i. filtered (λ (x : Entry). same x (start_tidied list x.start) i) es
