-- Two tests that agree on the entries of a list sort it alike: sorting asks them of these entries alone.
-- Assumes nothing.
use mathlib.Core.Path.{◌≡◌, refl, ap, ◌∙◌}
use mathlib.Core.Bool.{Bool, true, false}
use mathlib.Core.List.{List, [], ◌∷◌}
use Rattle.letters.specs.Choice.{pick}
use Rattle.formula.proofs.Lists.{All}
use Rattle.entries.specs.Entries.{Entry}
use Rattle.entries.specs.Rank.{insert, sorted_onto, sorted}

module _ (P : Entry → Type 0) (before other : Entry → Entry → Bool) (agree : (a b : Entry) → P a → P b → before a b ≡ other a b) where
  insert_alike : (one : Entry) (list : List Entry) → P one → All P list → insert before one list ≡ insert other one list
  unfolding insert
  insert_alike one [] p q = refl
  insert_alike one (first ∷ rest) p q = λ i. pick (agree one first p q.0 i) (one ∷ first ∷ rest) (first ∷ insert_alike one rest p q.1 i)

  insert_all : (one : Entry) (list : List Entry) → P one → All P list → All P (insert before one list)
  unfolding insert pick
  insert_all one [] p q = (p, tt)
  insert_all one (first ∷ rest) p q = go (before one first) (insert_all one rest p q.1)
    where
      go : (t : Bool) → All P (insert before one rest) → All P (pick t (one ∷ first ∷ rest) (first ∷ insert before one rest))
      go true r = (p, q)
      go false r = (q.0, r)

  onto_alike : (done list : List Entry) → All P done → All P list → sorted_onto before done list ≡ sorted_onto other done list
  unfolding sorted_onto pick
  onto_alike done [] d l = refl
  onto_alike done (entry ∷ list) d l = go entry.live (onto_alike (insert before entry done) list (insert_all entry done l.0 d) l.1) (onto_alike done list d l.1)
    where
      go : (t : Bool) → sorted_onto before (insert before entry done) list ≡ sorted_onto other (insert before entry done) list
          → sorted_onto before done list ≡ sorted_onto other done list
          → sorted_onto before (pick t (insert before entry done) done) list ≡ sorted_onto other (pick t (insert other entry done) done) list
      go true a b = a ∙ ap (λ (k : List Entry). sorted_onto other k list) (insert_alike entry done l.0 d)
      go false a b = b

  pub sorted_alike : (list : List Entry) → All P list → sorted before list ≡ sorted other list
  sorted_alike list l = onto_alike [] list tt l
