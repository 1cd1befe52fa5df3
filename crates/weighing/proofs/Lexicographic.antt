-- An order of lists by their elements is an order where that of the elements is one: the first elements that differ decide, and a list that
-- begins another decides by its length. Assumes nothing.
use mathlib.Core.Path.{◌≡◌, refl, ap, sym, ◌∙◌}
use mathlib.Core.List.{List, [], ◌∷◌, ◌++◌}
use mathlib.Core.Logic.{◌⊎◌, inl, inr}
use Prim.Native.Nat.{ℕ}
use native.Mathlib.Omega.{arith}
use lib.ListN.{length}
use Rattle.weighing.specs.Order.{in_turn, lexicographic}
use Rattle.std.specs.declared.cmp.Ordering.{Ordering}
use Rattle.std.specs.declared.cmp.Ordering.TheVariants.{Less, Equal, Greater}

abbrev pub opposite : Ordering → Ordering
opposite Less = Greater
opposite Equal = Equal
opposite Greater = Less

-- a strict total order, by a function that answers which of the three holds
pub record IsOrder (A : Type 0) (f : A → A → Ordering) : Type 0 where
  pub alike : (a : A) → f a a ≡ Equal
  pub identical : (a b : A) → f a b ≡ Equal → a ≡ b
  pub turned : (a b : A) → f b a ≡ opposite (f a b)
  pub transitive : (a b c : A) → f a b ≡ Less → f b c ≡ Less → f a c ≡ Less

pub less_not_equal : {A : Type 0} → Less ≡ Equal → A
less_not_equal e = let z : ◌≡◌ {A = ℕ} 0 1 = cc in let n : ⊥ = omega arith in absurd n

pub greater_not_equal : {A : Type 0} → Greater ≡ Equal → A
greater_not_equal e = let z : ◌≡◌ {A = ℕ} 0 1 = cc in let n : ⊥ = omega arith in absurd n

pub less_not_greater : {A : Type 0} → Less ≡ Greater → A
less_not_greater e = let z : ◌≡◌ {A = ℕ} 0 1 = cc in let n : ⊥ = omega arith in absurd n

-- how two comparisons in turn come out
pub in_turn_equal : (o p : Ordering) → in_turn o p ≡ Equal → (o ≡ Equal) × (p ≡ Equal)
in_turn_equal Less p e = less_not_equal e
in_turn_equal Equal p e = (refl, e)
in_turn_equal Greater p e = greater_not_equal e

pub in_turn_less : (o p : Ordering) → in_turn o p ≡ Less → (o ≡ Less) ⊎ ((o ≡ Equal) × (p ≡ Less))
in_turn_less Less p e = inl refl
in_turn_less Equal p e = inr (refl, e)
in_turn_less Greater p e = less_not_greater (sym e)

pub in_turn_turned : (o p : Ordering) → in_turn (opposite o) (opposite p) ≡ opposite (in_turn o p)
in_turn_turned Less p = refl
in_turn_turned Equal p = refl
in_turn_turned Greater p = refl

pub in_turn_again : (o p q : Ordering) → in_turn (in_turn o p) q ≡ in_turn o (in_turn p q)
in_turn_again Less p q = refl
in_turn_again Equal p q = refl
in_turn_again Greater p q = refl

-- transitive steps in two comparisons in turn
pub in_turn_transitive : {A B : Type 0} (f : A → A → Ordering) (g : B → B → Ordering) → IsOrder A f → (a b c : A) (x y z : B)
    → (g x y ≡ Less → g y z ≡ Less → g x z ≡ Less)
    → in_turn (f a b) (g x y) ≡ Less → in_turn (f b c) (g y z) ≡ Less → in_turn (f a c) (g x z) ≡ Less
in_turn_transitive {A = A} f g o a b c x y z next p q = go (in_turn_less (f a b) (g x y) p) (in_turn_less (f b c) (g y z) q)
  where
    go : (f a b ≡ Less) ⊎ ((f a b ≡ Equal) × (g x y ≡ Less)) → (f b c ≡ Less) ⊎ ((f b c ≡ Equal) × (g y z ≡ Less))
        → in_turn (f a c) (g x z) ≡ Less
    go (inl l) (inl m) = rw (o.transitive a b c l m)
    go (inl l) (inr m) = rw (ap (f a) (sym (o.identical b c m.0)) ∙ l)
    go (inr l) (inl m) = rw (ap (λ (u : A). f u c) (o.identical a b l.0) ∙ m)
    go (inr l) (inr m) = rw (ap (λ (u : A). f u c) (o.identical a b l.0) ∙ m.0) (next l.1 m.1)

module _ {A : Type 0} (f : A → A → Ordering) (o : IsOrder A f) where
  alike : (xs : List A) → lexicographic f xs xs ≡ Equal
  alike [] = refl
  alike (x ∷ xs) = rw (o.alike x) (alike xs)

  identical : (xs ys : List A) → lexicographic f xs ys ≡ Equal → xs ≡ ys
  identical [] [] e = refl
  identical [] (y ∷ ys) e = less_not_equal e
  identical (x ∷ xs) [] e = greater_not_equal e
  identical (x ∷ xs) (y ∷ ys) e =
      let p = in_turn_equal (f x y) (lexicographic f xs ys) e in
      cc (o.identical x y p.0, identical xs ys p.1)

  turned : (xs ys : List A) → lexicographic f ys xs ≡ opposite (lexicographic f xs ys)
  turned [] [] = refl
  turned [] (y ∷ ys) = refl
  turned (x ∷ xs) [] = refl
  turned (x ∷ xs) (y ∷ ys) = rw (o.turned x y, turned xs ys) (in_turn_turned (f x y) (lexicographic f xs ys))

  transitive : (xs ys zs : List A) → lexicographic f xs ys ≡ Less → lexicographic f ys zs ≡ Less → lexicographic f xs zs ≡ Less
  transitive [] [] zs p q = less_not_equal (sym p)
  transitive [] (y ∷ ys) [] p q = less_not_greater (sym q)
  transitive [] (y ∷ ys) (z ∷ zs) p q = refl
  transitive (x ∷ xs) [] zs p q = less_not_greater (sym p)
  transitive (x ∷ xs) (y ∷ ys) [] p q = less_not_greater (sym q)
  transitive (x ∷ xs) (y ∷ ys) (z ∷ zs) p q =
      in_turn_transitive f (lexicographic f) o x y z xs ys zs (transitive xs ys zs) p q

  pub lexicographic_is_order : IsOrder (List A) (lexicographic f)
  lexicographic_is_order =
      record {
        alike = alike;
        identical = identical;
        turned = turned;
        transitive = transitive;
      }

-- two orders in turn are an order of the pairs, here of what two functions take from a value
pub in_turn_is_order : {A B C : Type 0} (f : A → A → Ordering) (g : B → B → Ordering) (a : C → A) (b : C → B) → IsOrder A f → IsOrder B g
    → ((x y : C) → a x ≡ a y → b x ≡ b y → x ≡ y) → IsOrder C (λ x y. in_turn (f (a x) (a y)) (g (b x) (b y)))
in_turn_is_order f g a b o p pair =
    record {
      alike = λ x. rw (o.alike (a x)) (p.alike (b x));
      identical =
          λ x y e. let q = in_turn_equal (f (a x) (a y)) (g (b x) (b y)) e in
          pair x y (o.identical (a x) (a y) q.0) (p.identical (b x) (b y) q.1);
      turned = λ x y. rw (o.turned (a x) (a y), p.turned (b x) (b y)) (in_turn_turned (f (a x) (a y)) (g (b x) (b y)));
      transitive = λ x y z. in_turn_transitive f g o (a x) (a y) (a z) (b x) (b y) (b z) (p.transitive (b x) (b y) (b z));
    }

-- lists of one length before others decide first
pub over_append : {A : Type 0} (f : A → A → Ordering) (xs ys us vs : List A) → length xs ≡ length ys
    → lexicographic f (xs ++ us) (ys ++ vs) ≡ in_turn (lexicographic f xs ys) (lexicographic f us vs)
over_append f [] [] us vs e = refl
over_append f [] (y ∷ ys) us vs e = let z : ⊥ = omega arith in absurd z
over_append f (x ∷ xs) [] us vs e = let z : ⊥ = omega arith in absurd z
over_append f (x ∷ xs) (y ∷ ys) us vs e =
    rw (over_append f xs ys us vs (omega arith)) (sym (in_turn_again (f x y) (lexicographic f xs ys) (lexicographic f us vs)))
