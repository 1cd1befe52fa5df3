-- A branch of the code is the case of a definition by `pick` that its test chooses: what `search` goes by.
-- Assumes nothing.
use mathlib.Core.Path.{◌≡◌, sym, ◌∙◌}
use mathlib.Core.Bool.{Bool, true, false, not}
use Prim.Native.Nat.{ℕ, ◌≤◌, ◌<◌}
use lib.Dec.{eqb, leb}
use borrow.Author.Tests.{eq-eqb, ne_eqb, le-leb, lt-leb, not-true, not-false}
use Rattle.letters.specs.Choice.{pick}
use Rattle.letters.proofs.Picks.{pick_yes, pick_no}

-- a test of two numbers
pub when_equal : {A : Type 0} (a b : ℕ) (x m n : A) → a ≡ b → x ≡ m → x ≡ pick (eqb a b) m n
when_equal a b x m n t e = pick_yes (eqb a b) x m n (eq-eqb a b t) e

pub when_unequal : {A : Type 0} (a b : ℕ) (x m n : A) → (a ≡ b → ⊥) → x ≡ n → x ≡ pick (eqb a b) m n
when_unequal a b x m n t e = pick_no (eqb a b) x m n (ne_eqb a b t) e

pub when_at_most : {A : Type 0} (a b : ℕ) (x m n : A) → a ≤ b → x ≡ m → x ≡ pick (leb a b) m n
when_at_most a b x m n t e = pick_yes (leb a b) x m n (le-leb a b t) e

pub when_above : {A : Type 0} (a b : ℕ) (x m n : A) → b < a → x ≡ n → x ≡ pick (leb a b) m n
when_above a b x m n t e = pick_no (leb a b) x m n (lt-leb a b t) e

-- a test that a call answered
pub when_yes : {A : Type 0} (r b : Bool) (x m n : A) → r ≡ b → r ≡ true → x ≡ m → x ≡ pick b m n
when_yes r b x m n c t e = pick_yes b x m n (sym c ∙ t) e

pub when_no : {A : Type 0} (r b : Bool) (x m n : A) → r ≡ b → r ≡ false → x ≡ n → x ≡ pick b m n
when_no r b x m n c t e = pick_no b x m n (sym c ∙ t) e

pub unless_yes : {A : Type 0} (r b : Bool) (x m n : A) → r ≡ b → not r ≡ false → x ≡ m → x ≡ pick b m n
unless_yes r b x m n c t e = pick_yes b x m n (sym c ∙ not-false r t) e

pub unless_no : {A : Type 0} (r b : Bool) (x m n : A) → r ≡ b → not r ≡ true → x ≡ n → x ≡ pick b m n
unless_no r b x m n c t e = pick_no b x m n (sym c ∙ not-true r t) e

pub ruleset branches = (when_yes, when_no, unless_yes, unless_no, when_equal, when_unequal, when_at_most, when_above)
