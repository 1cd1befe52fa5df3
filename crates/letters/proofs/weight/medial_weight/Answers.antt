-- `letters::weight::medial_weight` meets its contract: a set of sixteen and more is no group's, and the table's rule is a test at each of its sixteen entries, which antt computes.
-- Assumes nothing.
use mathlib.Core.Path.{◌≡◌, refl, ap, ◌∙◌}
use mathlib.Core.Bool.{Bool, true, false, not}
use mathlib.Core.List.{List, [], ◌∷◌}
use Prim.Native.Nat.{ℕ}
use lib.Dec.{T, eqb, eqb→eq}
use lib.ListN.{get_or}
use borrow.Author.Rules.{rules}
use Rattle.std.specs.Bool.{then_some}
use Rattle.letters.specs.Choice.{pick}
use Rattle.letters.specs.Weights.{medial_set_weight}
use Rattle.std.specs.declared.option.Option.{Option}
use Rattle.std.specs.declared.option.Option.TheVariants.{None, Some}
use Rattle.letters.proofs.Picks.{pick_no, from_eqb}
use Rattle.letters.proofs.Table.{at}
use Rattle.letters.proofs.weight.medial_weight.Goals as goal

table : List ℕ
table = 0 ∷ 1 ∷ 2 ∷ 255 ∷ 3 ∷ 5 ∷ 6 ∷ 255 ∷ 4 ∷ 7 ∷ 8 ∷ 255 ∷ 9 ∷ 10 ∷ 11 ∷ 255 ∷ []

-- what an entry says
entry : ℕ → Option ℕ
entry x = then_some (not (eqb x 255)) x

same : Option ℕ → Option ℕ → Bool
same (Some a) (Some b) = eqb a b
same (Some a) None = false
same None (Some b) = false
same None None = true

same_equal : (v w : Option ℕ) → T (same v w) → v ≡ w
unfolding same
same_equal (Some a) (Some b) t = ap Some (eqb→eq a b t)
same_equal (Some a) None t = absurd t
same_equal None (Some b) t = absurd t
same_equal None None t = refl

right : ℕ → ℕ → Bool
right k x = same (entry x) (medial_set_weight k)

pub returns-then-set-ge16 : goal.returns-then-set-ge16
returns-then-set-ge16 c = search (rules, pick_no, from_eqb) depth 16

pub returns : goal.returns
unfolding table entry same right pick
returns c =
    let set = c.args.set in
    c.then_some.ensures ∙ ap (λ (k : ℕ). entry (get_or table k 0)) c.from.ensures
    ∙ same_equal (entry (get_or table set 0)) (medial_set_weight set) (at right table tt set (search rules))
