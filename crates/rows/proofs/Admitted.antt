-- What is read is admitted, since a foreign value stops every reading.
-- Assumes nothing.
use mathlib.Core.Path.{◌≡◌, refl, ap, sym, ◌∙◌}
use mathlib.Core.Bool.{Bool, true, false}
use mathlib.Core.List.{List, [], ◌∷◌}
use mathlib.Core.Option.{Option, none, some, none-ne-some}
use Prim.Native.Nat.{ℕ}
use lib.Dec.{T}
use Rattle.letters.specs.Letters.{is_admitted}
use Rattle.letters.specs.declared.kind.Kind.{Kind}
use Rattle.letters.proofs.Counted.{unadmitted_foreign}
use Rattle.formula.proofs.Lists.{both, every}
use Rattle.formula.specs.Row.{Row}
use Rattle.rows.specs.Machine.{act, step, and_then, run}

step_admitted : (x : ℕ) (a b : Row) → step a x ≡ some b → T (is_admitted x)
step_admitted x a b e = go (is_admitted x) refl
  where
    go : (t : Bool) → is_admitted x ≡ t → T t
    go true d = tt
    go false d = absurd (none-ne-some b (sym (ap (λ (k : Kind). act k x a) (unadmitted_foreign x d)) ∙ e))

pub run_admitted : (w : List ℕ) (a b : Row) → run w a ≡ some b → T (every is_admitted w)
run_admitted [] a b e = tt
run_admitted (x ∷ w) a b e = go (step a x) refl e (run_admitted w)
  where
    go : (o : Option Row) → step a x ≡ o → and_then o (run w) ≡ some b → ((d c : Row) → run w d ≡ some c → T (every is_admitted w)) → T (every is_admitted (x ∷ w))
    go none d f rest = absurd (none-ne-some b f)
    go (some c) d f rest = both (is_admitted x) (every is_admitted w) (step_admitted x a c d) (rest c b f)
