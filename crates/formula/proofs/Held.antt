-- The front of a held word's array is the list that it holds.
-- Assumes nothing.
use mathlib.Core.Path.{◌≡◌, refl, ap, sym, subst, ◌∙◌}
use mathlib.Core.List.{List}
use Prim.Native.Nat.{ℕ, ◌-◌, ◌≤◌}
use native.Mathlib.Omega.{arith}
use lib.ListN.{length, take, replicate, length-append}
use lib.Seq.{take_at}
use Rattle.formula.specs.Limits.{limit}
use Rattle.formula.specs.Held.{word_of}
use Rattle.formula.specs.declared.Word.{Word}

pub held_front : (held : Word) (values : List ℕ) → held ≡ word_of values → take held.count held.values ≡ values
held_front held values e =
    ap (λ (w : Word). take w.count w.values) e ∙ take_at values (replicate (limit - length values) 0) (length values) refl

pub held_fits : (held : Word) (values : List ℕ) → held ≡ word_of values → held.count ≤ length held.values
held_fits held values e = subst (λ (w : Word). w.count ≤ length w.values) (sym e) (simp length-append (omega arith))

pub held_length : (held : Word) (values : List ℕ) → held ≡ word_of values → held.count ≡ length (take held.count held.values)
held_length held values e = ap (λ (w : Word). w.count) e ∙ sym (ap length (held_front held values e))
