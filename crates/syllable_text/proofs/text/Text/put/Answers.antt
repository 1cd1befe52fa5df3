-- `syllable_text::text::Text::put` meets its contract: the values of the text are copied.
-- Assumes nothing.
use mathlib.Core.Path.{◌≡◌, ap, sym, ◌∙◌}
use mathlib.Core.List.{[], append-nil}
use Prim.Native.Nat.{ℕ}
use native.Mathlib.Nat.{add-zero}
use native.Mathlib.Omega.{arith}
use lib.ListN.{length, take, take-append-drop}
use lib.Seq.{length-take-le, sets, sets-eq}
use Rattle.syllable_text.proofs.text.Text.put.Goals as goal

pub returns-then-count-eq0 : goal.returns-then-count-eq0
returns-then-count-eq0 c =
    let none : c.args.self ≡ [] = sym c.self.view_is ∙ ap (λ (n : ℕ). take n c.self.inside.values) c.if-count-eq0.true in
    rw none (record { put = rw (add-zero, append-nil) (sym (take-append-drop c.args.at c.args.output.now)); behind_it = omega arith })

pub returns : goal.returns
returns c =
    let values = c.args.self in
    let long : length values ≡ c.self.inside.count =
    ap length (sym c.self.view_is) ∙ length-take-le c.self.inside.count c.self.inside.values (omega (arith, c.self.invariant)) in
    record {
      put = c.put_all.ensures ∙ ap (sets c.args.output.now c.args.at) c.self.view_is ∙ sets-eq values c.args.output.now c.args.at c.requires;
      behind_it = omega (arith, long);
    }
