-- `lines::decode` meets its contract. The loop's invariant is `Passed`: the array shows the values so far, and the line decodes to them and then to what is left.
-- Assumes nothing.
use mathlib.Core.Path.{◌≡◌, refl, sym, ap, subst, ◌∙◌}
use mathlib.Core.List.{List}
use Prim.Native.Nat.{ℕ, ◌*◌}
use native.Mathlib.Omega.{arith}
use Rattle.formula.specs.declared.Word.{Word}
use Rattle.refusals.specs.declared.Refusal.{Refusal}
use Rattle.std.specs.declared.result.Result.{Result}
use Rattle.lines.specs.Line.{DecodeRight, too_long}
use Rattle.lines.proofs.Decided.{decoded_of, decided}
use Rattle.lines.proofs.Passing.{cut, passed_none, passed_more, passed_faulty, passed_all}
use Rattle.refusals.specs.declared.Refusal.TheVariants.{FaultyLine}
use Rattle.std.specs.declared.result.Result.TheVariants.{Err}
use Rattle.std.specs.declared.option.Option.TheVariants.{None, Some}
use Rattle.lines.specs.Three.{value_in}
use Rattle.std.proofs.lemmas.Result.{err_from_is_err_and}
use Rattle.lines.proofs.decode.Goals as goal

-- the answer that is computed is right
is_right : (line : List ℕ) (answer : Result Word Refusal) → answer ≡ decoded_of line → DecodeRight line answer
is_right line answer e = subst (DecodeRight line) (sym e) (decided line)

pub returns-then-line-gt-LINE_LIMIT : goal.returns-then-line-gt-LINE_LIMIT
returns-then-line-gt-LINE_LIMIT c = (too_long (omega arith), refl)

pub loop-number-init : goal.loop-number-init
loop-number-init c =
    rw (
      c.into_iter-number-iterator.ensures.into_iter_gives,
      c.enumerate-number-items.ensures.source,
      c.enumerate-number-items.ensures.count,
      c.chunks.ensures.rest,
      c.chunks.ensures.size,
    )
    (passed_none c.args.line.now, refl)

pub returns-in_err-values : goal.returns-in_err-values
returns-in_err-values c =
    let refused = err_from_is_err_and c.from_residual.result c.from_residual.ensures.1 in
    let steps = c.in-Some.ensures.steps in
    let turned = cut steps.0.1 c.loop-number.invariant.1 in
    let none : value_in c.in-Some.bytes.now ≡ None = sym c.value_in.ensures ∙ c.in_err-values.ensures.ok_part in
    let given : c.ok_or.result ≡ Err (FaultyLine (3 * c.in-Some.number)) = c.ok_or.ensures.value ∙ rw c.in_err-values.ensures.ok_part refl in
    let same : c.in_err-values.field-0.0 ≡ FaultyLine (3 * c.in-Some.number) = cc (sym c.in_err-values.was ∙ given) in
    let faulty : c.from_residual.result ≡ Err (FaultyLine (3 * c.in-Some.number)) = refused.1 ∙ ap Err (refused.2 ∙ same) in
    is_right _ _ (faulty ∙ rw steps.1 (sym (passed_faulty c.loop-number.invariant.0 (omega arith) turned none)))

pub loop-number-preserved : goal.loop-number-preserved
loop-number-preserved c =
    let steps = c.in-Some.ensures.steps in
    let turned = cut steps.0.1 c.loop-number.invariant.1 in
    let some : value_in c.in-Some.bytes.now ≡ Some c.in_ok-values.field-0 = sym c.value_in.ensures ∙ c.in_ok-values.ensures.ok_part in
    (rw (steps.1, steps.2) (passed_more c.loop-number.invariant.0 (omega arith) turned _ some), steps.0.0 ∙ c.loop-number.invariant.1)

pub returns : goal.returns
returns c =
    let steps = c.in-None.ensures.steps in
    is_right _ _ (passed_all c.loop-number.invariant.0 (omega arith) (rw c.in-None.is at c.next.ensures.steps).0.1.0)
