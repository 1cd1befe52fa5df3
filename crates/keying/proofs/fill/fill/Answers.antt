-- `keying::fill::fill` meets its contract: before each turn the window and the bytes are those of what the machine has kept of the values
-- read. The measure is what is left of the word. Assumes nothing.
use Prim.Native.Nat.{ℕ}
use mathlib.Core.Path.{◌≡◌, refl, ap, sym, subst, ◌∙◌}
use native.Mathlib.Omega.{arith}
use lib.ListN.{length, get_or}
use Rattle.formula.specs.Packed.{unread}
use Rattle.formula.specs.declared.Window.{Window}
use Rattle.refusals.specs.Outcome.{outcome_of}
use Rattle.std.specs.declared.result.Result.{Result}
use Rattle.refusals.specs.declared.Refusal.{Refusal}
use Rattle.transitions.specs.Tables.{entry_of, gain_of, next_by, gain_by}
use Rattle.transitions.proofs.Entered.{next_entry, next_gain}
use Rattle.recogniser.specs.Answer.{too_long}
use Rattle.recogniser.proofs.Walking.{walk_refused}
use Rattle.weighing.specs.Keys.{key_limit, zeros}
use Rattle.keying.specs.Filling.{Filled}
use Rattle.keying.specs.Filled.{KeyIfRead}
use Rattle.keying.proofs.Passing.{at_start, small, within, fits, next, stopped_short, key_short, stopped_end, key_whole, size_whole}
use Rattle.keying.proofs.fill.fill.Goals as goal

pub returns-then-word-gt-LIMIT : goal.returns-then-word-gt-LIMIT
returns-then-word-gt-LIMIT c =
    record { answers = too_long (omega (arith, c.if-word-gt-LIMIT.true)); key = c.requires; size = ap length c.requires }

pub loop-at-init : goal.loop-at-init
loop-at-init c =
    let word = c.args.word.now in
    subst (λ (w : Window). Filled word 0 0 w c.args.bytes.now) (sym c.unread-window.ensures)
    (subst (Filled word 0 0 unread) (sym c.requires) (at_start word))

pub next-entry-requires : goal.next-entry-requires
next-entry-requires c = let b = small c.loop-at.invariant in omega arith

pub answer_at-requires : goal.answer_at-requires
answer_at-requires c =
    let entered : c.next-entry.result ≡ entry_of c.loop-at.state (get_or c.args.word.now c.loop-at.at 0) =
    c.next-entry.ensures ∙ ap (next_by c.loop-at.state) c.rules_of-rules.ensures ∙ next_entry c.loop-at.state _ (small c.loop-at.invariant) in
    let word = c.args.word.now in
    stopped_short c.loop-at.invariant c.if-word-gt-LIMIT.false c.loop-at-test.true
    (walk_refused word c.loop-at.at c.loop-at.state c.loop-at.window.count c.loop-at.invariant.walked c.next-entry.result entered c.if-entry-eq-REFUSED.true)

pub returns-then-entry-eq-REFUSED : goal.returns-then-entry-eq-REFUSED
returns-then-entry-eq-REFUSED c =
    let entered : c.next-entry.result ≡ entry_of c.loop-at.state (get_or c.args.word.now c.loop-at.at 0) =
    c.next-entry.ensures ∙ ap (next_by c.loop-at.state) c.rules_of-rules.ensures ∙ next_entry c.loop-at.state _ (small c.loop-at.invariant) in
    let word = c.args.word.now in
    record {
      answers = c.answer_at.ensures;
      key =
          key_short c.loop-at.invariant c.if-word-gt-LIMIT.false c.loop-at-test.true
          (walk_refused word c.loop-at.at c.loop-at.state c.loop-at.window.count c.loop-at.invariant.walked c.next-entry.result entered c.if-entry-eq-REFUSED.true)
          (outcome_of c.answer_at.result);
      size = refl;
    }

pub gain-requires : goal.gain-requires
gain-requires c = let b = small c.loop-at.invariant in omega arith

pub advance-window-requires : goal.advance-window-requires
advance-window-requires c =
    let entered : c.next-entry.result ≡ entry_of c.loop-at.state (get_or c.args.word.now c.loop-at.at 0) =
    c.next-entry.ensures ∙ ap (next_by c.loop-at.state) c.rules_of-rules.ensures ∙ next_entry c.loop-at.state _ (small c.loop-at.invariant) in
    let gained : c.gain.result ≡ gain_of c.loop-at.state (get_or c.args.word.now c.loop-at.at 0) =
    c.gain.ensures ∙ ap (gain_by c.loop-at.state) c.rules_of-rules.ensures
    ∙ next_gain c.loop-at.state _ (small c.loop-at.invariant) (λ z. c.if-entry-eq-REFUSED.false (entered ∙ z)) in (
      fits c.loop-at.invariant c.next-entry.result entered c.if-entry-eq-REFUSED.false c.loop-at-test.true c.if-word-gt-LIMIT.false c.gain.result
          gained,
      c.medial_weights-medials.ensures,
    )

pub loop-at-preserved : goal.loop-at-preserved
loop-at-preserved c =
    let entered : c.next-entry.result ≡ entry_of c.loop-at.state (get_or c.args.word.now c.loop-at.at 0) =
    c.next-entry.ensures ∙ ap (next_by c.loop-at.state) c.rules_of-rules.ensures ∙ next_entry c.loop-at.state _ (small c.loop-at.invariant) in
    let gained : c.gain.result ≡ gain_of c.loop-at.state (get_or c.args.word.now c.loop-at.at 0) =
    c.gain.ensures ∙ ap (gain_by c.loop-at.state) c.rules_of-rules.ensures
    ∙ next_gain c.loop-at.state _ (small c.loop-at.invariant) (λ z. c.if-entry-eq-REFUSED.false (entered ∙ z)) in
    rw c.from-state.ensures
    (next c.loop-at.invariant c.next-entry.result entered c.if-entry-eq-REFUSED.false c.loop-at-test.true c.if-word-gt-LIMIT.false c.gain.result
    gained c.advance-window.result c.advance-window.new.bytes c.advance-window.ensures)

pub answer_at-answer-requires : goal.answer_at-answer-requires
answer_at-answer-requires c =
    let end : c.loop-at.at ≡ length c.args.word.now = omega arith in
    rw end at (stopped_end c.loop-at.invariant c.if-word-gt-LIMIT.false (omega arith) c.loop-at-test.false)

pub put_last-requires : goal.put_last-requires
put_last-requires c =
    let b = within c.loop-at.invariant in
    (omega arith, c.medial_weights-medials.ensures)

pub returns-in-Ok : goal.returns-in-Ok
returns-in-Ok c =
    let word = c.args.word.now in
    record {
      answers = c.answer_at-answer.ensures;
      key =
          subst (λ (k : Result ℕ Refusal). KeyIfRead word (outcome_of k) c.put_last.new.bytes) (sym c.in-Ok.is)
          (λ row g. c.put_last.ensures
          ∙ key_whole c.loop-at.invariant c.if-word-gt-LIMIT.false (omega arith) c.loop-at-test.false row g);
      size =
          ap length c.put_last.ensures ∙ size_whole c.loop-at.invariant c.if-word-gt-LIMIT.false (omega arith) c.loop-at-test.false;
    }

pub returns : goal.returns
returns c =
    let word = c.args.word.now in
    record {
      answers = c.answer_at-answer.ensures;
      key = subst (λ (k : Result ℕ Refusal). KeyIfRead word (outcome_of k) (zeros key_limit)) (sym c.in_default.is) refl;
      size = refl;
    }
