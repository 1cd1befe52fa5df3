-- `label_rules::answer_by_rules` meets its contract: the tests stand in the order of the definition.
-- Assumes nothing.
use Rattle.std.proofs.Common.{◌≡◌, ◌<◌, ℕ, sym, ap, ◌∙◌, subst, length}
use Rattle.refusals.specs.Outcome.{refuses}
use Rattle.label_rules.specs.Rules.{first_stop_or_sign, first_confusable}
use Rattle.label_rules.proofs.Laws.{by_sign, by_digit, by_count, by_none}
use Rattle.label_rules.proofs.answer_by_rules.Goals as goal

pub returns-in-Some : goal.returns-in-Some
returns-in-Some c =
    let s = c.args in
    let h : (c.in-Some.sign < length s.word.now) × (c.in-Some.sign ≡ first_stop_or_sign s.word.now) = c.in-Some.ensures in
    ap (refuses 21) h.1 ∙ sym (by_sign s.word.now s.syllables (subst (λ (p : ℕ). p < length s.word.now) h.1 h.0))

pub returns-in-Some-first_confusable : goal.returns-in-Some-first_confusable
returns-in-Some-first_confusable c =
    let s = c.args in
    let digit = c.in-Some-first_confusable.digit in
    let h : (digit < length s.word.now) × (digit ≡ first_confusable s.word.now) = c.in-Some-first_confusable.ensures in
    ap (refuses 22) h.1 ∙ sym (by_digit s.word.now s.syllables c.in_default.ensures (subst (λ (p : ℕ). p < length s.word.now) h.1 h.0))

pub returns-then-syllables-gt-LABEL_LIMIT : goal.returns-then-syllables-gt-LABEL_LIMIT
returns-then-syllables-gt-LABEL_LIMIT c =
    let s = c.args in
    sym (by_count s.word.now s.syllables c.in_default.ensures c.in_default-first_confusable.ensures c.if-syllables-gt-LABEL_LIMIT.true)

pub returns : goal.returns
returns c =
    let s = c.args in
    sym (by_none s.word.now s.syllables c.in_default.ensures c.in_default-first_confusable.ensures c.if-syllables-gt-LABEL_LIMIT.false)
