-- `label_rules::first_confusable` meets its contract: what `find` answers of the places is the first of them.
-- Assumes nothing.
use Rattle.std.proofs.Common.{◌≡◌, true, false, rules, tests}
use Rattle.std.proofs.lemmas.Iterator.{first_from_Range}
use Rattle.label_rules.specs.Rules.{is_confusable}
use Rattle.label_rules.proofs.Sought.{first_place}
use Rattle.label_rules.proofs.first_confusable.Goals as goal

pub returns : goal.returns
returns c =
    let test = is_confusable c.args.word.now in
    first_place test _ c.find.result
    (first_from_Range _ _ _ c.find.result (λ k. test k ≡ true) (λ k. test k ≡ false) c.find.ensures.ran
    (λ x q k. search (rules, tests)) (λ x q k. search (rules, tests)))
