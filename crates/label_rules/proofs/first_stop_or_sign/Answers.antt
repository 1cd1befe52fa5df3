-- `label_rules::first_stop_or_sign` meets its contract: what `position` answers of the values is the place of the first.
-- Assumes nothing.
use Rattle.std.proofs.Common.{◌≡◌, ℕ, Bool, true, false, ◌||◌, rules, tests}
use Rattle.std.proofs.lemmas.Iterator.{IsFirst-from_position, YieldsList-from_slice}
use Rattle.letters.specs.Letters.{is_stop, is_sign}
use Rattle.label_rules.specs.Rules.{is_stop_or_sign}
use Rattle.label_rules.proofs.Sought.{first_value}
use Rattle.label_rules.proofs.first_stop_or_sign.Goals as goal

abbrev stop_or_sign : ℕ → Bool
stop_or_sign x = is_stop x || is_sign x

pub returns : goal.returns
unfolding is_stop_or_sign
returns c =
    let word = c.args.word.now in
    first_value stop_or_sign word c.position.result
    (IsFirst-from_position _ _ c.position.result (λ x. stop_or_sign x ≡ true) (λ x. stop_or_sign x ≡ false) c.position.ensures.ran
    (YieldsList-from_slice word cc) (λ x q k. search (rules, tests)) (λ x q k. search (rules, tests)))
