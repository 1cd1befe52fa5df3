-- `normaliser::admission::admit` meets its contract: the first foreign value refuses the word, and where there is none it is admitted.
-- Assumes nothing.
use Rattle.std.proofs.Common.{refl, arith}
use Rattle.normaliser.specs.Admission.{too_long}
use Rattle.normaliser.proofs.Admitting.{refuses_foreign}
use Rattle.normaliser.proofs.admission.admit.Goals as goal

pub returns-then-word-gt-LIMIT : goal.returns-then-word-gt-LIMIT
returns-then-word-gt-LIMIT c = too_long c.if-word-gt-LIMIT.true

pub returns-in-Some : goal.returns-in-Some
returns-in-Some c = let f = c.in-Some.ensures in refuses_foreign c.args.word.now c.in-Some.foreign f.1 c.if-word-gt-LIMIT.false f.0

pub returns : goal.returns
returns c =
    let f = c.in_default.ensures in (record { short = c.if-word-gt-LIMIT.false; admitted = λ k h. f.before k (omega arith) h }, refl)
