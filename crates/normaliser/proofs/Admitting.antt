-- A word that is too long is refused, and so is one in which a first foreign value stands.
-- Assumes nothing.
use mathlib.Core.List.{List}
use Prim.Native.Nat.{ℕ, ◌≤◌, ◌<◌}
use native.Mathlib.Omega.{arith}
use lib.ListN.{length}
use Rattle.formula.specs.Limits.{limit}
use Rattle.refusals.specs.Outcome.{refuses}
use Rattle.recogniser.specs.Concluded.{AdmittedTo}
use Rattle.normaliser.specs.Admission.{Unadmitted, AdmitAnswers, too_long, foreign}

pub refuses_long : (word : List ℕ) → limit < length word → Unadmitted word 1 limit
refuses_long word h = too_long h

pub refuses_foreign : (word : List ℕ) (at : ℕ) → AdmittedTo word 0 at → length word ≤ limit → at < length word → AdmitAnswers word (refuses 2 at)
refuses_foreign word at f short inside =
    foreign (record { short = short; within = inside; foreign = f.foreign inside; before = λ k i. f.before k (omega arith) i })
