-- `outputs::put_record` meets its contract: the record is written out where there is one and room for it.
-- Assumes nothing.
use mathlib.Core.Path.{refl, ap}
use mathlib.Core.List.{◌++◌}
use lib.ListN.{drop}
use borrow.Author.Rules.{rules}
use Rattle.formula.specs.Limits.{record_size}
use Rattle.outputs.specs.Outputs.{no_syllable}
use Rattle.outputs.proofs.Recording.{refused_right, short_right, written_right}
use Rattle.outputs.proofs.put_record.Goals as goal

pub returns-in_err-bytes : goal.returns-in_err-bytes
returns-in_err-bytes c = search (rules, refused_right) depth 14

pub returns-in_default : goal.returns-in_default
returns-in_default c = no_syllable (rw c.in_default.is at c.in_ok-bytes.ensures) refl

pub returns-then-output-lt-RECORD : goal.returns-then-output-lt-RECORD
returns-then-output-lt-RECORD c = short_right _ _ _ _ (rw c.in-Some.is at c.in_ok-bytes.ensures).1 c.if-output-lt-RECORD.true

pub returns : goal.returns
returns c =
    written_right _ _ _ _ (rw c.in-Some.is at c.in_ok-bytes.ensures).1 c.if-output-lt-RECORD.false _
    (ap (λ bytes. bytes ++ drop record_size c.args.output.now) c.copy_from_slice.ensures.after)
