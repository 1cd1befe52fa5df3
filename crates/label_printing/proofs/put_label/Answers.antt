-- `label_printing::put_label` meets its contract: what is put is the refusal of the decoding, or what the values of the line are answered.
-- Assumes nothing.
use mathlib.Core.Path.{refl}
use Rattle.lines.proofs.Told.{told_refusal, told_word}
use Rattle.label_printing.specs.Output.{of_word, line_refused}
use Rattle.label_printing.proofs.put_label.Goals as goal

pub returns-in-Err : goal.returns-in-Err
returns-in-Err c =
    record {
      text = _;
      right = line_refused (told_refusal _ _ c.decode.ensures _ c.in-Err.is) refl;
      put = c.put_refused.ensures;
    }

pub returns-in-Ok : goal.returns-in-Ok
returns-in-Ok c =
    let word = told_word _ _ c.decode.ensures _ c.in-Ok.is in
    record { text = _; right = of_word word c.put_word_label.ensures.right; put = c.put_word_label.ensures.put }
