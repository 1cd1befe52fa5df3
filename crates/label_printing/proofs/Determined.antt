-- What is printed for a line of labels is one text only: a line is decoded or refused in one way, and its word is a label or is refused in one way.
-- Assumes nothing.
use mathlib.Core.Path.{◌≡◌, sym, subst, ◌∙◌}
use mathlib.Core.List.{List}
use Prim.Native.Nat.{ℕ}
use Rattle.refusals.specs.Outcome.{refuses}
use Rattle.lines.proofs.Determined.{decodes_alike, line_refused_alike, decoded_not_refused}
use Rattle.labelling.proofs.Determined.{label_refused_alike, label_not_refused}
use Rattle.answer_text.specs.Answer.{refused_text}
use Rattle.label_printing.specs.Output.{WordLabelText, is_label, no_label, LabelText, of_word, line_refused}

refused_text_once : (n p m q : ℕ) → refuses n p ≡ refuses m q → refused_text n p ≡ refused_text m q
refused_text_once n p m q e = cc

word_label_once : (word first second : List ℕ) → WordLabelText word first → WordLabelText word second → first ≡ second
word_label_once word first second (is_label l e) (is_label k f) = e ∙ sym f
word_label_once word first second (is_label {n = k} l e) (no_label {number = n} {place = p} r f) = absurd (label_not_refused word k n p l r)
word_label_once word first second (no_label {number = n} {place = p} r f) (is_label {n = k} l e) = absurd (label_not_refused word k n p l r)
word_label_once word first second (no_label {number = n} {place = p} r e) (no_label {number = m} {place = q} s f) =
    e ∙ refused_text_once n p m q (label_refused_alike word n p m q r s) ∙ sym f

pub label_text_once : (line first second : List ℕ) → LabelText line first → LabelText line second → first ≡ second
label_text_once line first second (of_word {word = v} d t) (of_word {word = w} e u) =
    word_label_once w first second (subst (λ (x : List ℕ). WordLabelText x first) (decodes_alike line v w d e) t) u
label_text_once line first second (of_word {word = v} d t) (line_refused {number = n} {place = p} l e) = absurd (decoded_not_refused line v n p d l)
label_text_once line first second (line_refused {number = n} {place = p} l e) (of_word {word = v} d t) = absurd (decoded_not_refused line v n p d l)
label_text_once line first second (line_refused {number = n} {place = p} l e) (line_refused {number = m} {place = q} k f) =
    e ∙ refused_text_once n p m q (line_refused_alike line n p m q l k) ∙ sym f
