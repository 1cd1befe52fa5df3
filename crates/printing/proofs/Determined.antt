-- What is printed for a line of words is one text only: a line is decoded or refused in one way, and its word has one key.
-- Assumes nothing.
use mathlib.Core.Path.{◌≡◌, sym, ap, subst, ◌∙◌}
use mathlib.Core.List.{List}
use Prim.Native.Nat.{ℕ}
use Rattle.refusals.specs.Refusal.{number_of, place_of}
use Rattle.refusals.specs.declared.Refusal.{Refusal}
use Rattle.refusals.proofs.Laws.{number_place_injective}
use Rattle.std.specs.declared.result.Result.{Result}
use Rattle.std.specs.declared.result.Result.TheVariants.{Err}
use Rattle.lines.proofs.Determined.{decodes_alike, line_refused_alike, decoded_not_refused}
use Rattle.collation.specs.Keyed.{KeyRight}
use Rattle.collation.specs.declared.key.Key.{Key}
use Rattle.collation.proofs.Determined.{key_determined}
use Rattle.printing.specs.Output.{answer_text, KeyOfLine, of_values, line_refused, WordText}

key_once : (line : List ℕ) (a b : Result Key Refusal) → KeyOfLine line a → KeyOfLine line b → a ≡ b
key_once line a b (of_values {word = v} d r) (of_values {word = w} e s) =
    key_determined w a b (subst (λ (u : List ℕ). KeyRight u a) (decodes_alike line v w d e) r) s
key_once line a b (of_values {word = v} d r) (line_refused {refusal = p} l f) = absurd (decoded_not_refused line v (number_of p) (place_of p) d l)
key_once line a b (line_refused {refusal = p} l f) (of_values {word = v} d r) = absurd (decoded_not_refused line v (number_of p) (place_of p) d l)
key_once line a b (line_refused {refusal = p} l f) (line_refused {refusal = q} k g) =
    let same = line_refused_alike line (number_of p) (place_of p) (number_of q) (place_of q) l k in
    f ∙ ap Err (number_place_injective p q (cc) (cc)) ∙ sym g

pub word_text_once : (line first second : List ℕ) → WordText line first → WordText line second → first ≡ second
word_text_once line first second a b =
    a.is ∙ ap answer_text (key_once line a.answer b.answer a.right.right b.right.right) ∙ sym b.is
