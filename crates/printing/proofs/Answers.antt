-- What a line is answered goes by its decoding, and the first bytes of a line that is too long are answered as the line.
-- Assumes nothing.
use mathlib.Core.Path.{◌≡◌}
use mathlib.Core.List.{List}
use Prim.Native.Nat.{ℕ, ◌<◌}
use lib.ListN.{take}
use Rattle.formula.specs.Limits.{line_limit}
use Rattle.refusals.specs.declared.Refusal.{Refusal}
use Rattle.std.specs.declared.result.Result.{Result}
use Rattle.std.specs.declared.result.Result.TheVariants.{Ok, Err}
use Rattle.recogniser.proofs.Counted.{count_limit}
use Rattle.storage.specs.Stored.{stored_form}
use Rattle.lines.specs.Line.{Decodes, DecodeRight}
use Rattle.formula.specs.declared.Word.{Word}
use Rattle.lines.proofs.Kept.{decodes_kept, refused_kept}
use Rattle.lines.proofs.Told.{told_refusal}
use Rattle.collation.specs.Keyed.{KeyRight}
use Rattle.collation.specs.declared.key.Key.{Key}
use Rattle.memory.specs.Put.{PutWithin}
use Rattle.answer_text.specs.Answer.{answer_text_limit, AnswerPut}
use Rattle.printing.specs.Output.{answer_text, Printable, KeyOfLine, of_values, line_refused, LineRight, WordText}

-- no word has more syllables than values
key_printable : (word : List ℕ) (answer : Result Key Refusal) → KeyRight word answer → Printable answer
key_printable word (Ok key) right = count_limit (stored_form word) key.count right.stores.reads
key_printable word (Err refusal) right = tt

-- what decoding tells of a line that is refused
pub refused_right : {line : List ℕ} {decoded : Result Word Refusal} → DecodeRight line decoded → (refusal : Refusal) → decoded ≡ Err refusal
    → (answer : Result Key Refusal) → answer ≡ Err refusal → LineRight line answer
refused_right {line} {decoded} right refusal e answer f =
    record { right = line_refused (told_refusal line decoded right refusal e) f; printable = rw f tt }

-- and of one that has values
pub values_right : {line word : List ℕ} {answer : Result Key Refusal} → Decodes line word → KeyRight word answer → LineRight line answer
values_right {line} {word} {answer} d k = record { right = of_values d k; printable = key_printable word answer k }

-- what is put for a line by its answer
pub word_put : {line before text after : List ℕ} {at end : ℕ} {answer : Result Key Refusal} → LineRight line answer → text ≡ answer_text answer
    → PutWithin answer_text_limit before at text after end → AnswerPut (WordText line) before at after end
word_put {line} {before} {text} {after} {at} {end} {answer} right is put =
    record { text = text; right = record { answer = answer; right = right; is = is }; put = put }

-- the first bytes of a line, more than a line may have, are answered as the line
module _ (most : ℕ) (over : line_limit < most) (line : List ℕ) where
  key_kept : {answer : Result Key Refusal} → KeyOfLine (take most line) answer → KeyOfLine line answer
  key_kept {answer} (of_values d k) = of_values (decodes_kept most over line d) k
  key_kept {answer} (line_refused r e) = line_refused (refused_kept most over line r) e

  pub word_kept : {text : List ℕ} → WordText (take most line) text → WordText line text
  word_kept {text} w = record {
    answer = w.answer;
    right = record { right = key_kept w.right.right; printable = w.right.printable };
    is = w.is;
  }
