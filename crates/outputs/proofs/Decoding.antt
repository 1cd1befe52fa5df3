-- What a decoded line tells: its values, or the refusal 1 or 7.
-- Assumes nothing.
use mathlib.Core.Path.{◌≡◌, refl}
use mathlib.Core.List.{List}
use Prim.Native.Nat.{ℕ}
use lib.ListN.{take}
use Rattle.refusals.specs.Refusal.{number_of, place_of}
use Rattle.refusals.specs.Outcome.{Outcome, refuses}
use Rattle.refusals.specs.Output.{refused, Puts}
use Rattle.refusals.specs.declared.Refusal.{Refusal}
use Rattle.formula.specs.declared.Word.{Word}
use Rattle.std.specs.declared.result.Result.{Result}
use Rattle.std.specs.declared.result.Result.TheVariants.{Ok, Err}
use Rattle.refusals.proofs.Putting.{puts_writes}
use Rattle.lines.specs.Line.{Decodes, LineRefused, DecodeRight}
use Rattle.lines.proofs.Told.{told_refusal, told_word}
use Rattle.outputs.specs.Outputs.{DecodeWritten}

module _ (line : List ℕ) (decoded : Result Word Refusal) (right : DecodeRight line decoded) where
  pub refused_right : (refusal : Refusal) → decoded ≡ Err refusal → (before after : List ℕ) → after ≡ before
      → DecodeWritten line before after (refuses (number_of refusal) (place_of refusal))
  refused_right refusal e before after same = refused (told_refusal line decoded right refusal e) same

  pub written_right : (word : Word) → decoded ≡ Ok word → (before after : List ℕ) (answer : Outcome)
      → Puts (take word.count word.values) before after answer → DecodeWritten line before after answer
  written_right word e before after =
      puts_writes (LineRefused line) (Decodes line) (λ word. word) before after _ (told_word line decoded right word e) _ refl
