-- What a chunk tells is determined by the input: the lines that end in a piece have one text, and it has one length.
-- Assumes nothing.
use mathlib.Core.Path.{◌≡◌, sym, ap, ◌∙◌}
use mathlib.Core.List.{List}
use Prim.Native.Nat.{ℕ}
use lib.ListN.{length}
use Rattle.line_printing.specs.Printed.{Once}
use Rattle.line_printing.specs.contracts.LabelSkeletonsTask.TheImpl as label_skeletons
use Rattle.line_printing.specs.contracts.LabelSkeletonsDeterministicTask.TheImpl.Laws as label_skeletons_laws
use Rattle.line_printing.specs.contracts.WordKeysTask.TheImpl as word_keys
use Rattle.line_printing.specs.contracts.WordKeysDeterministicTask.TheImpl.Laws as word_keys_laws
use Rattle.line_splitting.proofs.Determined.{prints_determined}
use Rattle.listing.specs.Running.{EndedText}

pub ended_text_determined : {Answers : List ℕ → List ℕ → Type 0} → Once Answers → {number first second : ℕ} {bytes piece : List ℕ} → EndedText Answers number bytes piece first
    → EndedText Answers number bytes piece second → first ≡ second
ended_text_determined once a b = a.count ∙ ap length (prints_determined once a.prints b.prints) ∙ sym b.count

-- with each task of the programs
pub word_keys_text_determined : {number first second : ℕ} {bytes piece : List ℕ} → EndedText (word_keys.ghosts).Answers number bytes piece first
    → EndedText (word_keys.ghosts).Answers number bytes piece second → first ≡ second
word_keys_text_determined a b = ended_text_determined word_keys_laws.once-law a b

pub label_skeletons_text_determined : {number first second : ℕ} {bytes piece : List ℕ} → EndedText (label_skeletons.ghosts).Answers number bytes piece first
    → EndedText (label_skeletons.ghosts).Answers number bytes piece second → first ≡ second
label_skeletons_text_determined a b = ended_text_determined label_skeletons_laws.once-law a b
