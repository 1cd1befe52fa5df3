-- What is printed for lines is met by one text only, where a line has one answer, as with each task of the programs.
-- Assumes nothing.
use mathlib.Core.Path.{◌≡◌, refl}
use mathlib.Core.List.{List}
use Prim.Native.Nat.{ℕ}
use Rattle.line_printing.specs.Printed.{Once}
use Rattle.line_printing.specs.contracts.LabelSkeletonsTask.TheImpl as label_skeletons
use Rattle.line_printing.specs.contracts.LabelSkeletonsDeterministicTask.TheImpl.Laws as label_skeletons_laws
use Rattle.line_printing.specs.contracts.WordKeysTask.TheImpl as word_keys
use Rattle.line_printing.specs.contracts.WordKeysDeterministicTask.TheImpl.Laws as word_keys_laws
use Rattle.line_splitting.specs.Taken.{Prints, none, more}

-- what is printed for lines is one text
pub prints_determined : {Answers : List ℕ → List ℕ → Type 0} → Once Answers → {number : ℕ} {lines : List (List ℕ)} {first second : List ℕ} → Prints Answers number lines first → Prints Answers number lines second
    → first ≡ second
prints_determined once none none = refl
prints_determined once (more {line = line} {rest = rest} text right p) (more {rest = other} also wrong q) =
    let one : text ≡ also = once line text also right wrong in
    let behind : rest ≡ other = prints_determined once p q in
    rw (one, behind)

-- and so it is with each task of the programs
pub word_keys_prints_determined : {number : ℕ} {lines : List (List ℕ)} {first second : List ℕ} → Prints (word_keys.ghosts).Answers number lines first
    → Prints (word_keys.ghosts).Answers number lines second → first ≡ second
word_keys_prints_determined a b = prints_determined word_keys_laws.once-law a b

pub label_skeletons_prints_determined : {number : ℕ} {lines : List (List ℕ)} {first second : List ℕ} → Prints (label_skeletons.ghosts).Answers number lines first
    → Prints (label_skeletons.ghosts).Answers number lines second → first ≡ second
label_skeletons_prints_determined a b = prints_determined label_skeletons_laws.once-law a b
