-- Document 02, labels: whether a word is one, and its skeleton. "The word is normalised first."
-- Assumes nothing.
use Rattle.std.specs.Prelude.{◌≡◌, List, ℕ, length}
use Rattle.refusals.specs.Outcome.{Outcome, accepts, accepts_both, absent, refuses}
use Rattle.refusals.specs.Output.{Writes}
use Rattle.storage.specs.Stored.{stored_form}
use Rattle.normaliser.specs.Normal.{StoreRefusedWith, Stores}
use Rattle.label_rules.specs.Rules.{label_of}
use Rattle.skeletons.specs.Skeleton.{skeleton_of}

-- "A label is a word that also meets three rules": its stored form is a row of n syllables, to which the rules answer that they are n
pub record IsLabel (word : List ℕ) (n : ℕ) : Type 0 where
  pub stores : Stores word n
  pub meets : label_of (stored_form word) n ≡ accepts n

-- "after 3 or 4 come 21 [..] and 22 [..], both with its place in the normalised word, and 23"
pub data LabelRefusedWith (word : List ℕ) (number place : ℕ) : Type 0 where
  no_word : StoreRefusedWith word number place → LabelRefusedWith word number place
  ruled_out : {n : ℕ} → Stores word n → label_of (stored_form word) n ≡ refuses number place → LabelRefusedWith word number place

-- the promise of the test for labels: how many syllables it has, or why it is none
abbrev pub LabelAnswers : List ℕ → Outcome → Type 0
LabelAnswers word (accepts n) = IsLabel word n
LabelAnswers word (accepts_both n m) = ⊥
LabelAnswers word absent = ⊥
LabelAnswers word (refuses number place) = LabelRefusedWith word number place

-- "Each label has a skeleton"
abbrev pub skeleton : List ℕ → List ℕ
skeleton word = skeleton_of (stored_form word)

-- "written to a lent list of values": the promise, with the output as it was and as it is
abbrev pub SkeletonRight : List ℕ → List ℕ → List ℕ → Outcome → Type 0
SkeletonRight word = Writes (LabelRefusedWith word) (IsLabel word) (λ n. skeleton word) (λ n. length (skeleton word))
