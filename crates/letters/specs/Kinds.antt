-- A choice by the kind of a value. C, I, N, P and S begin a syllable alike.
-- Assumes nothing.
use Rattle.letters.specs.declared.kind.Kind.{Kind}
use Rattle.letters.specs.declared.kind.Kind.TheVariants.{Consonant, IndependentVowel, Medial, VowelMark, Tone, Killer, Stacker, GreatSa, Digit, Stop, Sign, Foreign}

-- what is chosen for the kinds that begin a syllable, and for each other
pub record Cases (A : Type 0) : Type 0 where
  pub head : A
  pub medial : A
  pub vowel : A
  pub tone : A
  pub killer : A
  pub stacker : A
  pub great_sa : A
  pub foreign : A

abbrev pub by_kind : {A : Type 0} → Cases A → Kind → A
by_kind cases Consonant = cases.head
by_kind cases IndependentVowel = cases.head
by_kind cases Medial = cases.medial
by_kind cases VowelMark = cases.vowel
by_kind cases Tone = cases.tone
by_kind cases Killer = cases.killer
by_kind cases Stacker = cases.stacker
by_kind cases GreatSa = cases.great_sa
by_kind cases Digit = cases.head
by_kind cases Stop = cases.head
by_kind cases Sign = cases.head
by_kind cases Foreign = cases.foreign
