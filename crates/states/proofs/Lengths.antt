-- What a transition does to the number of syllables.
-- Assumes nothing.
use mathlib.Core.Path.{◌≡◌}
use Prim.Native.Nat.{ℕ, ◌+◌, ◌≤◌}
use native.Mathlib.Omega.{arith}
use lib.ListN.{length}
use Rattle.formula.specs.Row.{Row}
use Rattle.states.specs.Transition.{Makes, begins, begins_great_sa, adds_medial, adds_vowel, adds_tone, makes_kinzi, closes}

pub makes_length : {x d g : ℕ} {kept b : Row} → Makes x d g kept b → length b + 1 ≡ length kept + d
makes_length (begins h) = omega arith
makes_length (begins_great_sa y) = omega arith
makes_length (adds_medial e) = omega arith
makes_length (adds_vowel e) = omega arith
makes_length (adds_tone e) = omega arith
makes_length makes_kinzi = omega arith
makes_length (closes l j e) = omega arith

-- at most one more
pub small_change : {x d g : ℕ} {kept b : Row} → Makes x d g kept b → d ≤ 2
small_change (begins h) = omega arith
small_change (begins_great_sa y) = omega arith
small_change (adds_medial e) = omega arith
small_change (adds_vowel e) = omega arith
small_change (adds_tone e) = omega arith
small_change makes_kinzi = omega arith
small_change (closes l j e) = omega arith
