-- `syllable_weights::put_weights` meets its contract: its stores are those of the six weights one after the other.
-- Assumes nothing.
use mathlib.Core.Path.{ap, ◌∙◌}
use mathlib.Core.List.{List}
use Prim.Native.Nat.{ℕ, ◌+◌}
use native.Mathlib.Omega.{arith}
use lib.ListN.{get_or}
use Rattle.letters.proofs.Heads.{independent_vowel_limit}
use Rattle.syllable_weights.proofs.Weighted.{looked_up, stores_six}
use Rattle.syllable_weights.proofs.put_weights.Goals as goal

-- an independent vowel weighs 9 at most, and the part has four bits
pub overflow_add-vowel : goal.overflow_add-vowel
overflow_add-vowel c =
    let own = c.independent_vowel_weight in
    let l = independent_vowel_limit (0x1000 + c.from-value.result) in
    omega (arith, own.ensures, c.vowel.ensures)

pub returns : goal.returns
returns c =
    stores_six c.args.bytes.now c.args.at _ _ _ _ _ _ c.args.packed
    (looked_up
    c.args.packed
    _
    _
    _
    c.head_weight-head.result
    _
    c.letter-letter.result
    c.second_letter-second.result
    _
    c.tone-tone.result
    (c.from-value.ensures ∙ c.head.ensures)
    c.head_weight-head.ensures
    (c.from.ensures ∙ c.medials.ensures)
    (ap (λ (l : List ℕ). get_or l c.from.result 0) c.requires.1)
    c.letter-letter.ensures
    c.second_letter-second.ensures
    c.independent_vowel_weight.ensures
    c.vowel.ensures
    c.tone-tone.ensures)
