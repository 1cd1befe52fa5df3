-- `syllable_text::part::part_size` meets its contract: the lengths of the four texts and the head are the part, and that is short.
-- Assumes nothing.
use mathlib.Core.Path.{◌≡◌}
use Prim.Native.Nat.{◌+◌}
use native.Mathlib.Omega.{arith}
use lib.ListN.{length, length-append}
use Rattle.std.specs.List.{concat}
use Rattle.syllable_record.specs.Record.{bytes_of}
use Rattle.syllable_record.specs.Decode.{syllable_of}
use Rattle.syllable_text.proofs.Texts.{texts_of, texts_short, part_length}
use Rattle.syllable_text.proofs.part.part_size.Goals as goal

pub returns : goal.returns
unfolding syllable_of
returns c =
    let s = syllable_of (bytes_of c.from-next.result) in
    let sizes : c.len.result + c.len-2.result + c.len-3.result + c.len-4.result ≡ length (concat (texts_of s)) =
    simp (length-append, c.len.ensures, c.len-2.ensures, c.len-3.ensures, c.len-4.ensures, c.medial_text-medial.ensures, c.vowel_text-vowel.ensures, c.final_text-last.ensures, c.tone_text-tone.ensures) (omega arith) in
    rw (← c.from-next.ensures) (record { counted = omega (arith, sizes, part_length s); small = omega (arith, sizes, texts_short s) })
