-- `syllable_text::part::put_part` meets its contract: the head is stored, and each text is put behind what stands there already.
-- Assumes nothing.
use mathlib.Core.Path.{◌≡◌, ap, sym}
use mathlib.Core.List.{List, [], ◌∷◌}
use Prim.Native.Nat.{ℕ, ◌+◌, ◌≤◌}
use native.Mathlib.Omega.{arith}
use lib.Dec.{eqb}
use lib.ListN.{length, set}
use Rattle.letters.specs.Marks.{medial_text, vowel_text, tone_text}
use Rattle.formula.specs.Syllable.{final_text}
use Rattle.syllable_record.specs.declared.Record.{Record}
use Rattle.syllable_record.specs.Record.{bytes_of}
use Rattle.syllable_record.specs.Decode.{medial_of_weight, vowel_of_weight, final_of_numbers, tone_of_weight, syllable_of}
use Rattle.syllable_text.specs.Part.{head_after, part_after}
use Rattle.syllable_text.proofs.Texts.{record_part}
use Rattle.syllable_text.proofs.Putting.{TextsPut, texts_none, texts_all, texts_room, texts_more}
use Rattle.syllable_text.proofs.part.put_part.Goals as goal

module _ (link : ℕ) (r : Record) (next : List ℕ) (same : bytes_of r ≡ next) where
  -- the texts of the part
  abbrev medial : List ℕ
  medial = medial_text (medial_of_weight r.medial)

  abbrev vowel : List ℕ
  vowel = vowel_text (vowel_of_weight r.vowel (eqb r.tall 1))

  abbrev final : List ℕ
  final = final_text (final_of_numbers r.letter r.second_letter r.link)

  abbrev tone : List ℕ
  tone = tone_text (tone_of_weight r.tone)

  abbrev part : List ℕ
  part = part_after link (syllable_of next)

  -- the output with the head
  headed : (before : List ℕ) (at : ℕ) → at + length part ≤ length before → (first : ℕ) → first ≡ head_after link (0x1000 + r.head)
      → TextsPut before (set before at first) at part (medial ∷ vowel ∷ final ∷ tone ∷ []) (at + 1)
  unfolding syllable_of
  headed before at fits first e = texts_none before at part fits first _ (rw (e, ← same) (sym (record_part link (bytes_of r))))

pub bounds-output-at : goal.bounds-output-at
bounds-output-at c = omega (arith, c.requires, ap length (record_part c.args.link c.args.next))

pub put-vowel_at-requires : goal.put-vowel_at-requires
put-vowel_at-requires c =
    let head = headed c.args.link c.from-next.result c.args.next c.from-next.ensures c.args.output.now c.args.at c.requires _ c.head_value.ensures in
    texts_room _ _ _ c.requires _ _ _ _ head _ c.medial_text.ensures

pub put-final_at-requires : goal.put-final_at-requires
put-final_at-requires c =
    let head = headed c.args.link c.from-next.result c.args.next c.from-next.ensures c.args.output.now c.args.at c.requires _ c.head_value.ensures in
    let medial = texts_more _ _ _ c.requires _ _ _ _ head _ c.medial_text.ensures _ _ c.put-vowel_at.ensures in
    texts_room _ _ _ c.requires _ _ _ _ medial _ c.vowel_text.ensures

pub put-tone_at-requires : goal.put-tone_at-requires
put-tone_at-requires c =
    let head = headed c.args.link c.from-next.result c.args.next c.from-next.ensures c.args.output.now c.args.at c.requires _ c.head_value.ensures in
    let medial = texts_more _ _ _ c.requires _ _ _ _ head _ c.medial_text.ensures _ _ c.put-vowel_at.ensures in
    let vowel = texts_more _ _ _ c.requires _ _ _ _ medial _ c.vowel_text.ensures _ _ c.put-final_at.ensures in
    texts_room _ _ _ c.requires _ _ _ _ vowel _ c.final_text.ensures

pub put-requires : goal.put-requires
put-requires c =
    let head = headed c.args.link c.from-next.result c.args.next c.from-next.ensures c.args.output.now c.args.at c.requires _ c.head_value.ensures in
    let medial = texts_more _ _ _ c.requires _ _ _ _ head _ c.medial_text.ensures _ _ c.put-vowel_at.ensures in
    let vowel = texts_more _ _ _ c.requires _ _ _ _ medial _ c.vowel_text.ensures _ _ c.put-final_at.ensures in
    let final = texts_more _ _ _ c.requires _ _ _ _ vowel _ c.final_text.ensures _ _ c.put-tone_at.ensures in
    texts_room _ _ _ c.requires _ _ _ _ final _ c.tone_text.ensures

pub returns : goal.returns
returns c =
    let head = headed c.args.link c.from-next.result c.args.next c.from-next.ensures c.args.output.now c.args.at c.requires _ c.head_value.ensures in
    let medial = texts_more _ _ _ c.requires _ _ _ _ head _ c.medial_text.ensures _ _ c.put-vowel_at.ensures in
    let vowel = texts_more _ _ _ c.requires _ _ _ _ medial _ c.vowel_text.ensures _ _ c.put-final_at.ensures in
    let final = texts_more _ _ _ c.requires _ _ _ _ vowel _ c.final_text.ensures _ _ c.put-tone_at.ensures in
    texts_all _ _ _ c.requires _ _ (texts_more _ _ _ c.requires _ _ _ _ final _ c.tone_text.ensures _ _ c.put.ensures)
