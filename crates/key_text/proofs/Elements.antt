-- What stands between hyphens in the text of a key and of values: the elements by their places.
-- Assumes nothing.
use mathlib.Core.Path.{◌≡◌, refl, ap, sym, ◌∙◌}
use mathlib.Core.List.{List, []}
use Prim.Native.Nat.{ℕ, zero, suc, ◌+◌, ◌*◌, ◌≤◌, ◌<◌}
use native.Mathlib.Nat.{mul-suc, mul-zero, zero-add}
use native.Mathlib.Omega.{arith}
use lib.ListN.{length, get_or, take, drop}
use lib.Seq.{get_or-take, get_or-drop, drop-drop, length-take-le}
use Rattle.std.proofs.lemmas.List.{get_or-map}
use Rattle.std.specs.Simd.{first_chunks}
use Rattle.formula.specs.Limits.{weight_count}
use Rattle.weighing.specs.Keys.{used_bytes}
use Rattle.key_text.specs.Text.{hexadecimals_of, hyphenated, syllable_text, key_text, value_text, value_text_at, values_text}
use Rattle.key_text.specs.Elements.{text_at, weights_text}
use Rattle.key_text.proofs.Hyphens.{hyphenated_same}

-- an element of a list has the text that stands at its place
pub element_text : {A : Type 0} (text : A → List ℕ) (elements : List A) (k : ℕ) {item : A} → k < length elements → item ≡ get_or elements k item
    → text_at text elements k ≡ text item
element_text text elements k {item} h s = get_or-map text elements k item [] h ∙ ap text (sym s)

-- so many bytes of a part are those of the whole from where the part begins
part_hexadecimals : (count size from : ℕ) (bytes : List ℕ) → count ≤ size → hexadecimals_of count (take size (drop from bytes)) 0 ≡ hexadecimals_of count bytes from
part_hexadecimals zero size from bytes h = refl
part_hexadecimals (suc count) size from bytes h =
    let same : get_or (take size (drop from bytes)) count 0 ≡ get_or bytes (from + count) 0 =
    get_or-take size (drop from bytes) count 0 (omega arith) ∙ get_or-drop from bytes count 0 in
    rw (zero-add count, part_hexadecimals count size from bytes (omega arith), same) refl

-- the chunk of a number
chunk_at : (size many k : ℕ) (bytes none : List ℕ) → k < many → get_or (first_chunks size many bytes) k none ≡ take size (drop (size * k) bytes)
chunk_at size zero k bytes none h = absurd (omega arith)
chunk_at size (suc many) zero bytes none h = rw mul-zero refl
chunk_at size (suc many) (suc k) bytes none h =
    let place : size + size * k ≡ size * suc k = omega (arith, mul-suc size k) in
    chunk_at size many k (drop size bytes) none (omega arith) ∙ ap (take size) (drop-drop (size * k) size bytes ∙ ap (λ (n : ℕ). drop n bytes) place)

-- the first syllables of a key, cut from it, are its text
pub key_elements : (count many : ℕ) (key : List ℕ) → count ≤ many → length (first_chunks weight_count many key) ≡ many
    → hyphenated (text_at weights_text (take count (first_chunks weight_count many key))) (length (take count (first_chunks weight_count many key)))
    ≡ key_text count key
unfolding weights_text syllable_text
key_elements count many key h long =
    let chunks : List (List ℕ) = first_chunks weight_count many key in
    let counted : length (take count chunks) ≡ count = length-take-le count chunks (omega arith) in
    let same : (k : ℕ) → k < count → text_at weights_text (take count chunks) k ≡ syllable_text key k = λ k l.
    get_or-map weights_text (take count chunks) k [] [] (omega arith)
    ∙ ap weights_text (get_or-take count chunks k [] l ∙ chunk_at weight_count many k key [] (omega arith))
    ∙ part_hexadecimals weight_count weight_count (used_bytes k) key (omega arith) in
    rw counted (hyphenated_same _ _ count same)

-- values by their places are their text
pub values_elements : (values : List ℕ) → hyphenated (text_at value_text values) (length values) ≡ values_text values
unfolding value_text_at
values_elements values = hyphenated_same _ _ (length values) λ k h. get_or-map value_text values k 0 [] h
