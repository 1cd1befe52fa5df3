-- A word and the bytes of a record, compared value by value.
-- Assumes nothing.
use Rattle.std.proofs.Common.{◌≡◌, ap, refl, sym, ◌∙◌, Bool, false, ◌&&◌, List, [], ◌∷◌, map, ℕ, eqb, length, arith}
use Rattle.std.specs.List.{list_all, zip}
use lib.ListN.{length-map}
use Rattle.letters.proofs.Tests.{is_false}
use Rattle.formula.proofs.Lists.{same_list, same_list_equal}
use Rattle.entries.specs.Entries.{value_of}

-- a value is that of a byte
abbrev pub is_value : ℕ × ℕ → Bool
is_value pair = eqb (value_of pair.0) pair.1

-- each value of the word is that of its byte
pub each_same : (bytes word : List ℕ) → length bytes ≡ length word → list_all is_value (zip bytes word) ≡ same_list (map value_of bytes) word
each_same [] [] e = refl
each_same [] (y ∷ word) e = let z : ⊥ = omega (arith, e) in absurd z
each_same (x ∷ bytes) [] e = let z : ⊥ = omega (arith, e) in absurd z
each_same (x ∷ bytes) (y ∷ word) e = ap (λ (t : Bool). eqb (value_of x) y && t) (each_same bytes word (omega (arith, e)))

-- a word with another number of values is another
pub other_length : (bytes word : List ℕ) → (length bytes ≡ length word → ⊥) → same_list (map value_of bytes) word ≡ false
other_length [] [] f = absurd (f refl)
other_length [] (y ∷ word) f = refl
other_length (x ∷ bytes) [] f = refl
other_length (x ∷ bytes) (y ∷ word) f =
    is_false (same_list (map value_of (x ∷ bytes)) (y ∷ word))
    (λ t. f (sym (length-map (x ∷ bytes) value_of) ∙ ap length (same_list_equal (map value_of (x ∷ bytes)) (y ∷ word) t)))
