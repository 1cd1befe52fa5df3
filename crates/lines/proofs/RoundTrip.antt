-- Decoding and encoding undo each other: a three that passes the test is the encoding of its value, and the encoding of a value passes it.
-- Assumes nothing.
use mathlib.Core.Path.{◌≡◌, refl}
use mathlib.Core.Bool.{Bool, true, false}
use mathlib.Core.List.{List, [], ◌∷◌}
use Prim.Native.Nat.{ℕ, ◌+◌, ◌-◌, ◌*◌, ◌/◌, ◌%◌, ◌≤◌}
use native.Mathlib.Omega.{arith}
use lib.ListN.{length}
use Rattle.letters.specs.Choice.{pick}
use Rattle.lines.specs.Line.{is_three, value_of, Decoding, values, faulty, after, decode_from, encode}
use Rattle.lines.proofs.Threes.{Bounds, three_bounds, bounds_three}

-- a value that a three can hold
pub record Encodable (v : ℕ) : Type 0 where
  pub least : 0x1000 ≤ v
  pub most : v ≤ 0x107F

-- each value of a list is one that a three can hold
abbrev pub AllEncodable : List ℕ → Type 0
AllEncodable [] = Unit {0}
AllEncodable (v ∷ vs) = Encodable v × AllEncodable vs

-- the bytes of a value are a three
encoded_bounds : (v : ℕ) → Encodable v → Bounds 0xE1 (0x80 + (v - 0x1000) / 0x40) (0x80 + (v - 0x1000) % 0x40)
encoded_bounds v h = record {
  first = refl;
  second_least = omega arith;
  second_most = omega arith;
  third_least = omega arith;
  third_most = omega arith;
}

-- decoding what encoding gives, from any place
pub decode_encode : (p : ℕ) (vs : List ℕ) → AllEncodable vs → decode_from p (encode vs) ≡ values vs
unfolding pick after
decode_encode p [] h = refl
decode_encode p (v ∷ vs) (here, rest) =
    let own : value_of (0x80 + (v - 0x1000) / 0x40) (0x80 + (v - 0x1000) % 0x40) ≡ v = omega arith in
    rw (bounds_three _ _ _ (encoded_bounds v here), decode_encode (p + 3) vs rest, own)

-- what a decoding says of its line: the values are those that threes can hold, and they encode to the line
abbrev Encodes : List ℕ → Decoding → Type 0
Encodes line (values vs) = (encode vs ≡ line) × AllEncodable vs
Encodes line (faulty p) = Unit {0}

-- one three more in front, with the outcome of its test
encodes_three : (a b c p : ℕ) (line : List ℕ) (test : Bool) → is_three a b c ≡ test → (d : Decoding) → Encodes line d
    → Encodes (a ∷ b ∷ c ∷ line) (pick test (after (value_of b c ∷ []) d) (faulty p))
unfolding pick after
encodes_three a b c p line false e d h = tt
encodes_three a b c p line true e (faulty q) h = tt
encodes_three a b c p line true e (values vs) h =
    let bounds = three_bounds a b c e in
    let second : 0x80 + (value_of b c - 0x1000) / 0x40 ≡ b = omega arith in
    let third : 0x80 + (value_of b c - 0x1000) % 0x40 ≡ c = omega arith in (
      cc,
      (record { least = omega arith; most = omega arith }, h.1),
    )

encodes : (p : ℕ) (line : List ℕ) → Encodes line (decode_from p line)
encodes p [] = (refl, tt)
encodes p (a ∷ []) = tt
encodes p (a ∷ b ∷ []) = tt
encodes p (a ∷ b ∷ c ∷ line) = encodes_three a b c p line (is_three a b c) refl (decode_from (p + 3) line) (encodes (p + 3) line)

-- encoding what decoding gives
pub encode_decode : (p : ℕ) (line vs : List ℕ) → decode_from p line ≡ values vs → encode vs ≡ line
encode_decode p line vs e = (rw e at (encodes p line)).0

-- decoding gives only values that threes can hold
pub decode_encodable : (p : ℕ) (line vs : List ℕ) → decode_from p line ≡ values vs → AllEncodable vs
decode_encodable p line vs e = (rw e at (encodes p line)).1

-- three bytes for each value
pub length_encode : (vs : List ℕ) → length (encode vs) ≡ 3 * length vs
length_encode [] = refl
length_encode (v ∷ vs) = omega (arith, length_encode vs)
