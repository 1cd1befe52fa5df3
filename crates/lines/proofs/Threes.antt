-- One three of a line: the test passes for exactly the bytes within its bounds, and the three at a place decides how the line decodes from there.
-- Assumes nothing.
use mathlib.Core.Path.{◌≡◌, refl, sym, subst}
use mathlib.Core.Bool.{Bool, true, false, ◌&&◌}
use mathlib.Core.List.{List, [], ◌∷◌, ◌++◌}
use Prim.Native.Nat.{ℕ, ◌+◌, ◌≤◌, ◌<◌, min}
use native.Mathlib.Omega.{arith}
use lib.ListN.{length, get_or}
use borrow.Author.Tests.{eq-eqb, eqb-true, leb-true, le-leb}
use Rattle.letters.specs.Choice.{pick}
use Rattle.letters.proofs.Picks.{and_left, and_right}
use Rattle.lines.specs.Line.{is_three, value_of, faulty, after, decode_from}
use Rattle.lines.specs.Three.{three_of, value_in}
use Rattle.std.specs.declared.option.Option.{Option}
use Rattle.std.specs.declared.option.Option.TheVariants.{None, Some}

-- what the bytes of a three are
pub record Bounds (a b c : ℕ) : Type 0 where
  pub first : a ≡ 0xE1
  pub second_least : 0x80 ≤ b
  pub second_most : b ≤ 0x81
  pub third_least : 0x80 ≤ c
  pub third_most : c ≤ 0xBF

-- both tests of two that pass together
both : (a b : Bool) → (a && b) ≡ true → (a ≡ true) × (b ≡ true)
both a b e = (and_left a b e, and_right a b e)

-- bytes that pass the test are within the bounds
pub three_bounds : (a b c : ℕ) → is_three a b c ≡ true → Bounds a b c
unfolding is_three
three_bounds a b c e =
    let all = both _ _ e in
    let most = both _ _ all.0 in
    let second = both _ _ most.0 in
    let start = both _ _ second.0 in
    record {
      first = eqb-true a 0xE1 start.0;
      second_least = leb-true 0x80 b start.1;
      second_most = leb-true b 0x81 second.1;
      third_least = leb-true 0x80 c most.1;
      third_most = leb-true c 0xBF all.1;
    }

-- bytes within the bounds pass the test
pub bounds_three : (a b c : ℕ) → Bounds a b c → is_three a b c ≡ true
unfolding is_three
bounds_three a b c h =
    rw (
      eq-eqb a 0xE1 h.first,
      le-leb 0x80 b h.second_least,
      le-leb b 0x81 h.second_most,
      le-leb 0x80 c h.third_least,
      le-leb c 0xBF h.third_most,
    )

-- three bytes, read by their places
pub value_read : (bytes : List ℕ) → length bytes ≡ 3 → value_in bytes ≡ three_of (get_or bytes 0 0) (get_or bytes 1 0) (get_or bytes 2 0)
value_read [] e = absurd (omega arith)
value_read (a ∷ []) e = absurd (omega arith)
value_read (a ∷ b ∷ []) e = absurd (omega arith)
value_read (a ∷ b ∷ c ∷ []) e = refl
value_read (a ∷ b ∷ c ∷ d ∷ bytes) e = absurd (omega arith)

-- what is cut from what is left of a line: three bytes, or all where fewer are left
pub record Cut (left bytes rest : List ℕ) : Type 0 where
  pub parts : left ≡ bytes ++ rest
  pub size : length bytes ≡ min 3 (length left)
  pub more : 0 < length left

-- what the bytes that are cut at a place say of the line from there on
abbrev pub Turn : ℕ → List ℕ → List ℕ → List ℕ → Option ℕ → Type 0
Turn at left bytes rest (Some v) = (length left ≡ 3 + length rest) × (decode_from at left ≡ after (v ∷ []) (decode_from (at + 3) rest))
Turn at left bytes rest None = decode_from at left ≡ faulty at

-- a whole three, with the outcome of its test
turn_whole : (at a b c : ℕ) (rest : List ℕ) (test : Bool) → is_three a b c ≡ test
    → Turn at (a ∷ b ∷ c ∷ rest) (a ∷ b ∷ c ∷ []) rest (pick test (Some (value_of b c)) None)
unfolding pick
turn_whole at a b c rest true e = (omega arith, rw e)
turn_whole at a b c rest false e = rw e

turn_cut : (at : ℕ) (bytes rest : List ℕ) → length bytes ≡ min 3 (length (bytes ++ rest)) → 0 < length (bytes ++ rest)
    → Turn at (bytes ++ rest) bytes rest (value_in bytes)
unfolding three_of pick
turn_cut at [] rest size more = absurd (omega arith)
turn_cut at (a ∷ []) [] size more = refl
turn_cut at (a ∷ []) (d ∷ rest) size more = absurd (omega arith)
turn_cut at (a ∷ b ∷ []) [] size more = refl
turn_cut at (a ∷ b ∷ []) (d ∷ rest) size more = absurd (omega arith)
turn_cut at (a ∷ b ∷ c ∷ []) rest size more = turn_whole at a b c rest (is_three a b c) refl
turn_cut at (a ∷ b ∷ c ∷ d ∷ bytes) rest size more = absurd (omega arith)

-- what is cut decides how the line goes on
pub turn : (at : ℕ) {left bytes rest : List ℕ} → Cut left bytes rest → Turn at left bytes rest (value_in bytes)
turn at {left} {bytes} {rest} cut =
    subst (λ (l : List ℕ). Turn at l bytes rest (value_in bytes)) (sym cut.parts)
    (turn_cut at bytes rest (rw cut.parts at cut.size) (rw cut.parts at cut.more))
