-- Unpacking undoes packing, where each number fits its bits; so two answers that fit and have the same number are one.
-- Assumes nothing.
use mathlib.Core.Path.{◌≡◌, sym, ap, ◌∙◌}
use Prim.Native.Nat.{ℕ, ◌/◌, ◌%◌}
use native.Mathlib.Omega.{arith}
use Rattle.packing.specs.Packing.{Answer, pack, unpack, Fits, Packed}

pub unpack_pack : (a : Answer) → Fits a → unpack (pack a) ≡ a
unfolding pack unpack
unpack_pack a f =
    let t = f.tag in
    let s = f.second in
    let r = f.first in
    let tag : pack a / 0x100000000000000 ≡ a.tag = omega arith in
    let second : pack a / 0x100000000 % 0x1000000 ≡ a.second = omega arith in
    let first : pack a % 0x100000000 ≡ a.first = omega arith in
    rw (tag, second, first)

-- answers that fit are told apart by their numbers
pub pack_injective : (a b : Answer) → Fits a → Fits b → pack a ≡ pack b → a ≡ b
pack_injective a b f g e = sym (unpack_pack a f) ∙ ap unpack e ∙ unpack_pack b g

-- a call's number unpacks to the numbers of its outcome, where those of every right outcome fit
pub packed_unpacked : {A : Type 0} (Right : A → Type 0) (numbers : A → Answer) → ((o : A) → Right o → Fits (numbers o))
    → (n : ℕ) (p : Packed Right numbers n) → unpack n ≡ numbers p.outcome
packed_unpacked Right numbers fits n p = ap unpack p.packed ∙ unpack_pack (numbers p.outcome) (fits p.outcome p.right)
