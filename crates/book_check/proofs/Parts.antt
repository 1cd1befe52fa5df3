-- Parts of the buffer as the loops see them: a hash, the zeros at the end.
-- Assumes nothing.
use Rattle.std.proofs.Common.{◌≡◌, ap, sym, ◌∙◌, refl, Bool, true, false, not, List, [], ◌∷◌, ℕ, suc, ◌+◌, ◌-◌, ◌*◌, ◌%◌, ◌≤◌, ◌<◌, cond, eqb, length, get_or, take, drop, position, ltb, ltb-true, ltb-false, Some, None, arith, add-one, drop-cons}
use Rattle.std.specs.List.{position_or_len}
use lib.Seq.{take_all}
use lib.ListN.{length-drop, drop_of_length-le}
use Rattle.letters.specs.Choice.{pick}
use Rattle.entries.specs.Entries.{Entries, wrong, zero_tail}
use Rattle.book_check.specs.Chain.{buckets, hash_of}
use Rattle.book_check.specs.Opening.{is_stray}

-- one more byte is hashed
pub hash_one : (bytes : List ℕ) (j h byte : ℕ) → j < length bytes → byte ≡ get_or bytes j 0
    → hash_of (drop j bytes) h ≡ hash_of (drop (j + 1) bytes) ((h * 31 + byte) % buckets)
unfolding hash_of
hash_one bytes j h byte k e =
    ap (λ (m : List ℕ). hash_of m h) (drop-cons bytes j 0 k) ∙ (λ i. hash_of (drop (sym (add-one j) i) bytes) ((h * 31 + sym e i) % buckets))

-- and none is left
pub hash_done : (bytes : List ℕ) (j h : ℕ) → length bytes ≤ j → hash_of (drop j bytes) h ≡ h
unfolding hash_of
hash_done bytes j h k = ap (λ (m : List ℕ). hash_of m h) (drop_of_length-le bytes {i = j} k)

-- the zeros up to the first byte that is not zero, or all of them
tail_passed : (l : List ℕ) (at : ℕ) (given : Entries)
    → (position_or_len is_stray l < length l → zero_tail l at given ≡ wrong (at + position_or_len is_stray l)) × (length l ≤ position_or_len is_stray l → zero_tail l at given ≡ given)
unfolding zero_tail pick
tail_passed [] at given = (λ h. let z : ⊥ = omega (arith, h) in absurd z, λ h. refl)
tail_passed (x ∷ l) at given = go (eqb x 0) (tail_passed l (suc at) given)
  where
    go : (t : Bool) → (position_or_len is_stray l < length l → zero_tail l (suc at) given ≡ wrong (suc at + position_or_len is_stray l)) × (length l ≤ position_or_len is_stray l → zero_tail l (suc at) given ≡ given)
        → (cond (not (not t)) (1 + position_or_len is_stray l) 0 < suc (length l) → pick t (zero_tail l (suc at) given) (wrong at) ≡ wrong (at + cond (not (not t)) (1 + position_or_len is_stray l) 0))
        × (suc (length l) ≤ cond (not (not t)) (1 + position_or_len is_stray l) 0 → pick t (zero_tail l (suc at) given) (wrong at) ≡ given)
    go true ih = (λ h. ih.0 (omega (arith, h)) ∙ ap wrong (omega arith), λ h. ih.1 (omega (arith, h)))
    go false ih = (λ h. ap wrong (omega arith), λ h. let z : ⊥ = omega (arith, h) in absurd z)

-- the part of the buffer from a place on
from : (b : List ℕ) (at : ℕ) → take (length b - at) (drop at b) ≡ drop at b
from b at = take_all (length b - at) (drop at b) (omega (arith, length-drop at b))

pub tail_stray : (b : List ℕ) (at n : ℕ) (given : Entries) → Some n ≡ position is_stray (take (length b - at) (drop at b)) → zero_tail (drop at b) at given ≡ wrong (at + n)
tail_stray b at n given e = go (ltb (position_or_len is_stray (drop at b)) (length (drop at b))) refl (e ∙ ap (position is_stray) (from b at))
  where
    go : (t : Bool) → ltb (position_or_len is_stray (drop at b)) (length (drop at b)) ≡ t → Some n ≡ cond t (Some (position_or_len is_stray (drop at b))) None
        → zero_tail (drop at b) at given ≡ wrong (at + n)
    go true q f =
        let k : n ≡ position_or_len is_stray (drop at b) = cc in
        (tail_passed (drop at b) at given).0 (ltb-true (position_or_len is_stray (drop at b)) (length (drop at b)) q) ∙ ap (λ (m : ℕ). wrong (at + m)) (sym k)
    go false q f = cc

pub tail_zeros : (b : List ℕ) (at : ℕ) (given : Entries) → None ≡ position is_stray (take (length b - at) (drop at b)) → zero_tail (drop at b) at given ≡ given
tail_zeros b at given e = go (ltb (position_or_len is_stray (drop at b)) (length (drop at b))) refl (e ∙ ap (position is_stray) (from b at))
  where
    go : (t : Bool) → ltb (position_or_len is_stray (drop at b)) (length (drop at b)) ≡ t → None ≡ cond t (Some (position_or_len is_stray (drop at b))) None
        → zero_tail (drop at b) at given ≡ given
    go true q f = cc
    go false q f = (tail_passed (drop at b) at given).1 (ltb-false (position_or_len is_stray (drop at b)) (length (drop at b)) q)
