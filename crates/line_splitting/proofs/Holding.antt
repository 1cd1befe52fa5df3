-- What is held of a line: all of it until the room is full, and from then on its first bytes.
-- Assumes nothing.
use mathlib.Core.Path.{◌≡◌, refl, sym, ap, ◌∙◌}
use mathlib.Core.List.{List, [], ◌∷◌, ◌++◌}
use Prim.Native.Nat.{ℕ, zero, suc, ◌+◌, ◌-◌, ◌≤◌, ◌<◌}
use native.Mathlib.Omega.{arith}
use lib.ListN.{length, take, length-append, length-take}
use lib.Seq.{sets, take_all, take-paste, length-take-le}
use Rattle.memory.proofs.Stores.{sets_paste}
use Rattle.line_splitting.specs.Taken.{held_limit, Held, Holds}

-- so many bytes of a part are all that there is room for
pub record Fills (part : List ℕ) (held count : ℕ) : Type 0 where
  pub within : count ≤ length part
  pub fits : held + count ≤ held_limit
  pub same : take (held_limit - held) part ≡ take count part

pub fills_all : (part : List ℕ) (held : ℕ) → held ≤ held_limit → length part < held_limit - held → Fills part held (length part)
fills_all part held k h = record {
  within = omega arith;
  fits = omega arith;
  same = take_all (held_limit - held) part (omega arith) ∙ sym (take_all (length part) part (omega arith));
}

pub fills_room : (part : List ℕ) (held : ℕ) → held ≤ held_limit → held_limit - held ≤ length part → Fills part held (held_limit - held)
fills_room part held k h = record { within = h; fits = omega arith; same = refl }

-- the front of two lists
take_both : (n : ℕ) (xs ys : List ℕ) → take n (xs ++ ys) ≡ take n xs ++ take (n - length xs) ys
take_both zero xs ys = ap (λ (k : ℕ). take k ys) (let e : 0 ≡ 0 - length xs = omega arith in e)
take_both (suc n) [] ys = ap (λ (k : ℕ). take k ys) (let e : suc n ≡ suc n - 0 = omega arith in e)
take_both (suc n) (x ∷ xs) ys =
    ap (λ (l : List ℕ). x ∷ l) (take_both n xs ys)
    ∙ ap (λ (k : ℕ). x ∷ (take n xs ++ take k ys)) (let e : n - length xs ≡ suc n - suc (length xs) = omega arith in e)

-- what fills the room is held behind the line
pub held_more : (start pending part : List ℕ) (before count : ℕ) → held_limit ≤ length start → Fills part before count
    → pending ≡ sets start before (take count part) → Holds start before part pending (before + count)
held_more start pending part before count wide f e = record { fits = f.fits; held = held }
  where
    held : (line : List ℕ) → Held start before line → Held pending (before + count) (line ++ part)
    held line h =
        let room : held_limit - length line ≡ held_limit - before = omega (arith, h.count, length-take held_limit line) in
        let more : take held_limit (line ++ part) ≡ take held_limit line ++ take count part =
        take_both held_limit line part ∙ ap (λ (k : ℕ). take held_limit line ++ take k part) room ∙ ap (λ (l : List ℕ). take held_limit line ++ l) f.same in
        record {
          count = rw (more, length-append) (omega (arith, h.count, length-take-le count part f.within));
          bytes =
              ap (take (before + count)) (e ∙ sets_paste part start before count f.within (omega (arith, f.fits)))
              ∙ take-paste start before part count (omega (arith, f.fits)) f.within
              ∙ ap (λ (l : List ℕ). l ++ take count part) h.bytes
              ∙ sym more;
        }
