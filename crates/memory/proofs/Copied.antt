-- How far a copy from list to list is: the first elements are stored, and the list is as long as before. The list may be copied down within itself.
-- Assumes nothing.
use mathlib.Core.Path.{◌≡◌, refl, sym, ap, ◌∙◌}
use mathlib.Core.List.{List}
use Prim.Native.Nat.{ℕ, ◌+◌, ◌-◌, ◌≤◌, ◌<◌}
use native.Mathlib.Omega.{arith}
use lib.ListN.{length, take, drop, get_or, set, length-drop}
use lib.Seq.{sets, length-sets, length-take-le, take_all, get_or-take, get_or-drop}
use Rattle.memory.proofs.Stores.{sets_next, sets_behind}

module _ {A : Type 0} (vs l : List A) (at : ℕ) where
  pub record Copied (stored : List A) (done : ℕ) : Type 0 where
    pub within : done ≤ length vs
    pub same : stored ≡ sets l at (take done vs)

  pub copied_long : (stored : List A) (done : ℕ) → Copied stored done → length stored ≡ length l
  copied_long stored done c = ap length c.same ∙ length-sets l at (take done vs)

  pub copied_none : Copied l 0
  copied_none = record { within = omega arith; same = refl }

  pub copied_more : (stored : List A) (done : ℕ) (z : A) → Copied stored done → done < length vs
      → Copied (set stored (at + done) (get_or vs done z)) (done + 1)
  copied_more stored done z c h =
      record { within = omega arith; same = rw c.same (sets_next vs l at done z h) }

  pub copied_all : (stored : List A) (done : ℕ) → Copied stored done → length vs ≤ done → stored ≡ sets l at vs
  copied_all stored done c h = c.same ∙ ap (sets l at) (take_all done vs h)

-- a part of the list is stored at an earlier place: what is stored next has not been written over
module _ {A : Type 0} (l : List A) (from to count : ℕ) (down : to ≤ from) (fits : from + count ≤ length l) where
  pub part_long : length (take count (drop from l)) ≡ count
  part_long = length-take-le count (drop from l) (omega (arith, length-drop from l))

  pub part_next : (stored : List A) (done : ℕ) (z : A) → Copied (take count (drop from l)) l to stored done → done < count
      → get_or stored (from + done) z ≡ get_or (take count (drop from l)) done z
  part_next stored done z c h =
      let part : List A = take count (drop from l) in
      let long : length (take done part) ≡ done = length-take-le done part (omega (arith, part_long)) in
      let place : from + done ≡ to + done + (from - to) = omega arith in
      let behind : drop (to + done) stored ≡ drop (to + done) l =
      ap (drop (to + done)) c.same ∙ ap (λ (n : ℕ). drop (to + n) (sets l to (take done part))) (sym long)
      ∙ sets_behind (take done part) l to (omega arith) ∙ ap (λ (n : ℕ). drop (to + n) l) long in
      ap (λ (n : ℕ). get_or stored n z) place ∙ sym (get_or-drop (to + done) stored (from - to) z)
      ∙ ap (λ (m : List A). get_or m (from - to) z) behind ∙ get_or-drop (to + done) l (from - to) z
      ∙ ap (λ (n : ℕ). get_or l n z) (sym place) ∙ sym (get_or-take count (drop from l) done z h ∙ get_or-drop from l done z)
