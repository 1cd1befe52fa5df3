-- A skeleton is made from the front on: what the values so far become is followed by what the next becomes.
-- Assumes nothing.
use mathlib.Core.Path.{◌≡◌, refl, sym, ap, ◌∙◌}
use mathlib.Core.List.{List, [], ◌∷◌, ◌++◌, append_assoc, append-nil}
use Prim.Native.Nat.{ℕ, ◌+◌, ◌*◌, ◌≤◌, ◌<◌}
use native.Mathlib.Numerals.{add-one}
use native.Mathlib.Omega.{arith}
use lib.ListN.{length, take, drop, get_or, set, length-append, take-append-drop}
use lib.Seq.{take-suc, take_all}
use Rattle.memory.specs.Put.{Put, Written}
use Rattle.memory.proofs.Putting.{put_nothing, put_after, put_front, put_length}
use Rattle.skeletons.specs.Skeleton.{replaced, skeleton_of}
use Rattle.skeletons.proofs.Replacing.{two_at_most}

pub skeleton_append : (a b : List ℕ) → skeleton_of (a ++ b) ≡ skeleton_of a ++ skeleton_of b
skeleton_append [] b = refl
skeleton_append (x ∷ a) b = ap (λ (l : List ℕ). replaced x ++ l) (skeleton_append a b) ∙ sym (append_assoc (replaced x) (skeleton_of a) (skeleton_of b))

module _ (word : List ℕ) (at : ℕ) where
  -- one value more
  pub skeleton_next : at < length word → skeleton_of (take (at + 1) word) ≡ skeleton_of (take at word) ++ replaced (get_or word at 0)
  skeleton_next h =
      ap (λ (k : ℕ). skeleton_of (take k word)) (add-one at)
      ∙ ap skeleton_of (take-suc word at 0 h)
      ∙ skeleton_append (take at word) (get_or word at 0 ∷ [])
      ∙ ap (λ (l : List ℕ). skeleton_of (take at word) ++ l) (append-nil (replaced (get_or word at 0)))

  pub part_within : length (skeleton_of (take at word)) ≤ length (skeleton_of word)
  part_within =
      let whole : skeleton_of word ≡ skeleton_of (take at word) ++ skeleton_of (drop at word) =
      ap skeleton_of (sym (take-append-drop at word)) ∙ skeleton_append (take at word) (drop at word) in
      omega (arith, ap length whole, length-append (skeleton_of (take at word)) (skeleton_of (drop at word)))

pub next_within : (word : List ℕ) (at : ℕ) → at < length word
    → length (skeleton_of (take at word)) + length (replaced (get_or word at 0)) ≤ length (skeleton_of word)
next_within word at h =
    omega (arith, part_within word (at + 1), ap length (skeleton_next word at h), length-append (skeleton_of (take at word)) (replaced (get_or word at 0)))

-- one value put at a place, and two
pub put_one : (l : List ℕ) (at a : ℕ) → Put l at (a ∷ []) (set l at a) (at + 1)
put_one l at a = record { written = refl; next = refl }

pub put_two : (l : List ℕ) (at a b : ℕ) → Put l at (a ∷ b ∷ []) (set (set l at a) (at + 1) b) (at + 2)
put_two l at a b = record { written = ap (λ (k : ℕ). set (set l at a) k b) (add-one at); next = refl }

-- at most two values for one
pub at_most_two : (word : List ℕ) → length (skeleton_of word) ≤ 2 * length word
at_most_two [] = omega arith
at_most_two (x ∷ word) =
    let more = at_most_two word in
    omega (arith, two_at_most x, length-append (replaced x) (skeleton_of word))

-- what the values before a place become stands at the front
pub record Filled (word before after : List ℕ) (next at : ℕ) : Type 0 where
  pub within : at ≤ length word
  pub put : Put before 0 (skeleton_of (take at word)) after next

pub filled_none : (word before : List ℕ) → Filled word before before 0 0
filled_none word before = record { within = omega arith; put = put_nothing before 0 }

module _ {word before after : List ℕ} {next at : ℕ} (f : Filled word before after next at) where
  pub filled_room : at < length word → length (skeleton_of word) ≤ length before → next + length (replaced (get_or word at 0)) ≤ length after
  filled_room h fits = let p = f.put in omega (arith, p.next, put_length p, next_within word at h)

  pub filled_on : at < length word → (further : List ℕ) (end : ℕ) → Put after next (replaced (get_or word at 0)) further end
      → Filled word before further end (at + 1)
  filled_on h further end p = record { within = omega arith; put = rw (skeleton_next word at h) (put_after f.put p) }

  pub filled_whole : length word ≤ at → length (skeleton_of word) ≤ length before → Written before (skeleton_of word) after next
  filled_whole h fits =
      let all : take at word ≡ word = take_all at word h in
      put_front fits (rw all at f.put)
