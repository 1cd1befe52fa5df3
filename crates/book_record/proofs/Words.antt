-- A record's bytes in the buffer, as the stores write them: the head, and then the word byte by byte.
-- Assumes nothing.
use mathlib.Core.Path.{◌≡◌, refl, sym, ap, ◌∙◌}
use mathlib.Core.List.{List, [], ◌∷◌, ◌++◌, map, append_assoc}
use Prim.Native.Nat.{ℕ, zero, suc, ◌+◌, ◌≤◌, ◌<◌}
use native.Mathlib.Omega.{arith}
use native.Mathlib.Nat.{le_of_suc-le-suc}
use lib.ListN.{length, get_or, take, drop, set, length-map, length-append}
use lib.Seq.{sets-eq, paste, length-take-le, take_at, drop_at, drop-drop, take_all}
use Rattle.entries.specs.Limits.{head_size}
use Rattle.entries.specs.Book.{byte_of, number_bytes, record_bytes}
use Rattle.entries.specs.Change.{with_record}
use Rattle.book_record.specs.Head.{with_head}

pub map_byte_at : (l : List ℕ) (k : ℕ) → k < length l → get_or (map byte_of l) k 0 ≡ byte_of (get_or l k 0)
map_byte_at [] k h = let z : ⊥ = omega arith in absurd z
map_byte_at (x ∷ l) zero h = refl
map_byte_at (x ∷ l) (suc k) h = map_byte_at l k (le_of_suc-le-suc h)

-- the seven stores of a head
pub head_stores : (b : List ℕ) (at first mark count low second third high : ℕ) → at + head_size ≤ length b
    → set (set (set (set (set (set (set b at first) (at + 1) mark) (at + 2) count) (at + 3) low) (at + 4) second) (at + 5) third) (at + 6) high
    ≡ take at b ++ ((first ∷ mark ∷ count ∷ low ∷ second ∷ third ∷ high ∷ []) ++ drop (at + head_size) b)
head_stores b at first mark count low second third high h =
    let one : at + 1 ≡ suc at = omega arith in
    let two : at + 2 ≡ suc (suc at) = omega arith in
    let three : at + 3 ≡ suc (suc (suc at)) = omega arith in
    let four : at + 4 ≡ suc (suc (suc (suc at))) = omega arith in
    let five : at + 5 ≡ suc (suc (suc (suc (suc at)))) = omega arith in
    let six : at + 6 ≡ suc (suc (suc (suc (suc (suc at))))) = omega arith in
    (λ i. set (set (set (set (set (set (set b at first) (one i) mark) (two i) count) (three i) low) (four i) second) (five i) third) (six i) high)
    ∙ sets-eq (first ∷ mark ∷ count ∷ low ∷ second ∷ third ∷ high ∷ []) b at h
    ∙ append_assoc (take at b) (first ∷ mark ∷ count ∷ low ∷ second ∷ third ∷ high ∷ []) (drop (at + head_size) b)

-- the head and the word, written one after the other
pub written : (b w : List ℕ) (at s : ℕ) → at + head_size + length w ≤ length b
    → paste (with_head b at (length w) s) (at + head_size) (map byte_of w) (length w) ≡ with_record b at w s
unfolding with_head record_bytes
written b w at s h =
    let H : List ℕ = 0x4D ∷ 0x57 ∷ length w ∷ number_bytes s [] in
    let n : ℕ = length w in
    let d : List ℕ = take at b ++ (H ++ drop (at + head_size) b) in
    let front : List ℕ = take at b ++ H in
    let split : d ≡ front ++ drop (at + head_size) b = sym (append_assoc (take at b) H (drop (at + head_size) b)) in
    let fl : length front ≡ at + head_size = length-append (take at b) H ∙ ap (λ (k : ℕ). k + head_size) (length-take-le at b (omega arith)) in
    let t : take (at + head_size) d ≡ front = ap (take (at + head_size)) split ∙ take_at front (drop (at + head_size) b) (at + head_size) fl in
    let r : drop (at + head_size + n) d ≡ drop (at + head_size + n) b =
    sym (drop-drop n (at + head_size) d) ∙ ap (λ (l : List ℕ). drop n (drop (at + head_size) l)) split ∙ ap (drop n) (drop_at front (drop (at + head_size) b) (at + head_size) fl) ∙ drop-drop n (at + head_size) b in
    let m : take n (map byte_of w) ≡ map byte_of w = take_all n (map byte_of w) (omega (arith, length-map w byte_of)) in
    (λ i. (t i ++ m i) ++ r i) ∙ append_assoc front (map byte_of w) (drop (at + head_size + n) b) ∙ append_assoc (take at b) H (map byte_of w ++ drop (at + head_size + n) b)
