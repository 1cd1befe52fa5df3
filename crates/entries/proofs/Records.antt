-- A record in a buffer and its bytes: what is cut off the buffer is what was written, and what is written is read back.
-- Assumes nothing.
use mathlib.Core.Path.{◌≡◌, refl, sym, ap, subst, ◌∙◌}
use mathlib.Core.Logic.{◌⊎◌, inl, inr, ⊎_elim}
use mathlib.Core.Bool.{Bool, true, false, ◌||◌}
use mathlib.Core.List.{List, [], ◌∷◌, ◌++◌, map, append_assoc}
use Prim.Native.Nat.{ℕ, suc, ◌+◌, ◌-◌, ◌*◌, ◌/◌, ◌%◌, ◌≤◌, ◌<◌}
use native.Mathlib.Nat.{not-suc-le-zero, add-zero}
use native.Mathlib.Omega.{arith}
use lib.Dec.{T, eqb, leb, eqb→eq, leb→le, le→leb}
use lib.ListN.{length, get_or, take, drop, length-map, length-append, length-drop, take-append-drop}
use lib.Seq.{get_or-drop, drop-drop, length-take-le, take_at, drop_at}
use Rattle.letters.proofs.Tests.{or_cases}
use Rattle.formula.specs.Limits.{limit}
use Rattle.formula.proofs.Lists.{both, both_left, both_right}
use Rattle.entries.specs.Limits.{head_size}
use Rattle.entries.specs.Entries.{Entry, value_of, number, word_at, entry_at, is_framed, is_framed_within}
use Rattle.entries.specs.Book.{byte_of, mark_of, number_bytes, record_bytes, records, size, end_of}
use Rattle.entries.proofs.Bytes.{Bytes, byte_value, value_byte}

-- what a frame says
pub record Framed (b : List ℕ) (at : ℕ) : Type 0 where
  pub first : get_or b at 0 ≡ 0x4D
  pub mark : (get_or b (at + 1) 0 ≡ 0x57) ⊎ (get_or b (at + 1) 0 ≡ 0x2D)
  pub some : 1 ≤ get_or b (at + 2) 0
  pub short : get_or b (at + 2) 0 ≤ limit
  pub room : at + head_size + get_or b (at + 2) 0 ≤ length b

mark_of_lem : (m : ℕ) → T (eqb m 0x57 || eqb m 0x2D) → (m ≡ 0x57) ⊎ (m ≡ 0x2D)
mark_of_lem m t = ⊎_elim (λ u. inl (eqb→eq m 0x57 u)) (λ u. inr (eqb→eq m 0x2D u)) (or_cases (eqb m 0x57) (eqb m 0x2D) t)

pub framed_true : (b : List ℕ) (at : ℕ) → T (is_framed b at) → Framed b at
unfolding is_framed_within
framed_true b at t =
    let n = get_or b (at + 2) 0 in
    let marked = both_right (eqb (get_or b at 0) 0x4D) _ t in
    let counted = both_right (eqb (get_or b (at + 1) 0) 0x57 || eqb (get_or b (at + 1) 0) 0x2D) _ marked in
    let bounded = both_right (leb 1 n) _ counted in
    record {
      first = eqb→eq (get_or b at 0) 0x4D (both_left (eqb (get_or b at 0) 0x4D) _ t);
      mark = mark_of_lem (get_or b (at + 1) 0) (both_left (eqb (get_or b (at + 1) 0) 0x57 || eqb (get_or b (at + 1) 0) 0x2D) _ marked);
      some = leb→le 1 n (both_left (leb 1 n) _ counted);
      short = leb→le n limit (both_left (leb n limit) _ bounded);
      room = leb→le (at + head_size + n) (length b) (both_right (leb n limit) _ bounded);
    }

mark_test : (m : ℕ) → (m ≡ 0x57) ⊎ (m ≡ 0x2D) → T (eqb m 0x57 || eqb m 0x2D)
mark_test m (inl e) = subst (λ (x : ℕ). T (eqb x 0x57 || eqb x 0x2D)) (sym e) tt
mark_test m (inr e) = subst (λ (x : ℕ). T (eqb x 0x57 || eqb x 0x2D)) (sym e) tt

pub framed_is : (b : List ℕ) (at : ℕ) → Framed b at → T (is_framed b at)
unfolding is_framed_within
framed_is b at f =
    let n = get_or b (at + 2) 0 in
    both (eqb (get_or b at 0) 0x4D) _ (subst (λ (x : ℕ). T (eqb x 0x4D)) (sym f.first) tt)
    (both (eqb (get_or b (at + 1) 0) 0x57 || eqb (get_or b (at + 1) 0) 0x2D) _ (mark_test (get_or b (at + 1) 0) f.mark)
    (both (leb 1 n) _ (le→leb 1 n f.some)
    (both (leb n limit) _ (le→leb n limit f.short) (le→leb (at + head_size + n) (length b) f.room))))

mark_is : (m : ℕ) → (m ≡ 0x57) ⊎ (m ≡ 0x2D) → mark_of (eqb m 0x57) ≡ m
mark_is m (inl e) = subst (λ (x : ℕ). mark_of (eqb x 0x57) ≡ x) (sym e) refl
mark_is m (inr e) = subst (λ (x : ℕ). mark_of (eqb x 0x57) ≡ x) (sym e) refl

low_byte : (a r : ℕ) → a < 256 → (a + 256 * r) % 256 ≡ a
low_byte a r h = omega arith

byte_rest : (a r : ℕ) → a < 256 → (a + 256 * r) / 256 ≡ r
byte_rest a r h = omega arith

two_rest : (a b r : ℕ) → a < 256 → b < 256 → (a + 256 * (b + 256 * r)) / 65536 ≡ r
two_rest a b r h k = omega arith

three_rest : (a b c r : ℕ) → a < 256 → b < 256 → c < 256 → (a + 256 * (b + 256 * (c + 256 * r))) / 16777216 ≡ r
three_rest a b c r h k l = omega arith

number_bytes_lem : (a b c d : ℕ) (l : List ℕ) → a < 256 → b < 256 → c < 256 → d < 256 → number_bytes (number a b c d) l ≡ a ∷ b ∷ c ∷ d ∷ l
number_bytes_lem a b c d l ha hb hc hd =
    let second : (number a b c d / 256) % 256 ≡ b = ap (λ (x : ℕ). x % 256) (byte_rest a (b + 256 * (c + 256 * d)) ha) ∙ low_byte b (c + 256 * d) hb in
    let third : (number a b c d / 65536) % 256 ≡ c = ap (λ (x : ℕ). x % 256) (two_rest a b (c + 256 * d) ha hb) ∙ low_byte c d hc in
    λ i. low_byte a (b + 256 * (c + 256 * d)) ha i ∷ second i ∷ third i ∷ three_rest a b c d ha hb hc i ∷ l

pub number_of : (s : ℕ) → s < 4294967296 → number (s % 256) ((s / 256) % 256) ((s / 65536) % 256) (s / 16777216) ≡ s
number_of s h = omega arith

seven : (l : List ℕ) → 7 ≤ length l → l ≡ get_or l 0 0 ∷ get_or l 1 0 ∷ get_or l 2 0 ∷ get_or l 3 0 ∷ get_or l 4 0 ∷ get_or l 5 0 ∷ get_or l 6 0 ∷ drop 7 l
seven [] h = absurd (not-suc-le-zero h)
seven (a ∷ []) h = let z : ⊥ = omega arith in absurd z
seven (a ∷ b ∷ []) h = let z : ⊥ = omega arith in absurd z
seven (a ∷ b ∷ c ∷ []) h = let z : ⊥ = omega arith in absurd z
seven (a ∷ b ∷ c ∷ d ∷ []) h = let z : ⊥ = omega arith in absurd z
seven (a ∷ b ∷ c ∷ d ∷ e ∷ []) h = let z : ⊥ = omega arith in absurd z
seven (a ∷ b ∷ c ∷ d ∷ e ∷ f ∷ []) h = let z : ⊥ = omega arith in absurd z
seven (a ∷ b ∷ c ∷ d ∷ e ∷ f ∷ g ∷ l) h = refl

pub length_word : (b : List ℕ) (at : ℕ) → at + head_size + get_or b (at + 2) 0 ≤ length b → length (word_at b at) ≡ get_or b (at + 2) 0
length_word b at h =
    let d : get_or b (at + 2) 0 ≤ length (drop (at + head_size) b) = omega (arith, length-drop (at + head_size) b) in
    length-map (take (get_or b (at + 2) 0) (drop (at + head_size) b)) value_of ∙ length-take-le (get_or b (at + 2) 0) (drop (at + head_size) b) d

-- a record, cut off the buffer
pub cut : (b : List ℕ) (at : ℕ) → Bytes b → Framed b at
    → drop at b ≡ record_bytes (entry_at b at) ++ drop (at + head_size + get_or b (at + 2) 0) b
unfolding record_bytes
cut b at small f =
    let n = get_or b (at + 2) 0 in
    let long : 7 ≤ length (drop at b) = omega (arith, length-drop at b, f.room) in
    let word : map byte_of (word_at b at) ++ drop (at + head_size + n) b ≡ drop (at + head_size) b =
    ap (λ (l : List ℕ). l ++ drop (at + head_size + n) b) (byte_value (take n (drop (at + head_size) b)))
    ∙ ap (λ (l : List ℕ). take n (drop (at + head_size) b) ++ l) (sym (drop-drop n (at + head_size) b)) ∙ take-append-drop n (drop (at + head_size) b) in
    let first : get_or (drop at b) 0 0 ≡ 0x4D = get_or-drop at b 0 0 ∙ ap (λ (k : ℕ). get_or b k 0) (add-zero at) ∙ f.first in
    let right : record_bytes (entry_at b at) ++ drop (at + head_size + n) b
    ≡ 0x4D ∷ get_or b (at + 1) 0 ∷ n ∷ get_or b (at + 3) 0 ∷ get_or b (at + 4) 0 ∷ get_or b (at + 5) 0 ∷ get_or b (at + 6) 0 ∷ drop (at + head_size) b =
    rw (mark_is (get_or b (at + 1) 0) f.mark, length_word b at f.room)
    (ap (λ (l : List ℕ). 0x4D ∷ get_or b (at + 1) 0 ∷ n ∷ (l ++ drop (at + head_size + n) b))
    (number_bytes_lem (get_or b (at + 3) 0) (get_or b (at + 4) 0) (get_or b (at + 5) 0) (get_or b (at + 6) 0) (map byte_of (word_at b at))
    (small (at + 3)) (small (at + 4)) (small (at + 5)) (small (at + 6)))
    ∙ ap (λ (l : List ℕ). 0x4D ∷ get_or b (at + 1) 0 ∷ n ∷ get_or b (at + 3) 0 ∷ get_or b (at + 4) 0 ∷ get_or b (at + 5) 0 ∷ get_or b (at + 6) 0 ∷ l) word) in
    seven (drop at b) long
    ∙ (λ i. first i ∷ get_or-drop at b 1 0 i ∷ get_or-drop at b 2 0 i ∷ get_or-drop at b 3 0 i ∷ get_or-drop at b 4 0 i ∷ get_or-drop at b 5 0 i ∷ get_or-drop at b 6 0 i ∷ drop-drop 7 at b i)
    ∙ sym right

live_is : (t : Bool) → eqb (mark_of t) 0x57 ≡ t
live_is true = refl
live_is false = refl

mark_cases : (t : Bool) → (mark_of t ≡ 0x57) ⊎ (mark_of t ≡ 0x2D)
mark_cases true = inl refl
mark_cases false = inr refl

-- where the bytes of an entry stand, it is read
pub record Read (b : List ℕ) (at : ℕ) (e : Entry) (rest : List ℕ) : Type 0 where
  pub frame : Framed b at
  pub entry : entry_at b at ≡ e
  pub count : get_or b (at + 2) 0 ≡ length e.word
  pub left : drop (at + head_size + get_or b (at + 2) 0) b ≡ rest

pub read_back : (b : List ℕ) (at : ℕ) (e : Entry) (rest : List ℕ) → drop at b ≡ record_bytes e ++ rest → e.start ≡ at
    → 1 ≤ length e.word → length e.word ≤ limit → e.stock < 4294967296 → ((k : ℕ) → k < length e.word → 0x1000 ≤ get_or e.word k 0) → Read b at e rest
unfolding record_bytes
read_back b at e rest q st some short fits values =
    let w = e.word in
    let s = e.stock in
    let g : (i : ℕ) → get_or b (at + i) 0 ≡ get_or (record_bytes e ++ rest) i 0 = λ i. sym (get_or-drop at b i 0) ∙ ap (λ (l : List ℕ). get_or l i 0) q in
    let first : get_or b at 0 ≡ 0x4D = ap (λ (k : ℕ). get_or b k 0) (sym (add-zero at)) ∙ g 0 in
    let mark : get_or b (at + 1) 0 ≡ mark_of e.live = g 1 in
    let count : get_or b (at + 2) 0 ≡ length w = g 2 in
    let behind : drop (at + head_size) b ≡ map byte_of w ++ rest = sym (drop-drop head_size at b) ∙ ap (drop head_size) q in
    let long : length b - at ≡ head_size + (length w + length rest) =
    sym (length-drop at b) ∙ ap length q ∙ ap (λ (n : ℕ). suc (suc (suc (suc (suc (suc (suc n))))))) (length-append (map byte_of w) rest ∙ ap (λ (n : ℕ). n + length rest) (length-map w byte_of)) ∙ omega arith in
    let front : take (length w) (map byte_of w ++ rest) ≡ map byte_of w = take_at (map byte_of w) rest (length w) (length-map w byte_of) in
    let behind_word : drop (length w) (map byte_of w ++ rest) ≡ rest = drop_at (map byte_of w) rest (length w) (length-map w byte_of) in
    let word : word_at b at ≡ w =
    (λ i. map value_of (take (count i) (behind i))) ∙ ap (map value_of) front ∙ value_byte w values in
    let live : eqb (get_or b (at + 1) 0) 0x57 ≡ e.live = ap (λ (m : ℕ). eqb m 0x57) mark ∙ live_is e.live in
    let stock : number (get_or b (at + 3) 0) (get_or b (at + 4) 0) (get_or b (at + 5) 0) (get_or b (at + 6) 0) ≡ s =
    (λ i. number (g 3 i) (g 4 i) (g 5 i) (g 6 i)) ∙ number_of s fits in
    record {
      frame =
          record {
            first = first;
            mark = subst (λ (m : ℕ). (m ≡ 0x57) ⊎ (m ≡ 0x2D)) (sym mark) (mark_cases e.live);
            some = subst (λ (m : ℕ). 1 ≤ m) (sym count) some;
            short = subst (λ (m : ℕ). m ≤ limit) (sym count) short;
            room = omega (arith, count, long);
          };
      entry = λ i. record { start = sym st i; live = live i; stock = stock i; word = word i };
      count = count;
      left = sym (drop-drop (get_or b (at + 2) 0) (at + head_size) b) ∙ (λ i. drop (count i) (behind i)) ∙ behind_word;
    }

pub records_append : (es fs : List Entry) → records (es ++ fs) ≡ records es ++ records fs
records_append [] fs = refl
records_append (e ∷ es) fs = ap (λ (l : List ℕ). record_bytes e ++ l) (records_append es fs) ∙ sym (append_assoc (record_bytes e) (records es) (records fs))

pub end_append : (at : ℕ) (es : List Entry) (e : Entry) → end_of at (es ++ (e ∷ [])) ≡ end_of at es + size e
end_append at [] e = refl
end_append at (x ∷ es) e = end_append (at + size x) es e

pub length_record : (e : Entry) → length (record_bytes e) ≡ size e
unfolding record_bytes
length_record e = ap (λ (n : ℕ). suc (suc (suc (suc (suc (suc (suc n))))))) (length-map e.word byte_of) ∙ omega arith

pub end_length : (at : ℕ) (es : List Entry) → end_of at es ≡ at + length (records es)
end_length at [] = sym (add-zero at)
end_length at (e ∷ es) =
    end_length (at + size e) es ∙ omega (arith, length-append (record_bytes e) (records es), length_record e)
