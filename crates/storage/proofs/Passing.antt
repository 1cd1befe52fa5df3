-- The pass over a word, from its end: from the front on the array holds the stored form of what is passed, and zeros behind it, which no value in front changes.
-- Assumes nothing.
use mathlib.Core.Path.{◌≡◌, refl, sym, ap, subst, ◌∙◌}
use mathlib.Core.Bool.{Bool, true, false}
use mathlib.Core.List.{List, [], ◌∷◌, ◌++◌}
use Prim.Native.Nat.{ℕ, zero, suc, ◌+◌, ◌-◌, ◌≤◌, ◌<◌}
use native.Mathlib.Omega.{arith}
use lib.ListN.{length, take, drop, get_or, replicate, length-append, length-drop, length-replicate, replicate-append-replicate, drop_of_length-le}
use lib.Seq.{sets, drop-cons, length-take-le, take_at, drop_at}
use Rattle.std.proofs.Common.{reverse}
use Rattle.std.proofs.lemmas.List.{length-reverse, get_or-reverse, get_or_default}
use Rattle.memory.proofs.Stores.{sets_front}
use Rattle.letters.specs.Choice.{pick}
use Rattle.formula.specs.Limits.{limit}
use Rattle.formula.specs.Held.{word_of}
use Rattle.formula.specs.declared.Word.{Word}
use Rattle.storage.specs.Stored.{is_run_mark, rank, insert, makes_long_vowel, makes_letter, stored_form, itself}
use Rattle.storage.specs.Putting.{join_front, put_front, first_rank, FrontPut, PartRoom}
use Rattle.storage.specs.declared.Front.{Front}
use Rattle.storage.proofs.Inserting.{insert_filled}
use Rattle.storage.proofs.Composing.{same_before, join_same, stored_front}

-- the zeros behind the values stay as they are
abbrev zeros : ℕ → List ℕ
zeros n = replicate n 0

insert_zeros : (x : ℕ) (values : List ℕ) (n : ℕ) → insert x (values ++ zeros n) ≡ insert x values ++ zeros n
unfolding is_run_mark
insert_zeros x values n = insert_filled itself x 0 values n refl

join_zeros : (x : ℕ) (values : List ℕ) (n : ℕ) → join_front x (values ++ zeros n) ≡ join_front x values ++ zeros n
unfolding pick
join_zeros x [] zero = refl
join_zeros x [] (suc n) = sym (join_same x 0 (zeros n) (same_before x 0 refl refl))
join_zeros x (y ∷ values) n = go (makes_long_vowel x y) (makes_letter x y)
  where
    go : (long letter : Bool)
        → pick long (0x1026 ∷ (values ++ zeros n)) (pick letter 0x1009 x ∷ y ∷ (values ++ zeros n))
        ≡ pick long (0x1026 ∷ values) (pick letter 0x1009 x ∷ y ∷ values) ++ zeros n
    go true letter = refl
    go false letter = refl

put_zeros : (x : ℕ) (values : List ℕ) (n : ℕ) → put_front x (values ++ zeros n) ≡ put_front x values ++ zeros n
unfolding put_front pick
put_zeros x values n = go (is_run_mark x)
  where
    go : (b : Bool)
        → pick b (insert x (values ++ zeros n)) (join_front x (values ++ zeros n)) ≡ pick b (insert x values) (join_front x values) ++ zeros n
    go true = insert_zeros x values n
    go false = join_zeros x values n

-- the word from a place on is passed, and its stored form begins at the front
pub record StoredFrom (word values : List ℕ) (front : Front) (at : ℕ) : Type 0 where
  pub long : length values ≡ limit
  pub before : at ≤ front.place
  pub within : front.place ≤ length word
  pub shown : drop front.place values ≡ stored_form (drop at word) ++ zeros (limit - length word)
  pub ranked : front.rank ≡ first_rank (drop front.place values)

drop_zeros : (m n : ℕ) → m ≤ n → drop m (zeros n) ≡ zeros (n - m)
drop_zeros m n h =
    let whole : m + (n - m) ≡ n = omega arith in
    ap (drop m) (sym (replicate-append-replicate m (n - m) 0 ∙ ap zeros whole)) ∙ drop_at (zeros m) (zeros (n - m)) m (length-replicate m 0)

-- a part of the array, copied to the front of zeros, is held as a word
pub part_held : (values held : List ℕ) (front end : ℕ) → PartRoom values front end
    → held ≡ sets (zeros limit) 0 (take (end - front) (drop front values))
    → ◌≡◌ {A = Word} (record { values = held; count = end - front }) (word_of (take (end - front) (drop front values)))
part_held values held front end r put =
    let part : List ℕ = take (end - front) (drop front values) in
    let long : length part ≡ end - front =
    length-take-le (end - front) (drop front values) (omega (arith, length-drop front values, r.long, r.within)) in
    let fits : length part ≤ limit = omega (arith, r.within) in
    rw (put, sets_front part (zeros limit) fits, drop_zeros (length part) limit fits, long)

-- zeros have the rank of what is no mark
zeros_rank : (n : ℕ) → 16 ≡ first_rank (zeros n)
unfolding rank pick
zeros_rank zero = refl
zeros_rank (suc n) = refl

-- nothing is passed
pub stored_none : (word : List ℕ) → length word ≤ limit → StoredFrom word (zeros limit) (record { place = length word; rank = 16 }) (length word)
unfolding stored_form
stored_none word h =
    let behind : drop (length word) (zeros limit) ≡ zeros (limit - length word) = drop_zeros (length word) limit h in
    let passed : length word ≤ length word = omega arith in
    record {
      long = refl;
      before = omega arith;
      within = omega arith;
      shown = rw (drop_of_length-le word passed) behind;
      ranked = rw behind (zeros_rank (limit - length word));
    }

-- one value more is put in front
pub stored_more : (word values after : List ℕ) (front begin : Front) (at : ℕ) → StoredFrom word values front at → 0 < at
    → FrontPut values after front.place (get_or word (at - 1) 0) begin → StoredFrom word after begin (at - 1)
stored_more word values after front begin at s some p =
    let x : ℕ = get_or word (at - 1) 0 in
    let n : ℕ = limit - length word in
    let here : drop (at - 1) word ≡ x ∷ drop at word =
    drop-cons word (at - 1) 0 (omega (arith, s.before, s.within)) ∙ ap (λ (k : ℕ). x ∷ drop k word) (let e : suc (at - 1) ≡ at = omega arith in e) in
    record {
      long = p.long;
      before = omega (arith, s.before, p.no_earlier);
      within = omega (arith, s.within, p.no_later);
      ranked = p.ranked;
      shown =
          p.put ∙ ap (put_front x) s.shown ∙ put_zeros x (stored_form (drop at word)) n
          ∙ ap (λ (l : List ℕ). l ++ zeros n) (sym (stored_front x (drop at word)) ∙ ap stored_form (sym here));
    }

-- one item more of a pass from the last value to the first
pub stored_turn : (word values after : List ℕ) (front begin : Front) (n x : ℕ) → StoredFrom word values front (length word - n)
    → (n < length (reverse word)) × (x ≡ get_or (reverse word) n x) → FrontPut values after front.place x begin
    → StoredFrom word after begin (length word - (n + 1))
stored_turn word values after front begin n x s t p =
    let inside : n < length word = omega (arith, t.0, length-reverse word) in
    let back : length word - n - 1 ≡ length word - 1 - n = omega arith in
    let next : length word - n - 1 ≡ length word - (n + 1) = omega arith in
    let value : x ≡ get_or word (length word - n - 1) 0 =
    t.1 ∙ get_or-reverse word n x inside ∙ ap (λ (k : ℕ). get_or word k x) (sym back)
    ∙ get_or_default word (length word - n - 1) x 0 (omega arith) in
    subst (StoredFrom word after begin) next
    (stored_more word values after front begin (length word - n) s (omega arith)
    (subst (λ (y : ℕ). FrontPut values after front.place y begin) value p))

-- all is passed
stored_length : (word values : List ℕ) (front : Front) → StoredFrom word values front 0 → length word ≤ limit
    → length (stored_form word) ≡ length word - front.place
stored_length word values front s h =
    omega (arith, simp (length-append, length-replicate) at (ap length s.shown), length-drop front.place values, s.long, s.within)

from_start : (word values : List ℕ) (front : Front) (at : ℕ) → StoredFrom word values front at → at ≤ 0 → StoredFrom word values front 0
from_start word values front at s end = subst (StoredFrom word values front) (let e : at ≡ 0 = omega arith in e) s

pub stored_whole : (word values : List ℕ) (front : Front) (at : ℕ) → StoredFrom word values front at → length word ≤ limit → at ≤ 0 → front.place ≡ 0
    → ◌≡◌ {A = Word} (record { values = values; count = length word }) (word_of (stored_form word))
stored_whole word values front at s h end first =
    let whole : StoredFrom word values front 0 = from_start word values front at s end in
    let counted : length (stored_form word) ≡ length word = omega (arith, stored_length word values front whole h) in
    let shown : values ≡ stored_form word ++ zeros (limit - length word) = rw first at whole.shown in
    rw (counted, shown)

pub stored_part : (word values : List ℕ) (front : Front) (at : ℕ) → StoredFrom word values front at → length word ≤ limit → at ≤ 0
    → word_of (take (length word - front.place) (drop front.place values)) ≡ word_of (stored_form word)
stored_part word values front at s h end =
    let whole : StoredFrom word values front 0 = from_start word values front at s end in
    ap word_of
    (ap (take (length word - front.place)) whole.shown
    ∙ take_at (stored_form word) (zeros (limit - length word)) (length word - front.place) (stored_length word values front whole h))
