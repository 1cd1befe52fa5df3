-- The array of the code: what moving a value, putting one and copying a part make of its list.
-- Assumes nothing.
use mathlib.Core.Path.{◌≡◌, refl, sym, ap, ◌∙◌}
use mathlib.Core.Bool.{Bool, true, false}
use mathlib.Core.List.{List, [], ◌∷◌, ◌++◌}
use Prim.Native.Nat.{ℕ, suc, ◌+◌, ◌-◌, ◌%◌, ◌≤◌, ◌<◌}
use native.Mathlib.Numerals.{add-one}
use native.Mathlib.Decide.{dec_lt}
use native.Mathlib.Omega.{arith}
use lib.Dec.{eqb}
use lib.ListN.{length, take, drop, get_or, set, length-append, length-drop, length-set, drop_of_length-le, get_or-eq_default}
use lib.Seq.{drop-cons, length-take-le, drop_at, set_split, take-suc-set, drop-set-lt, append_snoc}
use borrow.Author.Tests.{lt-ltb, le-ltb, ne_eqb}
use Rattle.letters.specs.Choice.{pick}
use Rattle.letters.proofs.Picks.{and_no_right}
use Rattle.formula.specs.Limits.{limit}
use Rattle.storage.specs.Stored.{is_run_mark, rank, goes_behind, insert_by, insert, makes_long_vowel, makes_letter, itself}
use Rattle.storage.specs.Putting.{join_front, put_front, first_rank, Room, FrontPut}
use Rattle.storage.proofs.Ranks.{behind_rank, behind_marks}
use Rattle.storage.proofs.Inserting.{insert_behind, insert_here, insert_length}
use Rattle.storage.proofs.Composing.{other_vowel, other_letter}
use Rattle.storage.proofs.Settled.{StandsBefore, put_stands}

-- what holds of inserting into an array, by the values of what it has
module _ {A : Type 0} (value : A → ℕ) where
  -- what the array holds once x is inserted behind a place
  abbrev pub inserted_at : List A → ℕ → A → List A
  inserted_at array place x = take place array ++ insert_by value x (drop (place + 1) array)

  -- what stands behind a place
  rest_is : (array : List A) (place : ℕ) (next : A) → place < length array → next ≡ get_or array place next → drop place array ≡ next ∷ drop (suc place) array
  rest_is array place next h e = drop-cons array place next h ∙ ap (λ (y : A). y ∷ drop (suc place) array) (sym e)

  -- x goes behind the next: that moves to the place, and x is inserted behind the next place
  insert_moved : (array : List A) (place : ℕ) (x next : A) → place + 1 < length array → next ≡ get_or array (place + 1) next
      → goes_behind (value x) (value next) ≡ true → inserted_at (set array place next) (place + 1) x ≡ inserted_at array place x
  insert_moved array place x next more is behind =
      rw (add-one, add-one)
      (rw (take-suc-set array place next (omega arith), drop-set-lt (suc (suc place)) array place next (omega arith), append_snoc, rest_is array (suc place) next (omega arith) (rw add-one at is), insert_behind value x next (drop (suc (suc place)) array) behind))

  -- x goes no further: it is put at the place
  put_here : (array : List A) (place : ℕ) (x : A) → place < length array → insert_by value x (drop (place + 1) array) ≡ x ∷ drop (place + 1) array
      → set array place x ≡ inserted_at array place x
  put_here array place x h e = rw (e, add-one) (set_split array place x h)

  stays_last : (array : List A) (place : ℕ) (x : A) → length array ≤ place + 1 → insert_by value x (drop (place + 1) array) ≡ x ∷ drop (place + 1) array
  stays_last array place x h = rw (drop_of_length-le array h)

  stays_before : (array : List A) (place : ℕ) (x next : A) → place + 1 < length array → next ≡ get_or array (place + 1) next
      → goes_behind (value x) (value next) ≡ false → insert_by value x (drop (place + 1) array) ≡ x ∷ drop (place + 1) array
  stays_before array place x next more is here =
      rw (rest_is array (place + 1) next more is) (insert_here value x next (drop (suc (place + 1)) array) here)

  -- on the way: inserting from here gives what inserting from the first place gave
  abbrev pub SameFrom : List A → List A → ℕ → ℕ → A → Type 0
  SameFrom before array first place x = inserted_at array place x ≡ inserted_at before first x

  pub inserting_more : (before array : List A) (first place : ℕ) (x next : A) → length array ≡ limit → place + 1 < limit → next ≡ get_or array (place + 1) next
      → goes_behind (value x) (value next) ≡ true → SameFrom before array first place x → SameFrom before (set array place next) first (place + 1) x
  inserting_more before array first place x next long more is behind same = insert_moved array place x next (omega arith) is behind ∙ same

  pub inserted_last : (before array : List A) (first place : ℕ) (x : A) → length array ≡ limit → place < limit → limit ≤ place + 1
      → SameFrom before array first place x → set array place x ≡ inserted_at before first x
  inserted_last before array first place x long within end same =
      put_here array place x (omega arith) (stays_last array place x (omega arith)) ∙ same

  pub inserted_before : (before array : List A) (first place : ℕ) (x next : A) → length array ≡ limit → place + 1 < limit → next ≡ get_or array (place + 1) next
      → goes_behind (value x) (value next) ≡ false → SameFrom before array first place x → set array place x ≡ inserted_at before first x
  inserted_before before array first place x next long more is here same =
      put_here array place x (omega arith) (stays_before array place x next (omega arith) is here) ∙ same

-- one value put at the front, by the three cases of the code
drop_set : (values : List ℕ) (place x : ℕ) → place < length values → drop place (set values place x) ≡ x ∷ drop (suc place) values
drop_set values place x h =
    rw (set_split values place x h) (drop_at (take place values) (x ∷ drop (suc place) values) place (length-take-le place values (omega arith)))

put_is_mark : (x : ℕ) (values : List ℕ) → is_run_mark x ≡ true → put_front x values ≡ insert x values
unfolding put_front pick
put_is_mark x values e = rw e

put_is_none : (x : ℕ) (values : List ℕ) → is_run_mark x ≡ false → put_front x values ≡ join_front x values
unfolding put_front pick
put_is_none x values e = rw e

-- a mark that has to go behind the first value leaves it the first
pub behind_first : (x : ℕ) (values : List ℕ) → first_rank values < rank x % 16 → (is_run_mark x ≡ true) × (first_rank (insert x values) ≡ first_rank values)
behind_first x [] h = let z : ⊥ = omega arith in absurd z
behind_first x (y ∷ values) h =
    let behind : goes_behind x y ≡ true = behind_rank x y ∙ lt-ltb (rank y) (rank x % 16) h in
    ((behind_marks x y behind).0, ap first_rank (insert_behind itself x y values behind))

pub mark_put : (before after : List ℕ) (place x own : ℕ) → Room before place → own ≡ first_rank (drop place before) → own < rank x % 16
    → after ≡ inserted_at itself before (place - 1) x → FrontPut before after place x (record { place = place - 1; rank = own })
mark_put before after place x own r ranked less e =
    let back : place - 1 + 1 ≡ place = omega (arith, r.some) in
    let first = behind_first x (drop place before) (rw ranked at less) in
    let cut : length (take (place - 1) before) ≡ place - 1 = length-take-le (place - 1) before (omega (arith, r.long, r.within)) in
    let shown : after ≡ take (place - 1) before ++ insert x (drop place before) = rw back at e in
    let put : drop (place - 1) after ≡ insert x (drop place before) =
    rw shown (drop_at (take (place - 1) before) (insert x (drop place before)) (place - 1) cut) in
    record {
      long =
          ap length shown
          ∙ omega (arith, length-append (take (place - 1) before) (insert x (drop place before)), insert_length itself x (drop place before), length-drop place before, r.long, r.some, r.within);
      put = put ∙ sym (put_is_mark x (drop place before) first.0);
      ranked = ranked ∙ sym (ap first_rank put ∙ first.1);
      no_later = omega arith;
      no_earlier = omega arith;
    }

-- a 1025 before 102E, which stands within the array
vowel_within : (values : List ℕ) (place : ℕ) → get_or values place 0 ≡ 0x102E → place < length values
vowel_within values place e = go (dec_lt place (length values))
  where
    go : Dec (place < length values) → place < length values
    go (yes l) = l
    go (no l) =
        let past : length values ≤ place = omega arith in
        let z : ⊥ = omega (arith, get_or-eq_default values 0 past) in
        absurd z

pub vowel_room : (before : List ℕ) (place : ℕ) → Room before place → get_or before place 0 ≡ 0x102E → place < limit
vowel_room before place r e = omega (arith, vowel_within before place e, r.long)

pub vowel_put : (before : List ℕ) (place : ℕ) → Room before place → get_or before place 0 ≡ 0x102E
    → FrontPut before (set before place 0x1026) place 0x1025 (record { place = place; rank = 16 })
unfolding put_front is_run_mark makes_long_vowel rank pick
vowel_put before place r e =
    let h : place < length before = vowel_within before place e in
    let put : drop place (set before place 0x1026) ≡ 0x1026 ∷ drop (suc place) before = drop_set before place 0x1026 h in
    record {
      long = length-set before place 0x1026 ∙ r.long;
      put = rw (put, drop-cons before place 0 h, e);
      ranked = rw put;
      no_later = omega arith;
      no_earlier = omega arith;
    }

-- a value that stays one, by whether a value follows it
join_one : (values : List ℕ) (place x : ℕ) → makes_long_vowel x (get_or values place 0) ≡ false
    → join_front x (drop place values) ≡ pick (makes_letter x (get_or values place 0)) 0x1009 x ∷ drop place values
unfolding pick makes_letter
join_one values place x e = go (dec_lt place (length values))
  where
    go : Dec (place < length values) → join_front x (drop place values) ≡ pick (makes_letter x (get_or values place 0)) 0x1009 x ∷ drop place values
    go (yes l) = rw (drop-cons values place 0 l, e)
    go (no l) =
        let past : length values ≤ place = omega arith in
        rw (drop_of_length-le values past, get_or-eq_default values 0 past, and_no_right (eqb x 0x1025) false refl)

-- one value is put before the place
one_put : (before : List ℕ) (place x y own : ℕ) → Room before place → put_front x (drop place before) ≡ y ∷ drop place before → own ≡ rank y
    → FrontPut before (set before (place - 1) y) place x (record { place = place - 1; rank = own })
one_put before place x y own r e ranked =
    let back : suc (place - 1) ≡ place = omega (arith, r.some) in
    let put : drop (place - 1) (set before (place - 1) y) ≡ y ∷ drop place before =
    drop_set before (place - 1) y (omega (arith, r.long, r.some, r.within)) ∙ ap (λ (k : ℕ). y ∷ drop k before) back in
    record {
      long = length-set before (place - 1) y ∙ r.long;
      put = put ∙ sym e;
      ranked = ranked ∙ sym (ap first_rank put);
      no_later = omega arith;
      no_earlier = omega arith;
    }

letter_rank : (letter : Bool) → 16 ≡ rank (pick letter 0x1009 0x1025)
unfolding rank pick
letter_rank true = refl
letter_rank false = refl

pub letter_put : (before : List ℕ) (place : ℕ) → Room before place → (get_or before place 0 ≡ 0x102E → ⊥)
    → FrontPut before (set before (place - 1) (pick (makes_letter 0x1025 (get_or before place 0)) 0x1009 0x1025)) place 0x1025 (record { place = place - 1; rank = 16 })
unfolding is_run_mark makes_long_vowel
letter_put before place r n =
    one_put before place 0x1025 (pick (makes_letter 0x1025 (get_or before place 0)) 0x1009 0x1025) 16 r
    (put_is_none 0x1025 (drop place before) refl ∙ join_one before place 0x1025 (ne_eqb (get_or before place 0) 0x102E n))
    (letter_rank (makes_letter 0x1025 (get_or before place 0)))

-- any other value stands as it is
other_stands : (x : ℕ) (values : List ℕ) → rank x % 16 ≤ first_rank values → (x ≡ 0x1025 → ⊥) → StandsBefore x values
other_stands x [] h n = tt
other_stands x (y ∷ values) h n =
    let u : eqb x 0x1025 ≡ false = ne_eqb x 0x1025 n in
    record { in_order = behind_rank x y ∙ le-ltb (rank y) (rank x % 16) h; no_vowel = other_vowel x y u; no_letter = other_letter x y u }

pub value_put : (before : List ℕ) (place x own first : ℕ) → Room before place → own ≡ rank x → first ≡ first_rank (drop place before)
    → rank x % 16 ≤ first → (x ≡ 0x1025 → ⊥) → FrontPut before (set before (place - 1) x) place x (record { place = place - 1; rank = own })
value_put before place x own first r ranked e h n =
    one_put before place x x own r (put_stands x (drop place before) (other_stands x (drop place before) (rw e at h) n)) ranked
