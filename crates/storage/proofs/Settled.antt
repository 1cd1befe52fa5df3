-- A word is its own stored form where each value stands as it is before the next one, and every stored form is such a word: one value more in front keeps it so.
-- Assumes nothing.
use mathlib.Core.Path.{◌≡◌, refl, sym, ap, subst, ◌∙◌}
use mathlib.Core.Bool.{Bool, true, false}
use mathlib.Core.List.{List, [], ◌∷◌}
use Prim.Native.Nat.{ℕ, ◌≤◌, ◌<◌}
use native.Mathlib.Omega.{arith}
use lib.Dec.{T, eqb}
use borrow.Author.Tests.{ltb-true, le-ltb}
use Rattle.letters.specs.Choice.{pick}
use Rattle.storage.specs.Stored.{is_run_mark, rank, goes_behind, insert, makes_long_vowel, makes_letter, stored_form, itself}
use Rattle.storage.specs.Putting.{join_front, put_front}
use Rattle.storage.proofs.Ranks.{behind_none, behind_mark, behind_marks}
use Rattle.storage.proofs.Inserting.{insert_here, on_insert}
use Rattle.storage.proofs.Composing.{other_vowel, other_letter, mark_other, stored_front}

-- neither rule changes x before y
pub record Stands (x y : ℕ) : Type 0 where
  pub in_order : goes_behind x y ≡ false
  pub no_vowel : makes_long_vowel x y ≡ false
  pub no_letter : makes_letter x y ≡ false

abbrev pub StandsBefore : ℕ → List ℕ → Type 0
StandsBefore x [] = Unit {0}
StandsBefore x (y ∷ values) = Stands x y

-- each value stands before the next one
abbrev pub Settled : List ℕ → Type 0
Settled [] = Unit {0}
Settled (x ∷ values) = StandsBefore x values × Settled values

-- a value that is no mark and not 1025 stands before any
pub quiet_stands : (x y : ℕ) → is_run_mark x ≡ false → eqb x 0x1025 ≡ false → Stands x y
quiet_stands x y m u = record { in_order = behind_none x y m; no_vowel = other_vowel x y u; no_letter = other_letter x y u }

pub quiet_before : (x : ℕ) (values : List ℕ) → is_run_mark x ≡ false → eqb x 0x1025 ≡ false → StandsBefore x values
quiet_before x [] m u = tt
quiet_before x (y ∷ values) m u = quiet_stands x y m u

-- and a mark before any that does not rank below it
pub mark_stands : (x y : ℕ) → is_run_mark x ≡ true → rank x ≤ rank y → Stands x y
mark_stands x y m h =
    let u : eqb x 0x1025 ≡ false = mark_other x (subst T (sym m) tt) in
    record { in_order = behind_mark x y m ∙ le-ltb (rank y) (rank x) h; no_vowel = other_vowel x y u; no_letter = other_letter x y u }

-- what stands is put in front as it is
pub put_stands : (x : ℕ) (values : List ℕ) → StandsBefore x values → put_front x values ≡ x ∷ values
unfolding put_front pick
put_stands x [] s = go (is_run_mark x)
  where
    go : (b : Bool) → pick b (x ∷ []) (x ∷ []) ≡ x ∷ []
    go true = refl
    go false = refl
put_stands x (y ∷ values) s = go (is_run_mark x)
  where
    go : (b : Bool) → pick b (insert x (y ∷ values)) (join_front x (y ∷ values)) ≡ x ∷ y ∷ values
    go true = insert_here itself x y values s.in_order
    go false = rw (s.no_vowel, s.no_letter)

-- a settled word is its own stored form
pub settled_stored : (word : List ℕ) → Settled word → stored_form word ≡ word
unfolding stored_form
settled_stored [] s = refl
settled_stored (x ∷ word) s = stored_front x word ∙ ap (put_front x) (settled_stored word s.1) ∙ put_stands x word s.0

-- what is inserted into a settled word leaves it settled
record Inserted (x : ℕ) (values inserted : List ℕ) : Type 0 where
  still : Settled inserted
  before : (z : ℕ) → Stands z x → StandsBefore z values → StandsBefore z inserted

insert_settled : (x : ℕ) (values : List ℕ) → is_run_mark x ≡ true → Settled values → Inserted x values (insert x values)
insert_settled x values m =
    let u : eqb x 0x1025 ≡ false = mark_other x (subst T (sym m) tt) in
    on_insert itself x (λ (l r : List ℕ). Settled l → Inserted x l r) (λ s. record { still = (tt, tt); before = λ z a b. a })
    (λ y l h p s. let i : Inserted x l (insert x l) = p s.1 in
    let less : rank y < rank x = ltb-true (rank y) (rank x) (sym (behind_mark x y m) ∙ h) in
    record { still = (i.before y (mark_stands y x (behind_marks x y h).1 (omega arith)) s.0, i.still); before = λ z a b. b })
    (λ y l h s. record {
      still = (record { in_order = h; no_vowel = other_vowel x y u; no_letter = other_letter x y u }, s);
      before = λ z a b. a;
    })
    values

-- what is no mark and comes in front leaves it settled too
join_settled : (x : ℕ) (values : List ℕ) → is_run_mark x ≡ false → Settled values → Settled (join_front x values)
unfolding is_run_mark pick
join_settled x [] m s = (tt, tt)
join_settled x (y ∷ values) m s = go (makes_long_vowel x y) refl (makes_letter x y) refl
  where
    go : (long : Bool) → makes_long_vowel x y ≡ long → (letter : Bool) → makes_letter x y ≡ letter
        → Settled (pick long (0x1026 ∷ values) (pick letter 0x1009 x ∷ y ∷ values))
    go true e letter f = (quiet_before 0x1026 values refl refl, s.1)
    go false e true f = (quiet_stands 0x1009 y refl refl, s)
    go false e false f = (record { in_order = behind_none x y m; no_vowel = e; no_letter = f }, s)

put_settled : (x : ℕ) (values : List ℕ) → Settled values → Settled (put_front x values)
unfolding put_front pick
put_settled x values s = go (is_run_mark x) refl
  where
    go : (b : Bool) → is_run_mark x ≡ b → Settled (pick b (insert x values) (join_front x values))
    go true e = (insert_settled x values e s).still
    go false e = join_settled x values e s

-- every stored form is settled
pub stored_settled : (word : List ℕ) → Settled (stored_form word)
unfolding stored_form
stored_settled [] = tt
stored_settled (x ∷ word) = rw (stored_front x word) (put_settled x (stored_form word) (stored_settled word))

pub stored_idempotent : (word : List ℕ) → stored_form (stored_form word) ≡ stored_form word
stored_idempotent word = settled_stored (stored_form word) (stored_settled word)
