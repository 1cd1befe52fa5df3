-- `sort_runs` sorts each run and moves nothing else, and only its outcome does: inserting keeps what counts and what rises, and a rising list of marks is told by its counts.
-- Assumes nothing.
use mathlib.Core.Path.{◌≡◌, refl, sym, ap, subst, ◌∙◌}
use mathlib.Core.Bool.{Bool, true, false, not}
use mathlib.Core.List.{List, [], ◌∷◌, ◌++◌}
use Prim.Native.Nat.{ℕ, zero, suc, ◌+◌, ◌≤◌, ◌<◌}
use native.Mathlib.Nat.{le_refl}
use native.Mathlib.Omega.{arith}
use lib.Dec.{T, eqb, leb, leb→le, le→leb}
use lib.ListN.{length, get_or}
use borrow.Author.Tests.{eqb-true, ltb-true, ltb-false, eq-eqb}
use Rattle.letters.specs.Weights.{bit_if}
use Rattle.letters.proofs.Counted.{count}
use Rattle.letters.proofs.Tests.{is_true}
use Rattle.formula.proofs.Lists.{every, both, both_left, both_right}
use Rattle.storage.specs.Stored.{is_run_mark, rank, insert, sort_runs, itself}
use Rattle.storage.specs.Sorted.{rises_to, is_rising, SortedRun, SortedRuns, last_run, run_before}
use Rattle.storage.proofs.Ranks.{is_false, rank_injective, behind_mark, behind_marks}
use Rattle.storage.proofs.Inserting.{on_insert, insert_none, insert_run, insert_count, insert_length}

-- as many values
pub sort_length : (word : List ℕ) → length (sort_runs word) ≡ length word
sort_length [] = refl
sort_length (x ∷ word) = insert_length itself x (sort_runs word) ∙ ap suc (sort_length word)

-- a value that is no mark keeps its place
insert_unmoved : (x : ℕ) (values : List ℕ) (k : ℕ) → is_run_mark (get_or (x ∷ values) k 0) ≡ false → get_or (insert x values) k 0 ≡ get_or (x ∷ values) k 0
insert_unmoved x values =
    on_insert itself x (λ (l r : List ℕ). (k : ℕ) → is_run_mark (get_or (x ∷ l) k 0) ≡ false → get_or r k 0 ≡ get_or (x ∷ l) k 0) (λ k e. refl)
    (λ y l h p. past y l (insert x l) (behind_marks x y h) p) (λ y l h k e. refl) values
  where
    past : (y : ℕ) (l r : List ℕ) → (is_run_mark x ≡ true) × (is_run_mark y ≡ true) → ((k : ℕ) → is_run_mark (get_or (x ∷ l) k 0) ≡ false → get_or r k 0 ≡ get_or (x ∷ l) k 0)
        → (k : ℕ) → is_run_mark (get_or (x ∷ y ∷ l) k 0) ≡ false → get_or (y ∷ r) k 0 ≡ get_or (x ∷ y ∷ l) k 0
    past y l r m p zero e = absurd (subst T (sym m.0 ∙ e) tt)
    past y l r m p (suc zero) e = absurd (subst T (sym m.1 ∙ e) tt)
    past y l r m p (suc (suc k)) e = p (suc k) e

pub sort_unmoved : (word : List ℕ) (k : ℕ) → is_run_mark (get_or word k 0) ≡ false → get_or (sort_runs word) k 0 ≡ get_or word k 0
sort_unmoved [] k e = refl
sort_unmoved (x ∷ word) zero e = insert_unmoved x (sort_runs word) zero e
sort_unmoved (x ∷ word) (suc k) e =
    let rest : get_or (sort_runs word) k 0 ≡ get_or word k 0 = sort_unmoved word k e in
    insert_unmoved x (sort_runs word) (suc k) (rw rest e) ∙ rest

-- a mark that is inserted into what rises leaves it rising
record Rises (x : ℕ) (values inserted : List ℕ) : Type 0 where
  still : T (is_rising inserted)
  above : (z : ℕ) → rank z ≤ rank x → T (rises_to z values) → T (rises_to z inserted)

insert_rising : (x : ℕ) (values : List ℕ) → is_run_mark x ≡ true → T (is_rising values) → Rises x values (insert x values)
insert_rising x values e =
    on_insert itself x (λ (l r : List ℕ). T (is_rising l) → Rises x l r)
    (λ t. record { still = tt; above = λ z h u. le→leb (rank z) (rank x) h })
    (λ y l h p t. let i : Rises x l (insert x l) = p (both_right (rises_to y l) (is_rising l) t) in
    let less : rank y < rank x = ltb-true (rank y) (rank x) (sym (behind_mark x y e) ∙ h) in
    record {
      still = both (rises_to y (insert x l)) (is_rising (insert x l)) (i.above y (omega arith) (both_left (rises_to y l) (is_rising l) t)) i.still;
      above = λ z k u. u;
    })
    (λ y l h t. let more : rank x ≤ rank y = ltb-false (rank y) (rank x) (sym (behind_mark x y e) ∙ h) in
    record {
      still = both (leb (rank x) (rank y)) (is_rising (y ∷ l)) (le→leb (rank x) (rank y) more) t;
      above = λ z k u. le→leb (rank z) (rank x) k;
    })
    values

insert_sorted : (x : ℕ) {run sorted : List ℕ} → is_run_mark x ≡ true → SortedRun run sorted → SortedRun (x ∷ run) (insert x sorted)
insert_sorted x {run} {sorted} e s =
    record {
      marks = both (is_run_mark x) (every is_run_mark run) (subst T (sym e) tt) s.marks;
      same_marks = λ y. insert_count itself (eqb y) x sorted ∙ ap (λ (n : ℕ). bit_if (eqb y x) 1 + n) (s.same_marks y);
      rising = (insert_rising x sorted e s.rising).still;
    }

-- no run
none_sorted : SortedRun [] []
none_sorted = record { marks = tt; same_marks = λ x. refl; rising = tt }

-- a value more in front of sorted runs
front_sorted : (x : ℕ) {word outcome : List ℕ} (b : Bool) → is_run_mark x ≡ b → SortedRuns word outcome → SortedRuns (x ∷ word) (insert x outcome)
front_sorted x true e (last_run s) = last_run (insert_sorted x e s)
front_sorted x true e (run_before {run} {sorted} {word} {outcome} y s n r) =
    rw (insert_run itself x y sorted outcome (is_false (is_run_mark y) n)) (run_before y (insert_sorted x e s) n r)
front_sorted x {word} {outcome} false e r = rw (insert_none itself x outcome e) (run_before x none_sorted (subst (λ (b : Bool). T (not b)) (sym e) tt) r)

-- `sort_runs` does as document 01 says
pub sort_sorted : (word : List ℕ) → SortedRuns word (sort_runs word)
sort_sorted [] = last_run none_sorted
sort_sorted (x ∷ word) = front_sorted x (is_run_mark x) refl (sort_sorted word)

-- a run by itself
sort_run : (run : List ℕ) → T (every is_run_mark run) → SortedRun run (sort_runs run)
sort_run [] t = none_sorted
sort_run (x ∷ run) t =
    insert_sorted x (is_true (is_run_mark x) (both_left (is_run_mark x) (every is_run_mark run) t)) (sort_run run (both_right (is_run_mark x) (every is_run_mark run) t))

-- the runs of a word are sorted one by one
sort_apart : (run : List ℕ) (x : ℕ) (word : List ℕ) → is_run_mark x ≡ false → sort_runs (run ++ (x ∷ word)) ≡ sort_runs run ++ (x ∷ sort_runs word)
sort_apart [] x word e = insert_none itself x (sort_runs word) e
sort_apart (y ∷ run) x word e = ap (insert y) (sort_apart run x word e) ∙ insert_run itself y x (sort_runs run) (sort_runs word) e

-- the first of a list counts
count_first : (x : ℕ) (values : List ℕ) → 0 < count (eqb x) (x ∷ values)
count_first x values = rw (eq-eqb x x refl) (omega arith)

-- a test that all values pass, and each that the list has
every_counted : (f : ℕ → Bool) (values : List ℕ) (x : ℕ) → T (every f values) → 0 < count (eqb x) values → T (f x)
every_counted f [] x t h = let z : ⊥ = omega arith in absurd z
every_counted f (y ∷ values) x t h = go (eqb x y) refl h (every_counted f values x (both_right (f y) (every f values) t))
  where
    go : (b : Bool) → eqb x y ≡ b → 0 < bit_if b 1 + count (eqb x) values → (0 < count (eqb x) values → T (f x)) → T (f x)
    go true e l g = rw (eqb-true x y e) (both_left (f y) (every f values) t)
    go false e l g = g (omega arith)

counted_every : (f : ℕ → Bool) (values : List ℕ) → ((x : ℕ) → 0 < count (eqb x) values → T (f x)) → T (every f values)
counted_every f [] g = tt
counted_every f (y ∷ values) g =
    both (f y) (every f values) (g y (count_first y values)) (counted_every f values (λ x h. g x (omega arith)))

-- no value of what rises comes before the first
rising_least : (x y : ℕ) (values : List ℕ) → T (is_rising (y ∷ values)) → 0 < count (eqb x) (y ∷ values) → rank y ≤ rank x
rising_least x y [] t h = go (eqb x y) refl h
  where
    go : (b : Bool) → eqb x y ≡ b → 0 < bit_if b 1 + 0 → rank y ≤ rank x
    go true e l = rw (eqb-true x y e) (le_refl _)
    go false e l = let z : ⊥ = omega arith in absurd z
rising_least x y (z ∷ values) t h = go (eqb x y) refl h (rising_least x z values (both_right (leb (rank y) (rank z)) (is_rising (z ∷ values)) t))
  where
    go : (b : Bool) → eqb x y ≡ b → 0 < bit_if b 1 + count (eqb x) (z ∷ values) → (0 < count (eqb x) (z ∷ values) → rank z ≤ rank x) → rank y ≤ rank x
    go true e l f = rw (eqb-true x y e) (le_refl _)
    go false e l f =
        let low : rank y ≤ rank z = leb→le (rank y) (rank z) (both_left (leb (rank y) (rank z)) (is_rising (z ∷ values)) t) in
        omega (arith, f (omega arith))

-- what rises is told by how often each mark stands in it
rising_only : (left right : List ℕ) → T (every is_run_mark left) → T (every is_run_mark right) → T (is_rising left) → T (is_rising right)
    → ((x : ℕ) → count (eqb x) left ≡ count (eqb x) right) → left ≡ right
rising_only [] [] m n s t c = refl
rising_only [] (y ∷ right) m n s t c = let z : ⊥ = omega (arith, c y, count_first y right) in absurd z
rising_only (x ∷ left) [] m n s t c = let z : ⊥ = omega (arith, c x, count_first x left) in absurd z
rising_only (x ∷ left) (y ∷ right) m n s t c =
    let below : rank y ≤ rank x = rising_least x y right t (omega (arith, c x, count_first x left)) in
    let above : rank x ≤ rank y = rising_least y x left s (omega (arith, c y, count_first y right)) in
    let first : x ≡ y = rank_injective x y (both_left (is_run_mark x) (every is_run_mark left) m) (both_left (is_run_mark y) (every is_run_mark right) n) (omega arith) in
    let rest : left ≡ right =
    rising_only left right (both_right (is_run_mark x) (every is_run_mark left) m) (both_right (is_run_mark y) (every is_run_mark right) n)
    (both_right (rises_to x left) (is_rising left) s) (both_right (rises_to y right) (is_rising right) t)
    (λ z. omega (arith, c z, ap (λ (k : ℕ). bit_if (eqb z k) 1) first)) in
    rw (first, rest)

-- so a run can be sorted in one way only
same_every : {run sorted : List ℕ} → SortedRun run sorted → T (every is_run_mark sorted)
same_every {run} {sorted} s =
    counted_every is_run_mark sorted (λ x h. every_counted is_run_mark run x s.marks (omega (arith, s.same_marks x)))

run_only : {run sorted other : List ℕ} → SortedRun run sorted → SortedRun run other → sorted ≡ other
run_only {run} {sorted} {other} s o =
    rising_only sorted other (same_every s) (same_every o) s.rising o.rising (λ x. s.same_marks x ∙ sym (o.same_marks x))

-- only the outcome of `sort_runs` is as document 01 says
pub sorted_only : {word outcome : List ℕ} → SortedRuns word outcome → outcome ≡ sort_runs word
sorted_only (last_run {run} s) = run_only s (sort_run run s.marks)
sorted_only (run_before {run} {sorted} {word} x s n r) =
    let first : sorted ≡ sort_runs run = run_only s (sort_run run s.marks) in
    rw (first, sorted_only r) (sym (sort_apart run x word (is_false (is_run_mark x) n)))

-- sorted runs are sorted as they stand
run_again : {run sorted : List ℕ} → SortedRun run sorted → SortedRun sorted sorted
run_again s = record { marks = same_every s; same_marks = λ x. refl; rising = s.rising }

pub sorted_again : {word outcome : List ℕ} → SortedRuns word outcome → SortedRuns outcome outcome
sorted_again (last_run s) = last_run (run_again s)
sorted_again (run_before x s n r) = run_before x (run_again s) n (sorted_again r)

pub sort_idempotent : (word : List ℕ) → sort_runs (sort_runs word) ≡ sort_runs word
sort_idempotent word = sym (sorted_only (sorted_again (sort_sorted word)))
