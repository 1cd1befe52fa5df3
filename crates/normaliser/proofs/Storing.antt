-- A word and its stored form have foreign values together, so a refusal of the stored form is one of the word.
-- Assumes nothing.
use mathlib.Core.Path.{◌≡◌, refl, sym, subst}
use mathlib.Core.Bool.{false≢true, Bool, true, false, ◌&&◌}
use mathlib.Core.List.{List, [], ◌∷◌}
use Prim.Native.Nat.{ℕ, ◌≤◌, ◌<◌}
use native.Mathlib.Decide.{dec_lt, ℕ_discrete}
use native.Mathlib.Omega.{arith}
use lib.Dec.{T, eqb, eqb→eq}
use lib.ListN.{length, take}
use Rattle.letters.specs.Choice.{pick}
use Rattle.letters.specs.Letters.{is_admitted}
use Rattle.formula.specs.Limits.{limit}
use Rattle.formula.specs.Held.{word_of}
use Rattle.formula.specs.declared.Word.{Word}
use Rattle.formula.proofs.Held.{held_front, held_fits}
use Rattle.formula.proofs.Lists.{both, both_left, both_right, every, every_at, at_every}
use Rattle.refusals.specs.Refusal.{number_of, place_of}
use Rattle.refusals.specs.Outcome.{outcome_of}
use Rattle.refusals.specs.declared.Refusal.{Refusal}
use Rattle.std.specs.Result.{is_ok}
use Rattle.std.specs.declared.result.Result.{Result}
use Rattle.std.specs.declared.result.Result.TheVariants.{Ok, Err}
use Rattle.recogniser.specs.Answer.{Admissible, Answers, Reads, Readable, FirstForeign, RefusedWith, too_long, foreign, no_continuation, unfinished}
use Rattle.recogniser.specs.Concluded.{AdmittedTo}
use Rattle.storage.specs.Stored.{is_run_mark, goes_behind, insert, makes_long_vowel, makes_letter, stored_form}
use Rattle.storage.specs.Putting.{join_front, put_front}
use Rattle.storage.proofs.Composing.{stored_front}
use Rattle.storage.proofs.Outcome.{stored_shorter, stored_admitted}
use Rattle.storage.proofs.Rows.{gives_stored}
use Rattle.normaliser.specs.Admission.{too_long as word_too_long, foreign as strange}
use Rattle.normaliser.specs.Normal.{StoreRefusedWith, unadmitted, outcome, Stores, HoldsForm, NormalRight, HandedIn}

-- what is admitted with x put in front was admitted, and so is x
insert_front : (x : ℕ) (values : List ℕ) → T (every is_admitted (insert x values)) → T (is_admitted x) × T (every is_admitted values)
unfolding pick
insert_front x [] t = (both_left (is_admitted x) true t, tt)
insert_front x (y ∷ values) t = go (goes_behind x y) t (insert_front x values)
  where
    go : (b : Bool) → T (every is_admitted (pick b (y ∷ insert x values) (x ∷ y ∷ values)))
        → (T (every is_admitted (insert x values)) → T (is_admitted x) × T (every is_admitted values)) → T (is_admitted x) × T (is_admitted y && every is_admitted values)
    go true u f =
        let r = f (both_right (is_admitted y) (every is_admitted (insert x values)) u) in
        (r.0, both (is_admitted y) (every is_admitted values) (both_left (is_admitted y) (every is_admitted (insert x values)) u) r.1)
    go false u f = (both_left (is_admitted x) _ u, both_right (is_admitted x) (is_admitted y && every is_admitted values) u)

at_value : (x y : ℕ) → T (eqb x y) → T (is_admitted y) → T (is_admitted x)
at_value x y e t = subst (λ (z : ℕ). T (is_admitted z)) (sym (eqb→eq x y e)) t

join_front_lem : (x : ℕ) (values : List ℕ) → T (every is_admitted (join_front x values)) → T (is_admitted x) × T (every is_admitted values)
unfolding pick makes_long_vowel makes_letter
join_front_lem x [] t = (both_left (is_admitted x) true t, tt)
join_front_lem x (y ∷ values) t = go (makes_long_vowel x y) (λ u. u) (makes_letter x y) (λ u. u) t
  where
    go : (b : Bool) → (T b → T (makes_long_vowel x y)) → (d : Bool) → (T d → T (makes_letter x y))
        → T (every is_admitted (pick b (0x1026 ∷ values) (pick d 0x1009 x ∷ y ∷ values))) → T (is_admitted x) × T (is_admitted y && every is_admitted values)
    go true f d g u = (
      at_value x 0x1025 (both_left (eqb x 0x1025) (eqb y 0x102E) (f tt)) tt,
      both (is_admitted y) (every is_admitted values) (at_value y 0x102E (both_right (eqb x 0x1025) (eqb y 0x102E) (f tt)) tt) u,
    )
    go false f true g u = (at_value x 0x1025 (both_left (eqb x 0x1025) _ (g tt)) tt, u)
    go false f false g u = (both_left (is_admitted x) _ u, both_right (is_admitted x) (is_admitted y && every is_admitted values) u)

put_front_lem : (x : ℕ) (values : List ℕ) → T (every is_admitted (put_front x values)) → T (is_admitted x) × T (every is_admitted values)
unfolding pick put_front
put_front_lem x values t = go (is_run_mark x) t
  where
    go : (b : Bool) → T (every is_admitted (pick b (insert x values) (join_front x values))) → T (is_admitted x) × T (every is_admitted values)
    go true u = insert_front x values u
    go false u = join_front_lem x values u

pub unstored_admitted : (word : List ℕ) → T (every is_admitted (stored_form word)) → T (every is_admitted word)
unstored_admitted [] t = tt
unstored_admitted (x ∷ word) t =
    let r = put_front_lem x (stored_form word) (subst (λ (l : List ℕ). T (every is_admitted l)) (stored_front x word) t) in
    both (is_admitted x) (every is_admitted word) r.0 (unstored_admitted word r.1)

pub normal_too_long : (word : List ℕ) → limit < length word → StoreRefusedWith word 1 limit
normal_too_long word h = unadmitted (word_too_long h)

module _ (word : List ℕ) (short : length word ≤ limit) where
  stored_short : length (stored_form word) ≤ limit
  stored_short = let s = stored_shorter word in omega arith

  pub word_admissible : Admissible (stored_form word) → Admissible word
  word_admissible a =
      record { short = short; admitted = every_at is_admitted word (unstored_admitted word (at_every is_admitted (stored_form word) a.admitted)) }

  -- a refusal of the stored form that is not for a foreign value
  store_refused : (number place : ℕ) → RefusedWith (stored_form word) number place → (number ≡ 2 → ⊥) → StoreRefusedWith word number place
  store_refused number place (too_long h) n = let z : ⊥ = (let s = stored_short in omega arith) in absurd z
  store_refused number place (foreign f) n = absurd (n refl)
  store_refused number place (no_continuation a v l) n = outcome (word_admissible a) (no_continuation a v l)
  store_refused number place (unfinished a r v) n = outcome (word_admissible a) (unfinished a r v)

  -- a foreign value in the stored form is one in the word
  has_foreign : (number place : ℕ) → RefusedWith (stored_form word) number place → number ≡ 2 → T (every is_admitted word) → ⊥
  has_foreign number place (too_long h) e t = omega arith
  has_foreign number place (foreign f) e t = f.foreign (every_at is_admitted (stored_form word) (stored_admitted word t) place f.within)
  has_foreign number place (no_continuation a v l) e t = omega arith
  has_foreign number place (unfinished a r v) e t = omega arith

  first_foreign : (p : ℕ) → AdmittedTo word 0 p → (T (every is_admitted word) → ⊥) → FirstForeign word p
  first_foreign p a n = go (dec_lt p (length word))
    where
      go : Dec (p < length word) → FirstForeign word p
      go (yes h) = record { short = short; within = h; foreign = a.foreign h; before = λ k i. a.before k (omega arith) i }
      go (no h) = absurd (n (at_every is_admitted word (λ k i. a.before k (omega arith) (omega arith))))

  pub refused_right : (refusal answer : Refusal) → RefusedWith (stored_form word) (number_of refusal) (place_of refusal) → HandedIn word refusal answer
      → StoreRefusedWith word (number_of answer) (place_of answer)
  refused_right refusal answer r h = go (ℕ_discrete (number_of refusal) 2)
    where
      go : Dec (number_of refusal ≡ 2) → StoreRefusedWith word (number_of answer) (place_of answer)
      go (yes e) =
          let f = h.first e in
          subst (λ (n : ℕ). StoreRefusedWith word n (place_of answer)) (sym f.0)
          (unadmitted (strange (first_foreign (place_of answer) f.1 (has_foreign (number_of refusal) (place_of refusal) r e))))
      go (no n) =
          subst (λ (a : Refusal). StoreRefusedWith word (number_of a) (place_of a)) (sym (h.same n))
          (store_refused (number_of refusal) (place_of refusal) r n)

  -- the stored form by value, where it is read, and the refusal of the word, where it is refused
  module _ (held : Word) (e : held ≡ word_of (stored_form word)) (answer : Result ℕ Refusal)
      (right : Answers (take held.count held.values) (outcome_of answer)) where
    read : (given : Result ℕ Refusal) → answer ≡ given → Answers (stored_form word) (outcome_of given)
    read given q = subst (λ (a : Result ℕ Refusal). Answers (stored_form word) (outcome_of a)) q (rw (held_front held (stored_form word) e) at right)

    pub normal_right : is_ok answer ≡ true → HoldsForm word held
    normal_right = go answer refl
      where
        go : (given : Result ℕ Refusal) → answer ≡ given → is_ok given ≡ true → HoldsForm word held
        go (Ok n) q t =
            let r = read (Ok n) q in
            record { count = n; stores = record { admissible = word_admissible r.admissible; reads = r }; is_form = e }
        go (Err refusal) q t = absurd (false≢true t)

    pub normal_refused : (refusal of_word : Refusal) → answer ≡ Err refusal → HandedIn word refusal of_word → NormalRight word (Err of_word)
    normal_refused refusal of_word q h = refused_right refusal of_word (read (Err refusal) q) h

-- the values at the front of the held form's array are the stored form
module _ (word : List ℕ) (held : Word) (right : HoldsForm word held) where
  pub form_fits : held.count ≤ length held.values
  form_fits = held_fits held (stored_form word) right.is_form

  pub form_front : take held.count held.values ≡ stored_form word
  form_front = held_front held (stored_form word) right.is_form

-- a row of syllables is its own stored form
pub reads_stores : (word : List ℕ) (n : ℕ) → Reads word n → Stores word n
reads_stores word n reads =
    record {
      admissible = reads.admissible;
      reads = subst (λ (form : List ℕ). Reads form n) (sym (gives_stored reads.row word reads.gives)) reads;
    }

pub readable_stores : (word : List ℕ) (readable : Readable word) → Stores word (length readable.row)
readable_stores word readable =
    reads_stores word (length readable.row)
    (record {
      admissible = readable.admissible;
      row = readable.row;
      gives = readable.gives;
      only = readable.only;
      count = refl;
    })
