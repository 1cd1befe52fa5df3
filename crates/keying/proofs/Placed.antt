-- The bytes of the key while a word is read: a syllable is put when the next one begins, and the last at the end.
-- Assumes nothing.
use mathlib.Core.Path.{◌≡◌, refl, ap, sym, subst, ◌∙◌}
use mathlib.Core.Bool.{Bool, true, false}
use mathlib.Core.List.{List, [], ◌∷◌, ◌++◌, append_assoc, append-nil, reverse, reverse_aux}
use Prim.Native.Nat.{ℕ, zero, suc, ◌+◌, ◌-◌, ◌<◌}
use native.Mathlib.Nat.{zero-add, suc-add}
use native.Mathlib.Omega.{arith}
use lib.Dec.{T, eqb}
use lib.ListN.{length, drop, length-append, length-replicate}
use lib.Seq.{take_at, drop_at, drop-append-add, sets, sets-eq, length-sets}
use Rattle.letters.specs.Choice.{pick}
use Rattle.letters.proofs.Branches.{when_equal, when_unequal}
use Rattle.formula.specs.Limits.{limit, weight_count}
use Rattle.formula.specs.Syllable.{no_final, great_sa, Syllable, syllable, bare, final_of, is_no_final, is_syllable}
use Rattle.formula.specs.Row.{Row}
use Rattle.formula.specs.Packed.{packed, packed_top}
use Rattle.formula.specs.Weighing.{weights_of}
use Rattle.rows.specs.Machine.{KeptOk}
use Rattle.states.specs.Transition.{Makes, begins, begins_great_sa, adds_medial, adds_vowel, adds_tone, makes_kinzi, closes}
use Rattle.syllables.proofs.Moved.{made_final}
use Rattle.weighing.specs.Keys.{key_limit, used_bytes, zeros, key_of}
use Rattle.syllable_weights.specs.Weights.{weights_by}
use Rattle.syllables.specs.Window.{below_last}
use Rattle.keying.specs.Filling.{put_last, bytes_after, kept_key, KeyOf}
use Rattle.syllable_weights.proofs.Weighted.{weights_packed}

weights_long : (s : Syllable) → length (weights_of s) ≡ weight_count
unfolding weights_of
weights_long (syllable h m v f t) = refl

kept_long : (kept : Row) → length (kept_key kept) ≡ used_bytes (length kept)
kept_long [] = refl
kept_long (s ∷ kept) = length-append (kept_key kept) (weights_of s) ∙ omega (arith, weights_long s, kept_long kept)

zeros_add : (m n : ℕ) → zeros m ++ zeros n ≡ zeros (m + n)
zeros_add zero n = ap zeros (sym (zero-add n))
zeros_add (suc m) n = ap (λ (l : List ℕ). 0 ∷ l) (zeros_add m n) ∙ ap zeros (sym (suc-add m n))

-- values put in the place of as many
sets_in : (a p z v : List ℕ) (n : ℕ) → length a ≡ n → length p ≡ length v → sets (a ++ (p ++ z)) n v ≡ a ++ (v ++ z)
sets_in a p z v n e f =
    sets-eq v (a ++ (p ++ z)) n (omega (arith, length-append a (p ++ z), length-append p z))
    ∙ ap (λ (k : List ℕ). (k ++ v) ++ drop (n + length v) (a ++ (p ++ z))) (take_at a (p ++ z) n e)
    ∙ ap (λ (k : ℕ). (a ++ v) ++ drop (k + length v) (a ++ (p ++ z))) (sym e)
    ∙ ap (λ (k : List ℕ). (a ++ v) ++ k) (drop-append-add a (p ++ z) (length v) ∙ drop_at p z (length v) f)
    ∙ append_assoc a v z

pub key_start : KeyOf [] (zeros key_limit)
key_start = record { place = zeros weight_count; rest = key_limit - weight_count; is = sym (zeros_add weight_count (key_limit - weight_count)); sized = refl; size = refl; fresh = λ _. refl }

pub key_length : (kept : Row) (bytes : List ℕ) → KeyOf kept bytes → length bytes ≡ key_limit
key_length kept bytes k =
    ap length k.is
    ∙ omega (
      arith,
      length-append (kept_key (below_last kept)) (k.place ++ zeros k.rest),
      length-append k.place (zeros k.rest),
      length-replicate {A = ℕ} k.rest 0,
      kept_long (below_last kept),
      k.sized,
      k.size,
    )

-- the last syllable, put at its place
put_at : (t s : Syllable) (rest : Row) (bytes : List ℕ) (k : KeyOf (t ∷ rest) bytes) → T (is_syllable s) → (p : ℕ) → p ≡ packed s
    → put_last (suc (length rest)) p bytes ≡ kept_key (s ∷ rest) ++ zeros k.rest
unfolding put_last
put_at t s rest bytes k i p e =
    let v : weights_by p ≡ weights_of s = ap weights_by e ∙ weights_packed s i in
    let n : length (kept_key rest) ≡ used_bytes (suc (length rest) - 1) = omega (arith, kept_long rest) in
    sym (when_unequal (suc (length rest)) 0 _ _ _ (λ (z : suc (length rest) ≡ 0). omega arith) refl)
    ∙ ap (λ (l : List ℕ). sets bytes (used_bytes (suc (length rest) - 1)) l) v
    ∙ ap (λ (l : List ℕ). sets l (used_bytes (suc (length rest) - 1)) (weights_of s)) k.is
    ∙ sets_in (kept_key rest) k.place (zeros k.rest) (weights_of s) _ n (k.sized ∙ sym (weights_long s))
    ∙ sym (append_assoc (kept_key rest) (weights_of s) (zeros k.rest))

-- another syllable begins on it
begun : (y t s : Syllable) (rest : Row) (bytes : List ℕ) → KeyOf (t ∷ rest) bytes → T (is_syllable s) → suc (length rest) < limit
    → (p : ℕ) → p ≡ packed s → KeyOf (y ∷ s ∷ rest) (put_last (suc (length rest)) p bytes)
begun y t s rest bytes k i h p e =
    let z = k.size in
    let r : k.rest ≡ weight_count + (k.rest - weight_count) = omega arith in
    record {
      place = zeros weight_count;
      rest = k.rest - weight_count;
      is =
          put_at t s rest bytes k i p e ∙ ap (λ (n : ℕ). kept_key (s ∷ rest) ++ zeros n) r
          ∙ ap (λ (l : List ℕ). kept_key (s ∷ rest) ++ l) (sym (zeros_add weight_count (k.rest - weight_count)));
      sized = refl;
      size = omega arith;
      fresh = λ _. refl;
    }

first_begun : (y : Syllable) (bytes : List ℕ) (p : ℕ) → KeyOf [] bytes → KeyOf (y ∷ []) (put_last 0 p bytes)
unfolding put_last pick
first_begun y bytes p k = record { place = k.place; rest = k.rest; is = k.is; sized = k.sized; size = k.size; fresh = λ _. k.fresh tt }

pub not_begun : (d count p : ℕ) (bytes : List ℕ) → (d ≡ 2 → ⊥) → bytes ≡ bytes_after d count p bytes
unfolding bytes_after
not_begun d count p bytes n = when_unequal d 2 _ _ _ n refl

pub is_begun : (d count p : ℕ) (bytes : List ℕ) → d ≡ 2 → put_last count p bytes ≡ bytes_after d count p bytes
unfolding bytes_after
is_begun d count p bytes e = when_equal d 2 _ _ _ e refl

-- the last syllable changes, and what is put stays
changed : (s n : Syllable) (rest : Row) (bytes : List ℕ) → (T (is_no_final (final_of n)) → T (is_no_final (final_of s))) → KeyOf (s ∷ rest) bytes
    → KeyOf (n ∷ rest) bytes
changed s n rest bytes f k =
    record { place = k.place; rest = k.rest; is = k.is; sized = k.sized; size = k.size; fresh = λ t. k.fresh (f t) }

-- the last head is the final of the syllable below it, which is put again when it ends
closed : (top s n : Syllable) (rest : Row) (bytes : List ℕ) → T (is_no_final (final_of top)) → (T (is_no_final (final_of n)) → ⊥)
    → KeyOf (top ∷ s ∷ rest) bytes → KeyOf (n ∷ rest) bytes
closed top s n rest bytes t f k =
    let z = k.size in
    record {
      place = weights_of s;
      rest = weight_count + k.rest;
      is =
          k.is ∙ ap (λ (u : List ℕ). kept_key (s ∷ rest) ++ (u ++ zeros k.rest)) (k.fresh t)
          ∙ ap (λ (u : List ℕ). kept_key (s ∷ rest) ++ u) (zeros_add weight_count k.rest) ∙ append_assoc (kept_key rest) (weights_of s) (zeros (weight_count + k.rest));
      sized = weights_long s;
      size = omega arith;
      fresh = λ u. absurd (f u);
    }

module _ (bytes : List ℕ) (p : ℕ) where
  pushed : (y : Syllable) (kept : Row) → KeptOk kept → length kept < limit → p ≡ packed_top kept → KeyOf kept bytes
      → KeyOf (y ∷ kept) (put_last (length kept) p bytes)
  pushed y [] o h e k = first_begun y bytes p k
  pushed y (s ∷ rest) o h e k = begun y s s rest bytes k o.1 h p e

  -- the bytes after the value are those of the new row, where the syllable below the last is put
  pub key_moves : {x d g : ℕ} {kept b : Row} → Makes x d g kept b → KeptOk b → length kept < limit
      → (d ≡ 2 → p ≡ packed_top (below_last b)) → KeyOf kept bytes → KeyOf b (bytes_after d (length kept) p bytes)
  key_moves {x} {kept = kept} (begins i) o h e k =
      subst (KeyOf (bare x ∷ kept)) (is_begun 2 (length kept) p bytes refl) (pushed (bare x) kept o.2 h (e refl) k)
  key_moves (begins_great_sa {h = g} {m = m} {v = v} {t = t} {kept = kept} y) o h e k =
      subst (KeyOf (bare 0x101E ∷ syllable g m v great_sa t ∷ kept)) (is_begun 2 (suc (length kept)) p bytes refl)
      (begun (bare 0x101E) (syllable g m v no_final t) (syllable g m v great_sa t) kept bytes k o.2.1 h p (e refl))
  key_moves {kept = kept} {b} (adds_medial i) o h e k =
      subst (KeyOf b) (not_begun 1 (length kept) p bytes (λ (z : 1 ≡ 2). omega arith)) (changed _ _ _ bytes (λ t. t) k)
  key_moves {kept = kept} {b} (adds_vowel i) o h e k =
      subst (KeyOf b) (not_begun 1 (length kept) p bytes (λ (z : 1 ≡ 2). omega arith)) (changed _ _ _ bytes (λ t. t) k)
  key_moves {kept = kept} {b} (adds_tone i) o h e k =
      subst (KeyOf b) (not_begun 1 (length kept) p bytes (λ (z : 1 ≡ 2). omega arith)) (changed _ _ _ bytes (λ t. t) k)
  key_moves {kept = kept} {b} makes_kinzi o h e k =
      subst (KeyOf b) (not_begun 1 (length kept) p bytes (λ (z : 1 ≡ 2). omega arith)) (changed _ _ _ bytes (λ t. absurd t) k)
  key_moves {kept = kept} {b} (closes l j i) o h e k =
      subst (KeyOf b) (not_begun 0 (length kept) p bytes (λ (z : 0 ≡ 2). omega arith)) (closed _ _ _ _ bytes tt (made_final j) k)

-- at the end of the word
pub key_end : (kept : Row) (bytes : List ℕ) (p : ℕ) → KeptOk kept → p ≡ packed_top kept → KeyOf kept bytes
    → put_last (length kept) p bytes ≡ kept_key kept ++ zeros (key_limit - used_bytes (length kept))
unfolding put_last pick
key_end [] bytes p o e k =
    let z = k.size in
    k.is ∙ ap (λ (u : List ℕ). u ++ zeros k.rest) (k.fresh tt) ∙ zeros_add weight_count k.rest
    ∙ ap zeros (let r : weight_count + k.rest ≡ key_limit = omega arith in r)
key_end (s ∷ rest) bytes p o e k =
    let z = k.size in
    put_at s s rest bytes k o.1 p e
    ∙ ap (λ (n : ℕ). kept_key (s ∷ rest) ++ zeros n) (let r : k.rest ≡ key_limit - used_bytes (suc (length rest)) = omega arith in r)

-- what is kept is the row in reverse
key_reverse : (a r : Row) → key_of (reverse_aux a r) ≡ kept_key a ++ key_of r
key_reverse [] r = refl
key_reverse (s ∷ a) r = key_reverse a (s ∷ r) ∙ sym (append_assoc (kept_key a) (weights_of s) (key_of r))

pub kept_key_lem : (kept : Row) → key_of (reverse kept) ≡ kept_key kept
kept_key_lem kept = key_reverse kept [] ∙ append-nil (kept_key kept)

pub put_length : (count p : ℕ) (bytes : List ℕ) → length (put_last count p bytes) ≡ length bytes
unfolding put_last pick
put_length count p bytes = go (eqb count 0)
  where
    go : (b : Bool) → length (pick b bytes (sets bytes (used_bytes (count - 1)) (weights_by p))) ≡ length bytes
    go true = refl
    go false = length-sets bytes (used_bytes (count - 1)) (weights_by p)
