-- What a transition makes of the row it makes of the window too, by cases on what it makes; and the numbers fit.
-- Assumes nothing.
use mathlib.Core.Path.{◌≡◌, refl, ap, sym, subst, ◌∙◌}
use mathlib.Core.Bool.{Bool, true, false}
use mathlib.Core.List.{[], ◌∷◌}
use Prim.Native.Nat.{ℕ, ◌+◌, ◌-◌, ◌*◌, ◌%◌, ◌^◌, ◌≤◌, ◌<◌}
use native.Mathlib.Nat.{mul-le-mul, pow-le-pow_right, mod-eq_of_lt}
use native.Mathlib.Omega.{arith}
use lib.Dec.{T, eqb, eqb→eq}
use lib.ListN.{length}
use borrow.Author.Tests.{eq-eqb}
use Rattle.letters.specs.Marks.{MedialGroup, Vowel, ToneMark}
use Rattle.letters.specs.Weights.{is_head, is_final_letter}
use Rattle.letters.proofs.Branches.{when_equal, when_unequal}
use Rattle.letters.proofs.Tests.{of_true}
use Rattle.formula.proofs.Classes.{within_bounds, head_bounds}
use Rattle.formula.specs.Limits.{limit}
use Rattle.formula.specs.Syllable.{Final, no_final, plain, syllable, bare, is_no_final, is_syllable}
use Rattle.formula.specs.Record.{link_of}
use Rattle.formula.specs.Row.{Row}
use Rattle.formula.specs.Packed.{packed, packed_top}
use Rattle.formula.specs.declared.Window.{Window}
use Rattle.rows.specs.Machine.{KeptOk, is_not_great_sa}
use Rattle.transitions.specs.Tables.{begins_by}
use Rattle.states.specs.Transition.{Joins, first_plain, first_stacked, second_plain, Makes, begins, begins_great_sa, adds_medial, adds_vowel, adds_tone, makes_kinzi, closes}
use Rattle.states.proofs.Lengths.{makes_length}
use Rattle.syllables.specs.Parts.{link_part}
use Rattle.syllables.specs.Window.{packed_limit, begun_by, closed_by, plain_bit, joined_by, last_kept, window_after, Fit, JoinedTo, WindowOf, below_last}
use Rattle.syllables.proofs.Parted.{packed_small, parted}

module _ (w : Window) (d : ℕ) where
  pub last_itself : d ≡ 1 → w.last ≡ last_kept d w
  unfolding last_kept
  last_itself e = when_equal d 1 _ _ _ e refl

  pub last_joined : (d ≡ 1 → ⊥) → w.joined ≡ last_kept d w
  unfolding last_kept
  last_joined e = when_unequal d 1 _ _ _ e refl

module _ (w : Window) (d g x : ℕ) where
  pub after_head : (h j : ℕ) → d ≡ 2 → h ≡ begun_by x → j ≡ joined_by w.last h
      → record { count = w.count + 1; last = h; joined = j } ≡ window_after d g x w
  unfolding window_after
  after_head h j e f c = when_equal d 2 _ _ _ e (rw (c, f) refl)

  pub after_gain : (k n : ℕ) → (d ≡ 2 → ⊥) → k ≡ last_kept d w → n ≡ w.count + d - 1
      → record { count = n; last = k + g; joined = w.joined } ≡ window_after d g x w
  unfolding window_after
  after_gain k n e f c = when_unequal d 2 _ _ _ e (rw (f, c) refl)

-- what the value says by itself is what becomes of the count
module _ {d g x : ℕ} {w : Window} (f : Fit d g x w) (r : Bool) (e : r ≡ begins_by x) where
  pub one_more : r ≡ true → d ≡ 2
  one_more t = eqb→eq d 2 (of_true (eqb d 2) (sym f.tells ∙ sym e ∙ t))

  pub none_more : r ≡ false → d ≡ 2 → ⊥
  none_more n z = subst T (sym (eq-eqb d 2 z) ∙ sym f.tells ∙ sym e ∙ n) tt

no_great_sa : (x : ℕ) → T (is_head x) → x ≡ 0x103F → ⊥
no_great_sa x h e = subst (λ (y : ℕ). T (is_head y)) e h

begun_head : (x : ℕ) → T (is_head x) → begun_by x ≡ x - 0x1000
unfolding begun_by
begun_head x h = sym (when_unequal x 0x103F _ _ _ (no_great_sa x h) refl)

bare_packed : (x : ℕ) → x - 0x1000 ≡ packed (bare x)
unfolding packed
bare_packed x = omega arith

closed_itself : (x last : ℕ) → (x ≡ 0x103F → ⊥) → closed_by x last ≡ last
unfolding closed_by
closed_itself x last n = sym (when_unequal x 0x103F last _ _ n refl)

closed_great : (x last : ℕ) → x ≡ 0x103F → closed_by x last ≡ last + 0xDF0000
unfolding closed_by
closed_great x last e = sym (when_equal x 0x103F _ _ _ e refl)

begun_great : (x : ℕ) → x ≡ 0x103F → begun_by x ≡ packed (bare 0x101E)
unfolding begun_by packed
begun_great x e = sym (when_equal x 0x103F _ _ _ e refl)

-- a head as the first final of a syllable, or as the second
joined_first : (packed head : ℕ) → plain_bit packed ≡ 0 → joined_by packed head ≡ packed + (head + 1) * 0x10000
unfolding joined_by
joined_first packed head e = rw e

joined_second : (packed head : ℕ) → plain_bit packed ≡ 1 → joined_by packed head ≡ packed + (head + 1) * 0x1000000000000
unfolding joined_by
joined_second packed head e = rw e

-- either is small
added_small : (packed head : ℕ) → head < 0x100 → (head + 1) * 2 ^ (16 + 32 * plain_bit packed) ≤ 0x100000000000000
added_small packed head h =
    let a : head + 1 ≤ 0x100 = omega arith in
    let i : 16 + 32 * plain_bit packed ≤ 48 = omega arith in
    let z : 0 < 2 = omega arith in
    let b : 2 ^ (16 + 32 * plain_bit packed) ≤ 2 ^ 48 = pow-le-pow_right z i in
    let p : (head + 1) * 2 ^ (16 + 32 * plain_bit packed) ≤ 0x100 * 2 ^ 48 = mul-le-mul a b in
    omega arith

-- so that a shift loses nothing of it
pub record Whole (packed head : ℕ) : Type 0 where
  pub small : (head + 1) * 2 ^ (16 + 32 * plain_bit packed) % 0x10000000000000000 ≤ 0x100000000000000
  pub joins : packed + (head + 1) * 2 ^ (16 + 32 * plain_bit packed) % 0x10000000000000000 ≡ joined_by packed head

pub whole : (packed head : ℕ) → head < 0x100 → Whole packed head
unfolding joined_by
whole packed head h =
    let s = added_small packed head h in
    let e : (head + 1) * 2 ^ (16 + 32 * plain_bit packed) % 0x10000000000000000 ≡ (head + 1) * 2 ^ (16 + 32 * plain_bit packed) =
    mod-eq_of_lt {m = 0x10000000000000000} (omega (arith, s)) in
    record { small = omega (arith, e, s); joins = ap (λ (n : ℕ). packed + n) e }

-- the bit of a link
bit_of_lem : (packed : ℕ) → plain_bit packed ≡ link_part packed % 2
bit_of_lem packed = omega arith

-- what a letter joins is a final, and one that it joins is not of 103F
pub made_final : {c : ℕ} {f made : Final} → Joins c f made → T (is_no_final made) → ⊥
made_final first_plain t = t
made_final first_stacked t = t
made_final second_plain t = t

joinable : {c : ℕ} {f made : Final} → Joins c f made → T (is_not_great_sa f)
joinable first_plain = tt
joinable first_stacked = tt
joinable second_plain = tt

-- the joined syllable with the link of the final that is made
module _ (c h : ℕ) (m : MedialGroup) (v : Vowel) (t : ToneMark) (l : T (is_final_letter c)) where
  abbrev with : Final → ℕ
  with f = packed (syllable h m v f t)

  open_joined : T (is_syllable (syllable h m v no_final t)) → joined_by (with no_final) (c - 0x1000) ≡ with no_final + (c - 0x1000 + 1) * 0x10000
  open_joined i = joined_first (with no_final) (c - 0x1000) (bit_of_lem _ ∙ ap (λ (n : ℕ). n % 2) (parted h m v no_final t i).link)

  joined_packed : {f made : Final} → Joins c f made → (g : ℕ) → 0x400000 * link_of made ≡ 0x400000 * link_of f + g
      → T (is_syllable (syllable h m v f t)) → joined_by (with f) (c - 0x1000) + g ≡ with made
  unfolding packed
  joined_packed first_plain g e i = omega (arith, open_joined i, e, within_bounds 0x1000 0x1020 c l)
  joined_packed first_stacked g e i = omega (arith, open_joined i, e, within_bounds 0x1000 0x1020 c l)
  joined_packed (second_plain {b = b}) g e i =
      let j = joined_second (with (plain b)) (c - 0x1000) (bit_of_lem _ ∙ ap (λ (n : ℕ). n % 2) (parted h m v (plain b) t i).link) in
      omega (arith, j, e, within_bounds 0x1000 0x1020 c l)

module _ (w : Window) where
  -- where there are as many syllables
  gained : (g x : ℕ) → record { count = w.count; last = w.last + g; joined = w.joined } ≡ window_after 1 g x w
  gained g x = after_gain w 1 g x w.last w.count (λ (i : 1 ≡ 2). omega arith) (last_itself w 1 refl) (omega arith)

  -- where one begins
  headed : (x g : ℕ) → record { count = w.count + 1; last = begun_by x; joined = joined_by w.last (begun_by x) } ≡ window_after 2 g x w
  headed x g = after_head w 2 g x (begun_by x) (joined_by w.last (begun_by x)) refl refl refl

  joined_head : (x : ℕ) (kept : Row) → T (is_head x) → WindowOf kept w → JoinedTo kept x (joined_by w.last (begun_by x))
  joined_head x [] h o = tt
  joined_head x (s ∷ kept) h o = λ n. ap (λ (i : ℕ). joined_by i (begun_by x)) o.last ∙ ap (joined_by (packed s)) (begun_head x h)

  -- the window after the value is that of the new row
  pub window_moves : {x d g : ℕ} {kept b : Row} → Makes x d g kept b → KeptOk kept → WindowOf kept w → WindowOf b (window_after d g x w)
  unfolding packed
  window_moves {x} {g = g} {kept = kept} (begins h) k o =
      subst (WindowOf (bare x ∷ kept)) (headed x g)
      (record { count = omega (arith, o.count); last = begun_head x h ∙ bare_packed x; joined = λ _. joined_head x kept h o })
  window_moves {x} {g = g} (begins_great_sa y) k o =
      subst (WindowOf _) (headed x g) (record { count = omega (arith, o.count); last = begun_great x y; joined = λ i n. absurd n })
  window_moves {x} {g = g} (adds_medial e) k o =
      subst (WindowOf _) (gained g x) (record { count = o.count; last = omega (arith, o.last, e); joined = o.joined })
  window_moves {x} {g = g} (adds_vowel e) k o =
      subst (WindowOf _) (gained g x) (record { count = o.count; last = omega (arith, o.last, e); joined = o.joined })
  window_moves {x} {g = g} (adds_tone e) k o =
      subst (WindowOf _) (gained g x) (record { count = o.count; last = omega (arith, o.last, e); joined = o.joined })
  window_moves {x} {g = g} makes_kinzi k o =
      subst (WindowOf _) (gained g x) (record { count = o.count; last = omega (arith, o.last); joined = λ t. absurd t })
  window_moves {x} {g = g} (closes {c = c} {h = h} {m = m} {v = v} {t = t} {kept = kept} l j e) k o =
      subst (WindowOf _)
      (after_gain w 0 g x w.joined (length (bare c ∷ kept)) (λ (i : 0 ≡ 2). omega arith) (last_joined w 0 (λ (i : 0 ≡ 1). omega arith))
      (omega (arith, o.count)))
      (record {
        count = refl;
        last = ap (λ (n : ℕ). n + g) (o.joined tt (joinable j)) ∙ joined_packed c h m v t l j g e k.2.1;
        joined = λ i. absurd (made_final j i);
      })

  -- a syllable begins: the one before it is as the value leaves it
  pub closed_below : {x d g : ℕ} {kept b : Row} → Makes x d g kept b → d ≡ 2 → WindowOf kept w → closed_by x w.last ≡ packed_top (below_last b)
  unfolding packed
  closed_below {x} (begins h) e o = closed_itself x w.last (no_great_sa x h) ∙ o.last
  closed_below {x} (begins_great_sa y) e o = closed_great x w.last y ∙ omega (arith, o.last)
  closed_below (adds_medial i) e o = let z : ⊥ = omega arith in absurd z
  closed_below (adds_vowel i) e o = let z : ⊥ = omega arith in absurd z
  closed_below (adds_tone i) e o = let z : ⊥ = omega arith in absurd z
  closed_below makes_kinzi e o = let z : ⊥ = omega arith in absurd z
  closed_below (closes l j i) e o = let z : ⊥ = omega arith in absurd z

  -- and the numbers fit
  pub window_fits : {x d g : ℕ} {kept b : Row} → Makes x d g kept b → begins_by x ≡ eqb d 2 → KeptOk kept → KeptOk b → length kept ≤ limit
      → WindowOf kept w → Fit d g x w
  window_fits {x} {d} {g} {kept} {b} m s k j r o =
      record {
        room = omega (arith, o.count);
        some_left = let l = makes_length m in omega (arith, o.count);
        last = top_small kept k w.last o.last;
        tells = s;
        begins = λ e. begun m e;
        gains = λ e.
            top_small b j (last_kept d w + g)
            (ap (λ (u : Window). u.last) (after_gain w d g x (last_kept d w) (w.count + d - 1) e refl refl) ∙ (window_moves m k o).last);
      }
    where
      top_small : (kept : Row) → KeptOk kept → (n : ℕ) → n ≡ packed_top kept → n < packed_limit
      top_small [] k n e = omega arith
      top_small (syllable h m v f t ∷ kept) k n e = let s = packed_small h m v f t k.1 in omega arith

      begun : {d g : ℕ} {kept b : Row} → Makes x d g kept b → d ≡ 2 → (0x1000 ≤ x) × (x < 0x1100)
      begun (begins h) e = let l = head_bounds x h in (l.0, omega arith)
      begun (begins_great_sa y) e = (omega arith, omega arith)
      begun (adds_medial i) e = let z : ⊥ = omega arith in absurd z
      begun (adds_vowel i) e = let z : ⊥ = omega arith in absurd z
      begun (adds_tone i) e = let z : ⊥ = omega arith in absurd z
      begun makes_kinzi e = let z : ⊥ = omega arith in absurd z
      begun (closes l j i) e = let z : ⊥ = omega arith in absurd z
