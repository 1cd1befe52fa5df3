-- One value more keeps the scan's state right: what the window and the arrays show follows the machine's row, by what the value makes of it.
-- Assumes nothing.
use mathlib.Core.Path.{◌≡◌, refl, ap, sym, subst, ◌∙◌}
use mathlib.Core.Bool.{Bool, true, false}
use mathlib.Core.List.{List, [], ◌∷◌, ◌++◌, append_assoc}
use mathlib.Core.Option.{some}
use Prim.Native.Nat.{ℕ, suc, ◌+◌, ◌-◌, ◌/◌, ◌%◌, ◌≤◌, ◌<◌}
use native.Mathlib.Omega.{arith}
use lib.Dec.{T}
use lib.ListN.{length, get_or, take, set, replicate, length-append, length-take}
use lib.Seq.{set_at, append_snoc}
use Rattle.formula.specs.Limits.{limit}
use Rattle.formula.specs.Syllable.{no_final, great_sa, Syllable, syllable, bare, final_of, is_no_final, head_text}
use Rattle.formula.specs.Row.{Row}
use Rattle.formula.specs.Packed.{packed, packed_top, unread}
use Rattle.formula.specs.declared.Window.{Window}
use Rattle.rows.specs.Machine.{end_of, KeptOk, kept_join, step, run}
use Rattle.transitions.specs.Tables.{entry_of, gain_of, begins_by, next_by, gain_by, rules_of}
use Rattle.states.specs.Transition.{Makes, begins, begins_great_sa, adds_medial, adds_vowel, adds_tone, makes_kinzi, closes}
use Rattle.transitions.proofs.Entered.{Moves, next_entry, next_gain}
use Rattle.syllables.specs.Window.{closed_by, window_after, Fit, WindowOf, below_last}
use Rattle.syllables.proofs.Moved.{made_final, window_moves, closed_below, window_fits, one_more, none_more}
use Rattle.recogniser.proofs.Kept.{kept_right, count_bound}
use Rattle.recogniser.proofs.Walking.{state_bound, walk_refused, moved, moved_on}
use Rattle.scanning.specs.Scanned.{kept_packed, kept_starts, SyllablesOf, StartsOf, ArraysOf, Reached, Scanned}

packed_length : (kept : Row) → length (kept_packed kept) ≡ length kept
packed_length [] = refl
packed_length (s ∷ kept) = omega (arith, length-append (kept_packed kept) (packed s ∷ []), packed_length kept)

pub starts_length : (kept : Row) → length (kept_starts kept) ≡ length kept
starts_length [] = refl
starts_length (s ∷ kept) = omega (arith, length-append (kept_starts kept) (length (kept_join kept) ∷ []), starts_length kept)

-- the last syllable is put at its place, behind those below it
put_last : (s : Syllable) (a : Row) (l : List ℕ) (o : SyllablesOf (s ∷ a) l) → set l (length a) (packed s) ≡ kept_packed (s ∷ a) ++ replicate o.rest 0
put_last s a l o =
    ap (λ (k : List ℕ). set k (length a) (packed s)) o.is
    ∙ set_at (kept_packed a) o.place (replicate o.rest 0) (packed s) (length a) (packed_length a)
    ∙ sym (append_snoc (kept_packed a) (packed s) (replicate o.rest 0))

first_put : (l : List ℕ) (o : SyllablesOf [] l) → set l 0 0 ≡ 0 ∷ replicate o.rest 0
first_put l o = ap (λ (k : List ℕ). set k 0 0) o.is

-- the last syllable is finished by the end of the word
pub completed : (kept : Row) (w : Window) (l : List ℕ) → WindowOf kept w → SyllablesOf kept l
    → set l (w.count - 1) w.last ≡ kept_packed kept ++ replicate (limit - length kept) 0
completed [] w l v o =
    let e : suc o.rest ≡ limit = (let z = o.size in omega arith) in
    rw (v.count, v.last) (first_put l o ∙ ap (λ (n : ℕ). replicate n 0) e)
completed (s ∷ a) w l v o =
    let i : suc (length a) - 1 ≡ length a = omega arith in
    let e : o.rest ≡ limit - suc (length a) = (let z = o.size in omega arith) in
    rw (v.count, v.last, i) (put_last s a l o ∙ ap (λ (n : ℕ). kept_packed (s ∷ a) ++ replicate n 0) e)

-- the last syllable changes, and has a final where it had one
changed : (s t : Syllable) (a : Row) (l k : List ℕ) → (T (is_no_final (final_of t)) → T (is_no_final (final_of s))) → ArraysOf (s ∷ a) l k
    → ArraysOf (t ∷ a) l k
changed s t a l k f o =
    let p = o.syllables_of in
    record {
      syllables_of = record { place = p.place; rest = p.rest; is = p.is; size = p.size; fresh = λ n. p.fresh (f n) };
      starts_of = record { rest = o.starts_of.rest; is = o.starts_of.is; size = o.starts_of.size };
    }

-- the last syllable becomes the final of the one before
closed : (s t u : Syllable) (a : Row) (l k : List ℕ) → T (is_no_final (final_of s)) → (T (is_no_final (final_of u)) → ⊥) → ArraysOf (s ∷ t ∷ a) l k
    → ArraysOf (u ∷ a) l k
closed s t u a l k n f o =
    let p = o.syllables_of in
    let q = o.starts_of in
    record {
      syllables_of =
          record {
            place = packed t;
            rest = suc p.rest;
            is =
                p.is ∙ append_assoc (kept_packed a) (packed t ∷ []) (p.place ∷ replicate p.rest 0)
                ∙ ap (λ (m : ℕ). kept_packed a ++ (packed t ∷ m ∷ replicate p.rest 0)) (p.fresh n);
            size = let z = p.size in omega arith;
            fresh = λ m. absurd (f m);
          };
      starts_of =
          record {
            rest = length (kept_join (t ∷ a)) ∷ q.rest;
            is = q.is ∙ append_assoc (kept_starts (t ∷ a)) (length (kept_join (t ∷ a)) ∷ []) q.rest;
            size = let z = q.size in omega arith;
          };
    }

-- no syllable begins, and the arrays stay
stays : {x d g : ℕ} {kept b : Row} (l k : List ℕ) → Makes x d g kept b → (d ≡ 2 → ⊥) → ArraysOf kept l k → ArraysOf b l k
stays l k (begins h) n o = absurd (n refl)
stays l k (begins_great_sa y) n o = absurd (n refl)
stays l k (adds_medial e) n o = changed _ _ _ l k (λ t. t) o
stays l k (adds_vowel e) n o = changed _ _ _ l k (λ t. t) o
stays l k (adds_tone e) n o = changed _ _ _ l k (λ t. t) o
stays l k makes_kinzi n o = changed _ _ _ l k (λ t. absurd t) o
stays l k (closes i j e) n o = closed _ _ _ _ l k tt (made_final j) o

module _ (at count last : ℕ) where
  -- a syllable begins: the one before it is finished
  finished : (h : ℕ) (kept : Row) (l : List ℕ) → length kept < limit → count ≡ length kept → last ≡ packed_top kept → SyllablesOf kept l
      → SyllablesOf (bare h ∷ kept) (set l (count - 1) last)
  finished h [] l r c p o =
      let e : 0 - 1 ≡ 0 = omega arith in
      rw (c, p, e) (record { place = 0; rest = o.rest; is = first_put l o; size = o.size; fresh = λ _. refl })
  finished h (t ∷ a) l r c p o =
      let i : suc (length a) - 1 ≡ length a = omega arith in
      let z = o.size in
      let e : o.rest ≡ suc (o.rest - 1) = omega arith in
      rw (c, p, i)
      (record {
        place = 0;
        rest = o.rest - 1;
        is = put_last t a l o ∙ ap (λ (n : ℕ). kept_packed (t ∷ a) ++ replicate n 0) e;
        size = omega arith;
        fresh = λ _. refl;
      })

  -- and its place is where the values so far end
  started : (h : ℕ) (kept : Row) (k : List ℕ) → length kept < limit → length (kept_join (bare h ∷ kept)) ≡ suc at → count ≡ length kept
      → StartsOf kept k → StartsOf (bare h ∷ kept) (set k count at)
  started h kept k r j c o = go o.rest o.is o.size
    where
      go : (rest : List ℕ) → k ≡ kept_starts kept ++ rest → length kept + length rest ≡ limit → StartsOf (bare h ∷ kept) (set k count at)
      go [] e z = let no : ⊥ = omega arith in absurd no
      go (y ∷ rest) e z =
          let p : length (kept_join kept) ≡ at = omega (arith, length-append (kept_join kept) (head_text (end_of kept) h ∷ [])) in
          rw (c, e)
          (record {
            rest = rest;
            is =
                set_at (kept_starts kept) y rest at (length kept) (starts_length kept)
                ∙ sym (append_snoc (kept_starts kept) at rest) ∙ ap (λ (n : ℕ). (kept_starts kept ++ (n ∷ [])) ++ rest) (sym p);
            size = omega arith;
          })

  begun : {x d g : ℕ} {kept b : Row} (l k : List ℕ) → Makes x d g kept b → d ≡ 2 → length kept < limit → length (kept_join b) ≡ suc at
      → count ≡ length kept → last ≡ packed_top (below_last b) → ArraysOf kept l k → ArraysOf b (set l (count - 1) last) (set k count at)
  begun {x} {kept = kept} l k (begins h) e r j c p o =
      record { syllables_of = finished x kept l r c p o.syllables_of; starts_of = started x kept k r j c o.starts_of }
  begun l k (begins_great_sa {h = h} {m = m} {v = u} {t = t} {kept = a} y) e r j c p o =
      let q = changed (syllable h m u no_final t) (syllable h m u great_sa t) a l k (λ n. absurd n) o in
      record { syllables_of = finished 0x101E _ l r c p q.syllables_of; starts_of = started 0x101E _ k r j c q.starts_of }
  begun l k (adds_medial i) e r j c p o = let no : ⊥ = omega arith in absurd no
  begun l k (adds_vowel i) e r j c p o = let no : ⊥ = omega arith in absurd no
  begun l k (adds_tone i) e r j c p o = let no : ⊥ = omega arith in absurd no
  begun l k makes_kinzi e r j c p o = let no : ⊥ = omega arith in absurd no
  begun l k (closes i f n) e r j c p o = let no : ⊥ = omega arith in absurd no

-- nothing read yet
pub at_start : (word : List ℕ) → Reached word 0 0 unread (replicate limit 0) (replicate limit 0)
at_start word =
    record {
      walked = record { kept = []; came = refl; state_is = refl; count_is = refl };
      window_of = record { count = refl; last = refl; joined = λ _. tt };
      arrays_of =
          record {
            syllables_of = record { place = 0; rest = limit - 1; is = refl; size = refl; fresh = λ _. refl };
            starts_of = record { rest = replicate limit 0; is = refl; size = refl };
          };
    }

-- there are at most as many syllables as values
pub count_fits : (word : List ℕ) (at state : ℕ) (w : Window) (l k : List ℕ) → Reached word at state w l k → w.count ≤ at
count_fits word at state w l k r = let c = r.window_of.count in omega (arith, count_bound word at r.walked.kept r.walked.came)

-- a turn of the loop, by the windows before and after it: the value begins a syllable, and the one before it is finished, or the arrays stay
pub record Turned (word : List ℕ) (at : ℕ) (w : Window) (l k : List ℕ) (begins : Bool) (next : ℕ) (v : Window) : Type 0 where
  pub begun : begins ≡ true → (i : ℕ) → i ≡ w.count - 1 → (p : ℕ) → p ≡ closed_by (get_or word at 0) w.last → (m : List ℕ) → m ≡ set l i p
      → (n : List ℕ) → n ≡ set k w.count at → Reached word (at + 1) next v m n
  pub stays : begins ≡ false → (m : List ℕ) → m ≡ l → (n : List ℕ) → n ≡ k → Reached word (at + 1) next v m n

-- the end of the word
pub scan_done : (word : List ℕ) (at state : ℕ) (w : Window) (l k : List ℕ) → Reached word at state w l k → length word ≤ limit → at ≡ length word
    → Scanned word (record { at = length word; state = state; count = w.count; syllables = set l (w.count - 1) w.last; starts = k })
scan_done word at state w l k r short end =
    let h = subst (λ (n : ℕ). Reached word n state w l k) end r in
    record {
      stopped = record { short = short; within = omega arith; walked = h.walked; refused = λ i. let no : ⊥ = omega arith in absurd no };
      starts_of = h.arrays_of.starts_of;
      whole = λ _. completed h.walked.kept w l h.window_of h.arrays_of.syllables_of;
    }

-- where the pass has come, and what the tables say of the next value there
module _ (word : List ℕ) (at state : ℕ) (w : Window) (l k : List ℕ) (r : Reached word at state w l k) (entry : ℕ)
    (n : entry ≡ next_by state (rules_of (get_or word at 0))) (inside : at < length word) (short : length word ≤ limit) where
  e : entry ≡ entry_of state (get_or word at 0)
  e = n ∙ next_entry state (get_or word at 0) (state_bound word at state w.count r.walked)

  -- the value is refused
  pub scan_refused : entry ≡ 96 → Scanned word (record { at = at; state = state; count = w.count; syllables = l; starts = k })
  scan_refused q =
      record {
        stopped =
            record { short = short; within = omega arith; walked = r.walked; refused = λ _. walk_refused word at state w.count r.walked entry e q };
        starts_of = r.arrays_of.starts_of;
        whole = λ z. let no : ⊥ = omega arith in absurd no;
      }

  -- or it is read
  module _ (q : entry ≡ 96 → ⊥) (gain : ℕ) (a : gain ≡ gain_by state (rules_of (get_or word at 0))) where
    g : gain ≡ gain_of state (get_or word at 0)
    g = a ∙ next_gain state (get_or word at 0) (state_bound word at state w.count r.walked) (λ z. q (e ∙ z))

    abbrev move : Moves (get_or word at 0) entry (gain_of state (get_or word at 0)) r.walked.kept (step r.walked.kept (get_or word at 0))
    move = moved word at state w.count r.walked entry e inside q

    came : run (take (at + 1) word) [] ≡ some move.after
    came = moved_on word at state w.count r.walked entry e inside q

    kept_ok : KeptOk r.walked.kept
    kept_ok = (kept_right word at r.walked.kept r.walked.came).0

    makes : Makes (get_or word at 0) (entry / 32) gain r.walked.kept move.after
    makes = rw g move.makes

    -- the numbers of the window fit
    pub turn_fits : Fit (entry / 32) gain (get_or word at 0) w
    turn_fits =
        window_fits w makes move.begins_is kept_ok
        (kept_right word (at + 1) move.after came).0 (let b = count_fits word at state w l k r in omega (arith, r.window_of.count)) r.window_of

    module _ (begins : Bool) (b : begins ≡ begins_by (get_or word at 0)) (next : ℕ) (c : next ≡ entry % 32) (v : Window)
        (f : v ≡ window_after (entry / 32) gain (get_or word at 0) w) where
      window_is : WindowOf move.after v
      window_is = rw f (window_moves w makes kept_ok r.window_of)

      reached : (m n : List ℕ) → ArraysOf move.after m n → Reached word (at + 1) next v m n
      reached m n o =
          record {
            walked = record { kept = move.after; came = came; state_is = c ∙ move.state_is; count_is = window_is.count };
            window_of = window_is;
            arrays_of = o;
          }

      pub turned : Turned word at w l k begins next v
      turned =
          let few = count_fits word at state w l k r in
          let joined : length (kept_join move.after) ≡ suc at =
          omega (arith, ap length (kept_right word (at + 1) move.after came).1, length-take (at + 1) word) in
          record {
            begun = λ t i j p d m y n z.
                let two = one_more turn_fits begins b t in
                rw (y, z, j)
                (reached _ _
                (begun at w.count p l k makes two (omega (arith, r.window_of.count)) joined r.window_of.count
                (d ∙ closed_below w makes two r.window_of) r.arrays_of));
            stays = λ t m y n z. rw (y, z) (reached l k (stays l k makes (none_more turn_fits begins b t) r.arrays_of));
          }
