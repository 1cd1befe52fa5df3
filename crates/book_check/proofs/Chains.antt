-- The chains: a walk along one passes every live record that can have the word, since equal words have equal hashes; and what one more
-- record does to them. Assumes nothing.
use mathlib.Core.Path.{◌≡◌, refl, sym, ap, subst, ◌∙◌}
use mathlib.Core.Logic.{◌⊎◌, inl, inr, ⊎_elim}
use mathlib.Core.Bool.{Bool, true, false, ◌&&◌, ◌||◌}
use mathlib.Core.List.{List, [], ◌∷◌, ◌++◌, map}
use Prim.Native.Nat.{ℕ, ◌+◌, ◌-◌, ◌≤◌, ◌<◌}
use native.Mathlib.Nat.{le_trans}
use native.Mathlib.Omega.{arith}
use borrow.Author.Tests.{eqb-true, eqb-false}
use lib.Dec.{T, eqb}
use lib.Pointwise.{pointwise}
use lib.ListN.{length, get_or, set, get_or-replicate}
use lib.Seq.{get_or-set_same, get_or-set_other}
use Rattle.letters.proofs.Tests.{is_true, is_false, of_true, or_left, or_right, or_cases}
use Rattle.formula.proofs.Lists.{both, both_left, both_right, same_list, same_list_equal, same_list_refl}
use Rattle.entries.specs.Limits.{book_limit}
use Rattle.entries.specs.Entries.{Entry, value_of, word_at, entry_at, is_framed, holds}
use Rattle.entries.specs.Book.{byte_of, zeros}
use Rattle.entries.proofs.Bytes.{byte_value}
use Rattle.entries.proofs.Records.{Framed, framed_true}
use Rattle.book_check.specs.Chain.{buckets, word_bytes, hash_of, bucket_at, LiveAt, Drawn, Link, Chained, Ready}

-- a walk along the chain of h, at p: what is passed is not the word at `at`
pub record Walked (b : List ℕ) (at : ℕ) (es : List Entry) (h p : ℕ) : Type 0 where
  pub live : 0 < p → LiveAt es (p - 1)
  pub bucket : 0 < p → bucket_at b (p - 1) ≡ h
  pub passed : (s : ℕ) → LiveAt es s → p ≤ s → bucket_at b s ≡ h → same_list (word_at b s) (word_at b at) ≡ false

-- the record at s stands in the buffer, before another
pub record Standing (b : List ℕ) (at s : ℕ) : Type 0 where
  pub frame : Framed b s
  pub before : s < at

pub standing : (b : List ℕ) (at : ℕ) (es : List Entry) (s : ℕ) → Drawn b at es → LiveAt es s → Standing b at s
standing b at [] s d l = absurd l
standing b at (e ∷ es) s d (inl q) =
    subst (λ (x : ℕ). Standing b at x) q.0 (record { frame = framed_true b e.start d.1; before = d.2 })
standing b at (e ∷ es) s d (inr l) = standing b at es s d.3 l

-- the record at which the walk is
pub stand_at : {b heads links : List ℕ} {at bucket p : ℕ} → Ready b at bucket heads links → ((es : List Entry) → Chained b at es heads links → Walked b at es bucket p) → 0 < p
    → Standing b at (p - 1)
stand_at r w h = standing _ _ r.list _ r.chained.drawn ((w r.list r.chained).live h)

pub walk_start : (b : List ℕ) (at : ℕ) (es : List Entry) (heads links : List ℕ) (h p : ℕ) → Chained b at es heads links → h < buckets → p ≡ get_or heads h 0 → Walked b at es h p
walk_start b at es heads links h p c small e =
    let l : Link b es h at p = subst (Link b es h at) (sym e) (c.head h small) in
    record {
      live = l.live;
      bucket = l.bucket_of;
      passed = λ s v le q.
          let t : s < p = l.last s v (standing b at es s c.drawn v).before q in
          let z : ⊥ = omega arith in
          absurd z;
    }

cases : (s t : ℕ) → s ≤ t → (s < t) ⊎ (s ≡ t)
cases s t h = go (eqb s t) refl
  where
    go : (x : Bool) → eqb s t ≡ x → (s < t) ⊎ (s ≡ t)
    go true e = inr (eqb-true s t e)
    go false e = let n : s ≡ t → ⊥ = eqb-false s t e in inl (omega arith)

pub walk_next : (b : List ℕ) (at : ℕ) (es : List Entry) (heads links : List ℕ) (h p r : ℕ) → Chained b at es heads links → Walked b at es h p → 0 < p
    → same_list (word_at b (p - 1)) (word_at b at) ≡ false → r ≡ get_or links (p - 1) 0 → Walked b at es h r × (r < p)
walk_next b at es heads links h p r c w pos d e =
    let hb : bucket_at b (p - 1) ≡ h = w.bucket pos in
    let l : Link b es (bucket_at b (p - 1)) (p - 1) r = subst (Link b es (bucket_at b (p - 1)) (p - 1)) (sym e) (c.link (p - 1) (w.live pos)) in
    let far : (s : ℕ) → LiveAt es s → r ≤ s → bucket_at b s ≡ h → (s < p) ⊎ (p ≤ s) → same_list (word_at b s) (word_at b at) ≡ false =
    (λ s v le q. ⊎_elim
    (λ lt. ⊎_elim
    (λ lt1. let t : s < r = l.last s v lt1 (q ∙ sym hb) in let z : ⊥ = omega arith in absurd z)
    (λ eq. subst (λ (x : ℕ). same_list (word_at b x) (word_at b at) ≡ false) (sym eq) d)
    (cases s (p - 1) (omega arith)))
    (λ ge. w.passed s v ge q)) in (
      record {
        live = l.live;
        bucket = λ g. l.bucket_of g ∙ hb;
        passed = λ s v le q. far s v le q (⊎_elim (λ lt. inl lt) (λ eq. inr (omega arith)) (split s p));
      },
      let k : r ≤ p - 1 = l.below in omega arith,
    )
  where
    split : (s t : ℕ) → (s < t) ⊎ (t ≤ s)
    split s t = go (eqb (t - s) 0) refl
      where
        go : (x : Bool) → eqb (t - s) 0 ≡ x → (s < t) ⊎ (t ≤ s)
        go true e = let q : t - s ≡ 0 = eqb-true (t - s) 0 e in inr (omega arith)
        go false e = let n : t - s ≡ 0 → ⊥ = eqb-false (t - s) 0 e in inl (omega arith)

pub holds_at : (b : List ℕ) (at : ℕ) (es : List Entry) (s : ℕ) (w : List ℕ) → Drawn b at es → LiveAt es s → same_list (word_at b s) w ≡ true → holds es w ≡ true
unfolding holds
holds_at b at [] s w d l e = absurd l
holds_at b at (x ∷ es) s w d (inl q) e =
    let word : x.word ≡ word_at b s = ap (λ (y : Entry). y.word) d.0 ∙ ap (word_at b) q.0 in
    is_true ((x.live && same_list x.word w) || holds es w)
    (or_left (x.live && same_list x.word w) (holds es w)
    (both x.live (same_list x.word w) q.1 (subst (λ (l : List ℕ). T (same_list l w)) (sym word) (of_true (same_list (word_at b s) w) e))))
holds_at b at (x ∷ es) s w d (inr l) e =
    is_true ((x.live && same_list x.word w) || holds es w)
    (or_right (x.live && same_list x.word w) (holds es w) (of_true (holds es w) (holds_at b at es s w d.3 l e)))

not_held : (b : List ℕ) (at : ℕ) (es : List Entry) (w : List ℕ) → Drawn b at es → ((s : ℕ) → LiveAt es s → T (same_list (word_at b s) w) → ⊥) → T (holds es w) → ⊥
unfolding holds
not_held b at [] w d f t = t
not_held b at (x ∷ es) w d f t =
    ⊎_elim
    (λ u. f x.start (inl (refl, both_left x.live (same_list x.word w) u))
    (subst (λ (l : List ℕ). T (same_list l w)) (ap (λ (y : Entry). y.word) d.0) (both_right x.live (same_list x.word w) u)))
    (λ u. not_held b at es w d.3 (λ s l. f s (inr l)) u)
    (or_cases (x.live && same_list x.word w) (holds es w) t)

-- equal words have equal hashes
same_bucket : (b : List ℕ) (s at : ℕ) → T (same_list (word_at b s) (word_at b at)) → bucket_at b s ≡ bucket_at b at
unfolding bucket_at
same_bucket b s at t =
    let e : word_bytes b s ≡ word_bytes b at = sym (byte_value (word_bytes b s)) ∙ ap (map byte_of) (same_list_equal (word_at b s) (word_at b at) t) ∙ byte_value (word_bytes b at) in
    ap (λ (l : List ℕ). hash_of l 0) e

-- at the end of the chain nothing is left
pub walk_end : (b : List ℕ) (at : ℕ) (es : List Entry) (p : ℕ) → Drawn b at es → Walked b at es (bucket_at b at) p → p ≤ 0 → holds es (word_at b at) ≡ false
walk_end b at es p d w z =
    is_false (holds es (word_at b at))
    (not_held b at es (word_at b at) d
    (λ s l t. subst T (w.passed s l (omega arith) (same_bucket b s at t)) t))

same_up : (l m : List ℕ) → same_list (map value_of l) (map value_of m) ≡ same_list l m
same_up l m = go (same_list l m) refl
  where
    go : (x : Bool) → same_list l m ≡ x → same_list (map value_of l) (map value_of m) ≡ x
    go true e = is_true (same_list (map value_of l) (map value_of m)) (subst (λ (n : List ℕ). T (same_list (map value_of l) (map value_of n))) (same_list_equal l m (of_true (same_list l m) e)) (same_list_refl (map value_of l)))
    go false e =
        is_false (same_list (map value_of l) (map value_of m))
        (λ t. let q : l ≡ m = sym (byte_value l) ∙ ap (map byte_of) (same_list_equal (map value_of l) (map value_of m) t) ∙ byte_value m in
        subst T e (subst (λ (n : List ℕ). T (same_list l n)) q (same_list_refl l)))

-- a comparison of two lists of bytes
pointwise_same : (xs ys : List ℕ) → pointwise eqb xs ys ≡ same_list xs ys
pointwise_same [] [] = refl
pointwise_same [] (y ∷ ys) = refl
pointwise_same (x ∷ xs) [] = refl
pointwise_same (x ∷ xs) (y ∷ ys) = ap (λ (t : Bool). eqb x y && t) (pointwise_same xs ys)

-- the code's comparison of two words, by their bytes
pub compared : {first second : List ℕ} {r : Bool} (b : List ℕ) (s at : ℕ) → first ≡ word_bytes b s → second ≡ word_bytes b at → r ≡ pointwise eqb first second
    → same_list (word_at b s) (word_at b at) ≡ r
compared b s at e f q = same_up (word_bytes b s) (word_bytes b at) ∙ sym (pointwise_same (word_bytes b s) (word_bytes b at)) ∙ sym (q ∙ (λ i. pointwise eqb (e i) (f i)))

-- with one entry more those that were live still are, and the last is where it is live
live_left : (es : List Entry) (e : Entry) (s : ℕ) → LiveAt es s → LiveAt (es ++ (e ∷ [])) s
live_left [] e s l = absurd l
live_left (x ∷ es) e s (inl q) = inl q
live_left (x ∷ es) e s (inr l) = inr (live_left es e s l)

live_last : (es : List Entry) (e : Entry) → T e.live → LiveAt (es ++ (e ∷ [])) e.start
live_last [] e t = inl (refl, t)
live_last (x ∷ es) e t = inr (live_last es e t)

live_cases : (es : List Entry) (e : Entry) (s : ℕ) → LiveAt (es ++ (e ∷ [])) s → LiveAt es s ⊎ ((e.start ≡ s) × T e.live)
live_cases [] e s (inl q) = inr q
live_cases [] e s (inr l) = absurd l
live_cases (x ∷ es) e s (inl q) = inl (inl q)
live_cases (x ∷ es) e s (inr l) = ⊎_elim (λ v. inl (inr v)) (λ v. inr v) (live_cases es e s l)

drawn_snoc : (b : List ℕ) (at next : ℕ) (es : List Entry) (e : Entry) → Drawn b at es → at ≤ next → e ≡ entry_at b e.start → T (is_framed b e.start) → e.start < next
    → Drawn b next (es ++ (e ∷ []))
drawn_snoc b at next [] e d le q f lt = (q, f, lt, tt)
drawn_snoc b at next (x ∷ es) e d le q f lt = (d.0, d.1, le_trans d.2 le, drawn_snoc b at next es e d.3 le q f lt)

pub chained_start : (b : List ℕ) → Chained b 0 [] (zeros buckets) (zeros book_limit)
chained_start b =
    record {
      drawn = tt;
      head = λ h l.
          let z : get_or (zeros buckets) h 0 ≡ 0 = get_or-replicate buckets h 0 0 l in
          record {
            below = omega arith;
            last = λ s v. absurd v;
            live = λ p. let n : ⊥ = omega arith in absurd n;
            bucket_of = λ p. let n : ⊥ = omega arith in absurd n;
          };
      link = λ s v. absurd v;
    }

module _ (b : List ℕ) (at next : ℕ) (es : List Entry) (heads links : List ℕ) (c : Chained b at es heads links) (f : T (is_framed b at)) (lt : at < next) where
  -- a removed record changes no chain
  pub chained_removed : (T (entry_at b at).live → ⊥) → Chained b next (es ++ (entry_at b at ∷ [])) heads links
  chained_removed dead =
      let e : Entry = entry_at b at in
      let fs : List Entry = es ++ (e ∷ []) in
      let back : (s : ℕ) → LiveAt fs s → LiveAt es s = (λ s v. ⊎_elim (λ u. u) (λ u. absurd (dead u.1)) (live_cases es e s v)) in
      let wider : (h q p : ℕ) → Link b es h q p → Link b fs h q p =
      (λ h q p l. record { below = l.below; last = λ s v. l.last s (back s v); live = λ g. live_left es e (p - 1) (l.live g); bucket_of = l.bucket_of }) in
      record {
        drawn = drawn_snoc b at next es e c.drawn (omega arith) refl f lt;
        head = λ h l.
            let k : Link b es h at (get_or heads h 0) = c.head h l in
            record {
              below = omega (arith, k.below);
              last = λ s v g q. k.last s (back s v) (standing b at es s c.drawn (back s v)).before q;
              live = λ g. live_left es e (get_or heads h 0 - 1) (k.live g);
              bucket_of = k.bucket_of;
            };
        link = λ s v. wider (bucket_at b s) s (get_or links s 0) (c.link s (back s v));
      }

  -- a live record becomes the head of its chain
  pub chained_live : (h p : ℕ) → T (entry_at b at).live → h ≡ bucket_at b at → h < length heads → at < length links → p ≡ get_or heads h 0 → h < buckets
      → Chained b next (es ++ (entry_at b at ∷ [])) (set heads h (at + 1)) (set links at p)
  chained_live h p alive hb hl ll pe small =
      let e : Entry = entry_at b at in
      let fs : List Entry = es ++ (e ∷ []) in
      record {
        drawn = drawn_snoc b at next es e c.drawn (omega arith) refl f lt;
        head = λ g l. head_of_lem g l (eqb g h) refl;
        link = λ s v. ⊎_elim
            (λ u. link_old s u)
            (λ u. subst (λ (x : ℕ). Link b fs (bucket_at b x) x (get_or (set links at p) x 0)) u.0 link_new)
            (live_cases es e s v);
      }
    where
      new : Entry
      new = entry_at b at

      olds : (s : ℕ) → LiveAt es s → s < at
      olds s v = (standing b at es s c.drawn v).before

      head_new : Link b (es ++ (new ∷ [])) h next (at + 1)
      head_new =
          record {
            below = omega arith;
            last = λ s v g q. ⊎_elim (λ u. let k : s < at = olds s u in omega arith) (λ u. let k : at ≡ s = u.0 in omega arith) (live_cases es new s v);
            live = λ g. let k : at + 1 - 1 ≡ at = omega arith in subst (LiveAt (es ++ (new ∷ []))) (sym k) (live_last es new alive);
            bucket_of = λ g. let k : at + 1 - 1 ≡ at = omega arith in ap (bucket_at b) k ∙ sym hb;
          }

      head_of_lem : (g : ℕ) → g < buckets → (t : Bool) → eqb g h ≡ t → Link b (es ++ (new ∷ [])) g next (get_or (set heads h (at + 1)) g 0)
      head_of_lem g l true q =
          let k : g ≡ h = eqb-true g h q in
          subst (λ (x : ℕ). Link b (es ++ (new ∷ [])) x next (get_or (set heads h (at + 1)) x 0)) (sym k)
          (subst (Link b (es ++ (new ∷ [])) h next) (sym (get_or-set_same heads h (at + 1) 0 hl)) head_new)
      head_of_lem g l false q =
          let n : g ≡ h → ⊥ = eqb-false g h q in
          let k : Link b es g at (get_or heads g 0) = c.head g l in
          subst (Link b (es ++ (new ∷ [])) g next) (sym (get_or-set_other heads h g (at + 1) 0 n))
          (record {
            below = omega (arith, k.below);
            last = λ s v i j. ⊎_elim (λ u. k.last s u (olds s u) j) (λ u. absurd (n (sym j ∙ ap (bucket_at b) (sym u.0) ∙ sym hb))) (live_cases es new s v);
            live = λ i. live_left es new (get_or heads g 0 - 1) (k.live i);
            bucket_of = k.bucket_of;
          })

      link_old : (s : ℕ) → LiveAt es s → Link b (es ++ (new ∷ [])) (bucket_at b s) s (get_or (set links at p) s 0)
      link_old s u =
          let sl : s < at = olds s u in
          let k : Link b es (bucket_at b s) s (get_or links s 0) = c.link s u in
          subst (Link b (es ++ (new ∷ [])) (bucket_at b s) s) (sym (get_or-set_other links at s p 0 (λ q. let z : ⊥ = omega arith in z)))
          (record {
            below = k.below;
            last = λ t v i j. ⊎_elim (λ y. k.last t y i j) (λ y. let q : at ≡ t = y.0 in let z : ⊥ = omega arith in absurd z) (live_cases es new t v);
            live = λ i. live_left es new (get_or links s 0 - 1) (k.live i);
            bucket_of = k.bucket_of;
          })

      link_new : Link b (es ++ (new ∷ [])) (bucket_at b at) at (get_or (set links at p) at 0)
      link_new =
          let k : Link b es (bucket_at b at) at p = subst (λ (x : ℕ). Link b es x at p) hb (subst (Link b es h at) (sym pe) (c.head h small)) in
          subst (Link b (es ++ (new ∷ [])) (bucket_at b at) at) (sym (get_or-set_same links at p 0 ll))
          (record {
            below = k.below;
            last = λ t v i j. ⊎_elim (λ y. k.last t y i j) (λ y. let q : at ≡ t = y.0 in let z : ⊥ = omega arith in absurd z) (live_cases es new t v);
            live = λ i. live_left es new (p - 1) (k.live i);
            bucket_of = k.bucket_of;
          })
