-- What `open_book` knows as it goes: the definition of the entries, unrolled up to a place, with the live entries before it counted and chained.
-- Assumes nothing.
use mathlib.Core.Path.{◌≡◌, refl, sym, ap, subst, ◌∙◌}
use mathlib.Core.Bool.{Bool, true, false, not, ◌&&◌}
use mathlib.Core.List.{List, [], ◌∷◌, ◌++◌}
use Prim.Native.Nat.{ℕ, zero, suc, ◌+◌, ◌-◌, ◌≤◌, ◌<◌}
use native.Mathlib.Numerals.{add-one}
use native.Mathlib.Omega.{arith}
use borrow.Author.Tests.{eq-eqb, ne_eqb, le-leb, lt-leb}
use lib.Dec.{T, eqb}
use lib.ListN.{length, get_or, drop, set, length-set, length-replicate, drop_of_length-le, get_or-eq_default}
use Rattle.letters.specs.Choice.{pick}
use Rattle.letters.proofs.Tests.{is_true, is_false, of_true, clash}
use Rattle.formula.proofs.Lists.{both, both_left, both_right}
use Rattle.entries.specs.Limits.{book_limit, head_size}
use Rattle.entries.specs.Readable.{is_readable}
use Rattle.entries.specs.Entries.{Entry, word_at, entry_at, is_framed, holds, is_fresh, may_follow, Entries, book, wrong, zero_tail, entries_from, entries, entries_from_within, entries_within, may_follow_within}
use Rattle.entries.specs.Book.{zeros}
use Rattle.entries.specs.Map.{counted, live_count}
use Rattle.entries.proofs.Records.{Framed, framed_true}
use Rattle.entries.proofs.Agree.{Sound, sound}
use Rattle.book_check.specs.Chain.{buckets, bucket_at, Chained}
use Rattle.book_check.specs.Opening.{opening_of, Says, OpenRight}
use Rattle.book_check.specs.declared.open.Opening.{Opening}
use Rattle.std.specs.Prelude.{Result, Ok, Err}
use Rattle.refusals.specs.declared.Refusal.{Refusal}
use Rattle.refusals.specs.declared.Refusal.TheVariants.{NotABook}
use Rattle.book_check.proofs.Chains.{chained_start, chained_removed, chained_live}

pub record Passed (b : List ℕ) (at live : ℕ) (heads links : List ℕ) : Type 0 where
  pub within : at ≤ length b
  pub list : List Entry
  pub fuel : ℕ
  pub enough : length b < at + fuel
  pub unrolled : entries b ≡ entries_from fuel b at list
  pub count : live ≡ live_count list
  pub few : live ≤ at
  pub heads_length : length heads ≡ buckets
  pub links_length : length links ≡ book_limit
  pub chained : Chained b at list heads links

pub too_long : (b : List ℕ) → book_limit < length b → entries b ≡ wrong book_limit
unfolding entries_within pick
too_long b h = ap (λ (t : Bool). pick t (entries_from (suc (length b)) b 0 []) (wrong book_limit)) (lt-leb (length b) book_limit h)

pub passed_start : (b : List ℕ) → length b ≤ book_limit → Passed b 0 0 (zeros buckets) (zeros book_limit)
unfolding entries_within pick
passed_start b h =
    record {
      within = omega arith;
      list = [];
      fuel = suc (length b);
      enough = omega arith;
      unrolled = ap (λ (t : Bool). pick t (entries_from (suc (length b)) b 0 []) (wrong book_limit)) (le-leb (length b) book_limit h);
      count = refl;
      few = omega arith;
      heads_length = length-replicate {A = ℕ} buckets 0;
      links_length = length-replicate {A = ℕ} book_limit 0;
      chained = chained_start b;
    }

-- one turn of the definition
unroll : (k : ℕ) (b : List ℕ) (at : ℕ) (es : List Entry) (s t : Bool) → at ≤ length b → length b < at + k → eqb (get_or b at 0) 0 ≡ s → is_framed b at && may_follow es (entry_at b at) ≡ t
    → entries_from k b at es ≡ pick s (zero_tail (drop at b) at (book es at)) (pick t (entries_from (k - 1) b (at + head_size + get_or b (at + 2) 0) (es ++ (entry_at b at ∷ []))) (wrong at))
unfolding entries_from_within
unroll zero b at es s t w h e f = let z : ⊥ = omega arith in absurd z
unroll (suc k) b at es s t w h e f =
    let p : k ≡ suc k - 1 = omega arith in
    λ i. pick (e i) (zero_tail (drop at b) at (book es at)) (pick (f i) (entries_from (p i) b (at + head_size + get_or b (at + 2) 0) (es ++ (entry_at b at ∷ []))) (wrong at))

module _ (b : List ℕ) (at live : ℕ) (heads links : List ℕ) (p : Passed b at live heads links) where
  pub ends_zero : get_or b at 0 ≡ 0 → entries b ≡ zero_tail (drop at b) at (book p.list at)
  unfolding pick
  ends_zero z = p.unrolled ∙ unroll p.fuel b at p.list true _ p.within p.enough (eq-eqb (get_or b at 0) 0 z) refl

  pub ends_full : length b ≤ at → entries b ≡ book p.list at
  unfolding zero_tail
  ends_full h = ends_zero (get_or-eq_default b 0 {n = at} h) ∙ ap (λ (l : List ℕ). zero_tail l at (book p.list at)) (drop_of_length-le b {i = at} h)

  refused : (get_or b at 0 ≡ 0 → ⊥) → (T (is_framed b at && may_follow p.list (entry_at b at)) → ⊥) → entries b ≡ wrong at
  unfolding pick
  refused z n =
      p.unrolled
      ∙ unroll p.fuel b at p.list false false p.within p.enough (ne_eqb (get_or b at 0) 0 z) (is_false (is_framed b at && may_follow p.list (entry_at b at)) n)

  pub no_record : (get_or b at 0 ≡ 0 → ⊥) → is_framed b at && is_readable (word_at b at) ≡ false → entries b ≡ wrong at
  unfolding may_follow_within
  no_record z e =
      refused z
      (λ t. subst T e (both (is_framed b at) (is_readable (word_at b at)) (both_left (is_framed b at) _ t) (both_left (is_readable (word_at b at)) _ (both_right (is_framed b at) _ t))))

  pub repeated : (get_or b at 0 ≡ 0 → ⊥) → get_or b (at + 1) 0 ≡ 0x57 → holds p.list (word_at b at) ≡ true → entries b ≡ wrong at
  unfolding may_follow_within is_fresh
  repeated z l h =
      refused z
      (λ t. clash (entry_at b at).live (holds p.list (word_at b at)) (of_true (eqb (get_or b (at + 1) 0) 0x57) (eq-eqb (get_or b (at + 1) 0) 0x57 l)) (of_true (holds p.list (word_at b at)) h)
      (both_right (is_readable (word_at b at)) _ (both_right (is_framed b at) _ t)))

  count_snoc : (es : List Entry) (e : Entry) → live_count (es ++ (e ∷ [])) ≡ counted e.live (live_count es)
  count_snoc [] e = refl
  count_snoc (x ∷ es) e = ap (counted x.live) (count_snoc es e) ∙ swap x.live e.live (live_count es)
    where
      swap : (s t : Bool) (n : ℕ) → counted s (counted t n) ≡ counted t (counted s n)
      swap true true n = refl
      swap true false n = refl
      swap false true n = refl
      swap false false n = refl

  module _ (z : get_or b at 0 ≡ 0 → ⊥) (r : is_framed b at && is_readable (word_at b at) ≡ true) where
    pub frame_here : T (is_framed b at)
    frame_here = both_left (is_framed b at) _ (of_true (is_framed b at && is_readable (word_at b at)) r)

    abbrev after : List Entry
    after = p.list ++ (entry_at b at ∷ [])

    go_on : (entry_at b at).live && holds p.list (word_at b at) ≡ false → entries b ≡ entries_from (p.fuel - 1) b (at + head_size + get_or b (at + 2) 0) after
    unfolding pick may_follow_within is_fresh
    go_on n =
        p.unrolled
        ∙ unroll p.fuel b at p.list false true p.within p.enough (ne_eqb (get_or b at 0) 0 z)
        (is_true (is_framed b at && may_follow p.list (entry_at b at))
        (both (is_framed b at) _ frame_here
        (both (is_readable (word_at b at)) _ (both_right (is_framed b at) _ (of_true (is_framed b at && is_readable (word_at b at)) r))
        (subst (λ (t : Bool). T (not t)) (sym n) tt))))

    pub pass_removed : (get_or b (at + 1) 0 ≡ 0x57 → ⊥) → Passed b (at + head_size + get_or b (at + 2) 0) live heads links
    pass_removed dead =
        let f : Framed b at = framed_true b at frame_here in
        let e : (entry_at b at).live ≡ false = ne_eqb (get_or b (at + 1) 0) 0x57 dead in
        record {
          within = f.room;
          list = after;
          fuel = p.fuel - 1;
          enough = omega (arith, p.enough, f.some);
          unrolled = go_on (ap (λ (t : Bool). t && holds p.list (word_at b at)) e);
          count = p.count ∙ sym (count_snoc p.list (entry_at b at) ∙ ap (λ (t : Bool). counted t (live_count p.list)) e);
          few = omega (arith, p.few);
          heads_length = p.heads_length;
          links_length = p.links_length;
          chained = chained_removed b at (at + head_size + get_or b (at + 2) 0) p.list heads links p.chained frame_here (omega (arith, f.some)) (λ t. subst T e t);
        }

    pub pass_live : (h q m : ℕ) → length b ≤ book_limit → get_or b (at + 1) 0 ≡ 0x57 → holds p.list (word_at b at) ≡ false → h ≡ bucket_at b at → h < buckets → q ≡ get_or heads h 0 → m ≡ at + 1
        → Passed b (at + head_size + get_or b (at + 2) 0) (live + 1) (set heads h m) (set links at q)
    pass_live h q m short alive n hb hs qe me =
        let f : Framed b at = framed_true b at frame_here in
        let e : (entry_at b at).live ≡ true = eq-eqb (get_or b (at + 1) 0) 0x57 alive in
        record {
          within = f.room;
          list = after;
          fuel = p.fuel - 1;
          enough = omega (arith, p.enough, f.some);
          unrolled = go_on (ap (λ (t : Bool). t && holds p.list (word_at b at)) e ∙ n);
          count = ap (λ (x : ℕ). x + 1) p.count ∙ add-one (live_count p.list) ∙ sym (count_snoc p.list (entry_at b at) ∙ ap (λ (t : Bool). counted t (live_count p.list)) e);
          few = omega (arith, p.few);
          heads_length = length-set heads h m ∙ p.heads_length;
          links_length = length-set links at q ∙ p.links_length;
          chained = subst (λ (x : ℕ). Chained b (at + head_size + get_or b (at + 2) 0) after (set heads h x) (set links at q)) (sym me)
              (chained_live b at (at + head_size + get_or b (at + 2) 0) p.list heads links p.chained frame_here (omega (arith, f.some)) h q (of_true (entry_at b at).live e) hb
              (omega (arith, p.heads_length)) (omega (arith, p.links_length, f.room)) qe hs);
        }

pub moved : (b : List ℕ) (a a' l l' : ℕ) (h h' k k' : List ℕ) → a' ≡ a → l' ≡ l → h' ≡ h → k' ≡ k → Passed b a l h k → Passed b a' l' h' k'
moved b a a' l l' h h' k k' e f g i p = rw (e, f, g, i) p

-- the record at which the pass is
pub framed_here : {b : List ℕ} {at live : ℕ} {heads links : List ℕ} {is : Bool} → Passed b at live heads links → (get_or b at 0 ≡ 0 → ⊥)
    → is ≡ (is_framed b at && is_readable (word_at b at)) → is ≡ true → Framed b at
framed_here p z e t = framed_true _ _ (frame_here _ _ _ _ _ p z (sym e ∙ t))

-- the answer, with what it tells of a buffer of bytes
pub says_right : (b : List ℕ) (k : Result Opening Refusal) → ((i : ℕ) → get_or b i 0 < 256) → k ≡ opening_of (entries b) → OpenRight b k
says_right b k small e = record { answer = e; opened = subst (Says b) (sym e) (go (entries b) refl (sound b small)) }
  where
    go : (x : Entries) → entries b ≡ x → Sound b x → Says b (opening_of x)
    go (book es f) q s = record { list = es; is_book = s.0; end = s.1 }
    go (wrong p) q s = record { place = p; is = refl; no_book = q }

-- a place where the buffer is no book, by what is known of its entries
pub wrong_right : (b : List ℕ) (place : ℕ) → ((i : ℕ) → get_or b i 0 < 256) → entries b ≡ wrong place → OpenRight b (Err (NotABook place))
wrong_right b place small e = says_right b _ small (sym (ap opening_of e))

-- and a book
pub book_right : (b : List ℕ) (live free : ℕ) (list : List Entry) → ((i : ℕ) → get_or b i 0 < 256) → live ≡ live_count list → entries b ≡ book list free
    → OpenRight b (Ok (record { live = live; free = free }))
book_right b live free list small counted e =
    says_right b _ small (ap (λ (n : ℕ). Ok (record { live = n; free = free })) counted ∙ sym (ap opening_of e))
