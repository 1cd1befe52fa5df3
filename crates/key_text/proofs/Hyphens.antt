-- Elements with a text between them, as the loop writes them: an element a turn, with what stands between behind all but the last; and with hyphens between them.
-- Assumes nothing.
use mathlib.Core.Path.{◌≡◌, refl}
use mathlib.Core.List.{List, [], ◌∷◌, ◌++◌, append_assoc, append-nil}
use Prim.Native.Nat.{ℕ, zero, suc, ◌+◌, ◌*◌, ◌≤◌, ◌<◌}
use native.Mathlib.Nat.{mul-suc, mul-le-mul_left}
use native.Mathlib.Decide.{dec_lt}
use native.Mathlib.Omega.{arith}
use lib.Dec.{ltb}
use lib.ListN.{length, length-append}
use borrow.Author.Tests.{lt-ltb, le-ltb}
use Rattle.letters.specs.Choice.{pick}
use Rattle.key_text.specs.Text.{further_text, hyphenated}
use Rattle.key_text.specs.Elements.{further_joined, joined}
use Rattle.memory.specs.Put.{Put}
use Rattle.memory.proofs.Putting.{put_nothing, put_after, put_length}

-- what is written behind the first `done` of `count` elements: what stands between, where another follows
abbrev pub behind : List ℕ → ℕ → ℕ → List ℕ
behind between done count = pick (ltb done count) between []

follows : (between : List ℕ) (done count : ℕ) → done < count → behind between done count ≡ between
unfolding pick
follows between done count h = rw (lt-ltb done count h) refl

ends : (between : List ℕ) (done count : ℕ) → count ≤ done → behind between done count ≡ []
unfolding pick
ends between done count h = rw (le-ltb done count h) refl

-- it is never longer than what stands between
behind_short : (between : List ℕ) (done count : ℕ) → length (behind between done count) ≤ length between
behind_short between done count = go (dec_lt done count)
  where
    go : Dec (done < count) → length (behind between done count) ≤ length between
    go (yes l) = rw (follows between done count l) (omega arith)
    go (no l) = rw (ends between done count (omega arith)) (omega arith)

pub put_followed : {between before after : List ℕ} {done count at end : ℕ} → done < count → Put before at between after end → Put before at (behind between done count) after end
put_followed {between} {before} {after} {done} {count} h p = rw (follows between done count h) p

pub put_last : (between before : List ℕ) (at : ℕ) {done count : ℕ} → count ≤ done → Put before at (behind between done count) before at
put_last between before at {done} {count} h = rw (ends between done count h) (put_nothing before at)

-- what was written, what stands between, one more element and what is behind it
regroup : (first others between next last : List ℕ) → ((first ++ others) ++ between) ++ (next ++ last) ≡ (first ++ (others ++ (between ++ next))) ++ last
regroup first others between next last = simp append_assoc refl

module _ (element : ℕ → List ℕ) (between : List ℕ) (count : ℕ) where
  -- the first `done` of `count` elements, with what stands between behind each but the last of all
  abbrev pub front : ℕ → List ℕ
  front zero = []
  front (suc done) = front done ++ (element done ++ behind between (suc done) count)

  front_joined : (done : ℕ) → done < count → front (suc done) ≡ joined element between (suc done) ++ behind between (suc done) count
  front_joined zero h = rw append-nil refl
  front_joined (suc done) h =
      rw (front_joined done (omega arith), follows between (suc done) count h)
      (regroup (element 0) (further_joined element between done) between (element (suc done)) (behind between (suc (suc done)) count))

-- that of all is the whole text
front_whole : (element : ℕ → List ℕ) (between : List ℕ) (count : ℕ) → 0 < count → front element between count count ≡ joined element between count
front_whole element between zero h = absurd (omega arith)
front_whole element between (suc done) h =
    rw (front_joined element between (suc done) done (omega arith), ends between (suc done) (suc done) (omega arith))
    (append-nil (joined element between (suc done)))

-- the first `done` of `count` elements are written, each of one width
pub record Further (element : ℕ → List ℕ) (between : List ℕ) (width : ℕ) (count : ℕ) (start : List ℕ) (from : ℕ) (out : List ℕ) (next : ℕ) (done : ℕ) : Type 0 where
  pub put : Put start from (front element between count done) out next
  pub short : length (front element between count done) ≤ (width + length between) * done

module _ {element : ℕ → List ℕ} {between : List ℕ} {width count : ℕ} {start out : List ℕ} {from next done : ℕ} (f : Further element between width count start from out next done) where
  pub further_more : {text middle : List ℕ} {place : ℕ} → element done ≡ text → length text ≡ width → Put out next text middle place
      → (after : List ℕ) (end : ℕ) → Put middle place (behind between (suc done) count) after end → Further element between width count start from after end (suc done)
  further_more same size p after end q = record {
    put = put_after f.put (put_after (rw same p) q);
    short = rw (length-append, length-append, same) (omega (arith, f.short, size, behind_short between (suc done) count, mul-suc (width + length between) done));
  }

  -- where one more follows, there is room for it and what stands between
  pub further_room : done < count → from + (width + length between) * count ≤ length start → next + (width + length between) ≤ length out
  further_room more room =
      let fits : (width + length between) * suc done ≤ (width + length between) * count = mul-le-mul_left (width + length between) (omega arith) in
      omega (arith, put_length f.put, f.put.next, f.short, mul-suc (width + length between) done)

  pub further_whole : 0 < count → done ≡ count → Put start from (joined element between count) out next
  further_whole some all = rw (all, front_whole element between count some) at f.put

-- hyphens between elements are what `hyphenated` says
further_hyphens : (element : ℕ → List ℕ) (count : ℕ) → further_joined element (0x2D ∷ []) count ≡ further_text element count
further_hyphens element zero = refl
further_hyphens element (suc count) = rw (further_hyphens element count) refl

pub joined_hyphens : (element : ℕ → List ℕ) (count : ℕ) → joined element (0x2D ∷ []) count ≡ hyphenated element count
joined_hyphens element zero = refl
joined_hyphens element (suc count) = rw (further_hyphens element count) refl

-- elements that are the same up to a count make the same text
further_same : (first second : ℕ → List ℕ) (count : ℕ) → ((k : ℕ) → k < suc count → first k ≡ second k) → further_text first count ≡ further_text second count
further_same first second zero same = refl
further_same first second (suc count) same =
    let before = further_same first second count (λ k h. same k (omega arith)) in
    rw (before, same (suc count) (omega arith)) refl

pub hyphenated_same : (first second : ℕ → List ℕ) (count : ℕ) → ((k : ℕ) → k < count → first k ≡ second k) → hyphenated first count ≡ hyphenated second count
hyphenated_same first second zero same = refl
hyphenated_same first second (suc count) same = rw (same 0 (omega arith), further_same first second count same) refl

-- elements of one width: each takes its width and a hyphen, but for the first
module _ (element : ℕ → List ℕ) (width : ℕ) where
  further_length : (count : ℕ) → ((k : ℕ) → k < suc count → length (element k) ≡ width) → length (further_text element count) ≡ suc width * count
  further_length zero sized = omega arith
  further_length (suc count) sized =
      let before = further_length count (λ k h. sized k (omega arith)) in
      rw length-append (omega (arith, before, sized (suc count) (omega arith), mul-suc (suc width) count))

  -- so the text of one element and some others has one length
  pub hyphenated_length : (others : ℕ) → ((k : ℕ) → k < suc others → length (element k) ≡ width)
      → length (hyphenated element (suc others)) ≡ width + suc width * others
  hyphenated_length others sized = rw length-append (omega (arith, sized 0 (omega arith), further_length others sized))

  module _ (sized : (k : ℕ) → length (element k) ≡ width) where
    pub hyphenated_short : (count most : ℕ) → 1 ≤ most → count ≤ most → length (hyphenated element count) ≤ suc width * most
    hyphenated_short zero most one h = let fits : suc width * 1 ≤ suc width * most = mul-le-mul_left (suc width) one in omega arith
    hyphenated_short (suc count) most one h =
        let fits : suc width * suc count ≤ suc width * most = mul-le-mul_left (suc width) h in
        omega (arith, hyphenated_length count (λ k l. sized k), mul-suc (suc width) count)
