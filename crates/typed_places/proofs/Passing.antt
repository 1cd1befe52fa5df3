-- The pass that sorts the places of a word, from its end: from a place on the array holds the sorted places, and behind them places past the word, which no place before them passes.
-- Assumes nothing.
use mathlib.Core.Path.{◌≡◌, refl, sym, ap, ◌∙◌}
use mathlib.Core.Bool.{false}
use mathlib.Core.List.{List, ◌++◌}
use Prim.Native.Nat.{ℕ, suc, ◌+◌, ◌-◌, ◌≤◌, ◌<◌}
use native.Mathlib.Omega.{arith}
use lib.ListN.{length, take, drop, replicate, length-append, length-drop, length-replicate, replicate-append-replicate, get_or-eq_default}
use lib.Seq.{length-take-le, drop_at}
use Rattle.letters.specs.Counting.{up_from}
use Rattle.formula.specs.Limits.{limit}
use Rattle.storage.specs.Stored.{is_run_mark, insert_by, sort_runs_by}
use Rattle.storage.proofs.Inserting.{insert_filled, insert_length}
use Rattle.typed_places.specs.Typed.{typed_at, sorted_places}

-- no value stands past the word
pub typed_past : (word : List ℕ) (place : ℕ) → length word ≤ place → typed_at word place ≡ 0
unfolding typed_at
typed_past word place h = get_or-eq_default word 0 h

past_no_mark : (word : List ℕ) → length word ≤ limit → is_run_mark (typed_at word limit) ≡ false
unfolding is_run_mark
past_no_mark word h = rw (typed_past word limit h)

-- the places from one on are sorted
pub record SortedFrom (word places : List ℕ) (at : ℕ) : Type 0 where
  pub long : length places ≡ limit
  pub within : at ≤ length word
  pub shown : drop at places ≡ sort_runs_by (typed_at word) (up_from at (length word - at)) ++ replicate (limit - length word) limit

-- none is sorted
pub sorted_none : (word : List ℕ) → length word ≤ limit → SortedFrom word (replicate limit limit) (length word)
sorted_none word h =
    let whole : length word + (limit - length word) ≡ limit = omega arith in
    let none : length word - length word ≡ 0 = omega arith in
    record {
      long = refl;
      within = omega arith;
      shown =
          ap (λ (n : ℕ). drop (length word) (replicate n limit)) (sym whole)
          ∙ ap (drop (length word)) (sym (replicate-append-replicate (length word) (limit - length word) limit))
          ∙ drop_at (replicate (length word) limit) (replicate (limit - length word) limit) (length word) (length-replicate (length word) limit)
          ∙ ap (λ (n : ℕ). sort_runs_by (typed_at word) (up_from (length word) n) ++ replicate (limit - length word) limit) (sym none);
    }

-- one place more is inserted
pub sorted_more : (word places after : List ℕ) (at : ℕ) → length word ≤ limit → SortedFrom word places at → 0 < at
    → after ≡ take (at - 1) places ++ insert_by (typed_at word) (at - 1) (drop (at - 1 + 1) places) → SortedFrom word after (at - 1)
sorted_more word places after at h s some e =
    let n : ℕ = length word - at in
    let value : ℕ → ℕ = typed_at word in
    let back : at - 1 + 1 ≡ at = omega arith in
    let next : suc (at - 1) ≡ at = omega arith in
    let more : length word - (at - 1) ≡ suc n = omega (arith, s.within) in
    let fill : List ℕ = replicate (limit - length word) limit in
    let shown : after ≡ take (at - 1) places ++ insert_by value (at - 1) (drop at places) = rw back at e in
    let cut : length (take (at - 1) places) ≡ at - 1 = length-take-le (at - 1) places (omega (arith, s.long, s.within)) in
    record {
      long =
          ap length shown
          ∙ omega (arith, length-append (take (at - 1) places) (insert_by value (at - 1) (drop at places)), insert_length value (at - 1) (drop at places), length-drop at places, s.long, s.within);
      within = omega (arith, s.within);
      shown =
          ap (drop (at - 1)) shown ∙ drop_at (take (at - 1) places) (insert_by value (at - 1) (drop at places)) (at - 1) cut
          ∙ ap (insert_by value (at - 1)) s.shown
          ∙ insert_filled value (at - 1) limit (sort_runs_by value (up_from at n)) (limit - length word) (past_no_mark word h)
          ∙ ap (λ (k : ℕ). insert_by value (at - 1) (sort_runs_by value (up_from k n)) ++ fill) (sym next)
          ∙ ap (λ (k : ℕ). sort_runs_by value (up_from (at - 1) k) ++ fill) (sym more);
    }

-- all are sorted
pub sorted_all : (word places : List ℕ) (at : ℕ) → SortedFrom word places at → at ≤ 0
    → places ≡ sorted_places word ++ replicate (limit - length word) limit
sorted_all word places at s end =
    let first : at ≡ 0 = omega arith in
    let whole : length word - 0 ≡ length word = omega arith in
    rw whole at (rw first at s.shown)
