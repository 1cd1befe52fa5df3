-- One value more of the pass that reads a word and makes its key, and what the pass has found where it stops.
-- Assumes nothing.
use mathlib.Core.Path.{◌≡◌, refl, ap, sym, subst, ◌∙◌}
use mathlib.Core.List.{List, [], ◌++◌, reverse, reverse-reverse}
use mathlib.Core.Option.{none, some, some-injective}
use Prim.Native.Nat.{ℕ, ◌+◌, ◌-◌, ◌/◌, ◌%◌, ◌≤◌, ◌<◌}
use native.Mathlib.Omega.{arith}
use lib.ListN.{length, get_or, length-reverse}
use lib.Seq.{take_all}
use Rattle.formula.specs.Limits.{limit}
use Rattle.formula.specs.Row.{Row, Gives, Viable}
use Rattle.formula.specs.Packed.{unread}
use Rattle.formula.specs.declared.Window.{Window}
use Rattle.refusals.specs.Outcome.{Outcome, accepts, accepts_both, absent, refuses}
use Rattle.rows.specs.Machine.{KeptOk, step, run}
use Rattle.rows.proofs.Viable.{read_back, stops}
use Rattle.states.specs.State.{state_count}
use Rattle.states.specs.Transition.{Makes}
use Rattle.transitions.specs.Tables.{entry_of, gain_of}
use Rattle.transitions.proofs.Entered.{Moves}
use Rattle.syllables.specs.Window.{closed_by, Fit, WindowOf}
use Rattle.syllables.proofs.Moved.{window_moves, closed_below, window_fits}
use Rattle.recogniser.specs.Walked.{WalkStopped}
use Rattle.recogniser.proofs.Kept.{kept_right}
use Rattle.recogniser.proofs.Answered.{row_viable}
use Rattle.recogniser.proofs.Walking.{state_bound, count_within, moved, moved_on}
use Rattle.weighing.specs.Keys.{key_limit, used_bytes, zeros, key_of, key_bytes}
use Rattle.keying.specs.Filling.{put_last, bytes_after, Advanced, KeyOf, Filled}
use Rattle.keying.specs.Filled.{KeyIfRead}
use Rattle.keying.proofs.Placed.{key_start, key_length, key_moves, key_end, kept_key_lem, put_length}

pub at_start : (word : List ℕ) → Filled word 0 0 unread (zeros key_limit)
at_start word =
    record {
      walked = record { kept = []; came = refl; state_is = refl; count_is = refl };
      window_of = record { count = refl; last = refl; joined = λ _. tt };
      key_of_lem = key_start;
    }

module _ {word : List ℕ} {at state : ℕ} {window : Window} {bytes : List ℕ} (r : Filled word at state window bytes) where
  abbrev kept : Row
  kept = r.walked.kept

  pub small : state < state_count
  small = state_bound word at state window.count r.walked

  pub within : window.count ≤ at
  within = count_within word at state window.count r.walked

  kept_ok : KeptOk kept
  kept_ok = (kept_right word at kept r.walked.came).0

  -- a value that is read
  module _ (entry : ℕ) (e : entry ≡ entry_of state (get_or word at 0)) (n : entry ≡ 96 → ⊥) (inside : at < length word) (short : length word ≤ limit)
      (gain : ℕ) (q : gain ≡ gain_of state (get_or word at 0)) where
    abbrev moves : Moves (get_or word at 0) entry (gain_of state (get_or word at 0)) kept (step kept (get_or word at 0))
    moves = moved word at state window.count r.walked entry e inside n

    after_ok : KeptOk moves.after
    after_ok = (kept_right word (at + 1) moves.after (moved_on word at state window.count r.walked entry e inside n)).0

    makes : Makes (get_or word at 0) (entry / 32) gain kept moves.after
    makes = rw q moves.makes

    room : length kept < limit
    room = let b = within in omega (arith, r.walked.count_is)

    pub fits : Fit (entry / 32) gain (get_or word at 0) window
    fits = window_fits window makes moves.begins_is kept_ok after_ok (let h = room in omega arith) r.window_of

    pub next : (after : Window) (new : List ℕ) → Advanced (entry / 32) gain (get_or word at 0) window bytes after new
        → Filled word (at + 1) (entry % 32) after new
    next after new a =
        let o = subst (WindowOf moves.after) (sym a.moved) (window_moves window makes kept_ok r.window_of) in
        record {
          walked =
              record {
                kept = moves.after;
                came = moved_on word at state window.count r.walked entry e inside n;
                state_is = moves.state_is;
                count_is = o.count;
              };
          window_of = o;
          key_of_lem =
              subst (KeyOf moves.after)
              (sym (a.put ∙ ap (λ (k : ℕ). bytes_after (entry / 32) k (closed_by (get_or word at 0) window.last) bytes) r.walked.count_is))
              (key_moves bytes (closed_by (get_or word at 0) window.last) makes after_ok room (λ d. closed_below window makes d r.window_of) r.key_of_lem);
        }

  -- where a value is refused
  module _ (short : length word ≤ limit) (inside : at < length word) (no : step kept (get_or word at 0) ≡ none) where
    pub stopped_short : WalkStopped word at state window.count
    stopped_short = record { short = short; within = omega arith; walked = r.walked; refused = λ _. no }

    no_row : (row : Row) → Gives row word → ⊥
    no_row row g =
        stops word at kept inside r.walked.came no (length word) inside
        (subst Viable (sym (take_all (length word) word (omega arith))) (row_viable row word g))

    pub key_short : (o : Outcome) → KeyIfRead word o (zeros key_limit)
    key_short (accepts m) = λ row g. absurd (no_row row g)
    key_short (accepts_both m n) = tt
    key_short absent = tt
    key_short (refuses m place) = refl

  -- at the end of the word
  module _ (short : length word ≤ limit) (inside : at ≤ length word) (end : length word ≤ at) where
    pub stopped_end : WalkStopped word at state window.count
    stopped_end =
        record { short = short; within = inside; walked = r.walked; refused = λ (h : at < length word). let z : ⊥ = omega arith in absurd z }

    kept_is : (row : Row) → Gives row word → row ≡ reverse kept
    kept_is row g =
        sym (reverse-reverse row)
        ∙ ap reverse
        (some-injective (reverse row) kept
        (sym (read_back row word g) ∙ subst (λ (v : List ℕ). run v [] ≡ some kept) (take_all at word end) r.walked.came))

    pub key_whole : (row : Row) → Gives row word → put_last window.count window.last bytes ≡ key_bytes row
    key_whole row g =
        ap (λ (n : ℕ). put_last n window.last bytes) r.walked.count_is
        ∙ key_end kept bytes window.last kept_ok r.window_of.last r.key_of_lem
        ∙ ap (λ (l : List ℕ). l ++ zeros (key_limit - used_bytes (length kept))) (sym (kept_key_lem kept))
        ∙ ap (λ (n : ℕ). key_of (reverse kept) ++ zeros (key_limit - used_bytes n)) (sym (length-reverse kept)) ∙ ap key_bytes (sym (kept_is row g))

    pub size_whole : length (put_last window.count window.last bytes) ≡ key_limit
    size_whole = put_length window.count window.last bytes ∙ key_length kept bytes r.key_of_lem
