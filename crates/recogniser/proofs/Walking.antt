-- One value more keeps the walk right: the entry of the tables is what the machine does to its row.
-- Assumes nothing.
use mathlib.Core.Path.{◌≡◌, refl, ap, sym, subst, ◌∙◌}
use mathlib.Core.List.{List, []}
use mathlib.Core.Option.{none, some}
use Prim.Native.Nat.{ℕ, ◌+◌, ◌-◌, ◌/◌, ◌%◌, ◌≤◌, ◌<◌}
use native.Mathlib.Numerals.{add-one}
use native.Mathlib.Omega.{arith}
use lib.Dec.{eqb}
use lib.ListN.{length, get_or, take}
use Rattle.rows.specs.Machine.{step, run}
use Rattle.rows.proofs.Viable.{goes_on}
use Rattle.states.specs.State.{waiting, state_of, state_number, state_count}
use Rattle.formula.specs.Limits.{limit}
use Rattle.transitions.specs.Tables.{rules_of, next_by, entry_of, gain_of}
use Rattle.states.proofs.Known.{waiting_is}
use Rattle.states.proofs.Tested.{state_small}
use Rattle.states.proofs.Lengths.{makes_length}
use Rattle.transitions.proofs.Entered.{next_entry, Moves, Enters, enters}
use Rattle.recogniser.specs.Concluded.{Halted}
use Rattle.recogniser.specs.Walked.{Walked, WalkStopped}
use Rattle.recogniser.proofs.Kept.{kept_right, count_bound}

pub walk_start : (word : List ℕ) → Walked word 0 0 0
walk_start word = record { kept = []; came = refl; state_is = refl; count_is = refl }

module _ (word : List ℕ) (at state count : ℕ) (w : Walked word at state count) where
  pub state_bound : state < state_count
  state_bound = let l : state_number (state_of w.kept) < state_count = state_small (state_of w.kept) in omega (arith, w.state_is)

  pub count_within : count ≤ at
  count_within = let l = count_bound word at w.kept w.came in omega (arith, w.count_is)

  entered : Enters (get_or word at 0) (entry_of state (get_or word at 0)) (gain_of state (get_or word at 0)) w.kept (step w.kept (get_or word at 0))
  entered =
      let k = kept_right word at w.kept w.came in
      enters (get_or word at 0) w.kept k.0 (k.2 tt) state w.state_is

  module _ (entry : ℕ) (e : entry ≡ entry_of state (get_or word at 0)) where
    pub walk_refused : entry ≡ 96 → step w.kept (get_or word at 0) ≡ none
    walk_refused q = entered.refuses (sym e ∙ q)

    module _ (inside : at < length word) (q : entry ≡ 96 → ⊥) where
      -- the row after the value, and what the value makes of the row before
      pub moved : Moves (get_or word at 0) entry (gain_of state (get_or word at 0)) w.kept (step w.kept (get_or word at 0))
      moved =
          (subst (λ (n : ℕ). Enters (get_or word at 0) n (gain_of state (get_or word at 0)) w.kept (step w.kept (get_or word at 0))) (sym e) entered
          ).moves q

      pub moved_on : run (take (at + 1) word) [] ≡ some moved.after
      moved_on =
          subst (λ (n : ℕ). run (take n word) [] ≡ some moved.after) (sym (add-one at))
          (goes_on word at w.kept moved.after inside w.came moved.stepped)

      counted : length moved.after + 1 ≡ length w.kept + entry / 32
      counted = makes_length moved.makes

      -- a value never takes the last syllable away
      pub some_left : 1 ≤ count + entry / 32
      some_left = let l = counted in omega (arith, w.count_is)

      pub walk_on : Walked word (at + 1) (entry % 32) (count + entry / 32 - 1)
      walk_on =
          let l = counted in
          record { kept = moved.after; came = moved_on; state_is = moved.state_is; count_is = omega (arith, w.count_is) }

-- one turn of the pass, by the entry that the tables give
module _ (word : List ℕ) (at state count : ℕ) (w : Walked word at state count) (inside : at < length word) (entry : ℕ)
    (e : entry ≡ next_by state (rules_of (get_or word at 0))) where
  entry_is : entry ≡ entry_of state (get_or word at 0)
  entry_is = e ∙ next_entry state (get_or word at 0) (state_bound word at state count w)

  pub turn_stopped : length word ≤ limit → entry ≡ 96 → WalkStopped word at state count
  turn_stopped short q =
      record { short = short; within = omega arith; walked = w; refused = λ _. walk_refused word at state count w entry entry_is q }

  module _ (q : entry ≡ 96 → ⊥) where
    pub turn_left : 1 ≤ count + entry / 32
    turn_left = some_left word at state count w entry entry_is inside q

    pub turn_walked : Walked word (at + 1) (entry % 32) (count + entry / 32 - 1)
    turn_walked = walk_on word at state count w entry entry_is inside q

pub walk_halted : (word : List ℕ) (at state count : ℕ) → WalkStopped word at state count → Halted word at (eqb state (state_number waiting)) count
walk_halted word at state count s =
    let w = s.walked in
    let k = kept_right word at w.kept w.came in
    record {
      short = s.short;
      within = s.within;
      kept = w.kept;
      came = w.came;
      waits_is = ap (λ (n : ℕ). eqb n (state_number waiting)) w.state_is ∙ waiting_is w.kept k.0 (k.2 tt);
      count_is = w.count_is;
      refused = s.refused;
    }
