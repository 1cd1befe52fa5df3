-- What the machine has kept after the values before a place: a row of those values, with at most as many syllables.
-- Assumes nothing.
use mathlib.Core.Path.{◌≡◌, ap, subst}
use mathlib.Core.List.{List, [], ◌∷◌}
use mathlib.Core.Option.{some}
use Prim.Native.Nat.{ℕ, ◌≤◌}
use native.Mathlib.Omega.{arith}
use lib.ListN.{length, take, length-append, length-take}
use Rattle.formula.specs.Row.{Row}
use Rattle.rows.specs.Machine.{end_of, kept_join, run}
use Rattle.rows.proofs.Sound.{RunOut, run_out}
use Rattle.recogniser.proofs.Counted.{part_length}

-- what the machine's row is after the values before `at`
pub kept_right : (word : List ℕ) (at : ℕ) (kept : Row) → run (take at word) [] ≡ some kept → RunOut [] (take at word) (some kept)
kept_right word at kept e = subst (RunOut [] (take at word)) e (run_out (take at word) [] tt)

pub syllables_bound : (kept : Row) → length kept ≤ length (kept_join kept)
syllables_bound [] = omega arith
syllables_bound (s ∷ kept) =
    let p = part_length (end_of kept) s in
    let q = syllables_bound kept in
    simp length-append (omega arith)

pub count_bound : (word : List ℕ) (at : ℕ) (kept : Row) → run (take at word) [] ≡ some kept → length kept ≤ at
count_bound word at kept e =
    let b = syllables_bound kept in
    let d : length (kept_join kept) ≡ length (take at word) = ap length (kept_right word at kept e).1 in
    omega (arith, length-take at word)
