-- What the answer of add tells where it has a place: the word is not live, and its record fits behind the last one, or does not and fits behind the live ones.
-- Assumes nothing.
use mathlib.Core.Path.{◌≡◌, refl, subst}
use mathlib.Core.Bool.{Bool, true, false}
use mathlib.Core.List.{List}
use mathlib.Core.Option.{Option, none, some}
use Prim.Native.Nat.{ℕ, ◌+◌, ◌≤◌, ◌<◌}
use native.Mathlib.Omega.{arith}
use borrow.Author.Tests.{leb-true, leb-false}
use lib.Dec.{leb}
use lib.ListN.{length}
use Rattle.letters.specs.Choice.{pick}
use Rattle.refusals.specs.Outcome.{accepts_both, refuses}
use Rattle.entries.specs.Limits.{head_size}
use Rattle.entries.specs.Entries.{Entry, book}
use Rattle.entries.specs.Map.{lookup}
use Rattle.entries.specs.Tidy.{live_length}
use Rattle.entries.specs.Outcome.{puts, tidies_and_puts, placing, add_of_entry, add_of}

-- where the record starts, by whether add tidies: "when its record doesn't fit otherwise .., and in no other case"
pub data Placed (es : List Entry) (free room size : ℕ) : ℕ → ℕ → Type 0 where
  behind : free + size ≤ room → Placed es free room size free 0
  tidied_first : room < free + size → live_length es + size ≤ room → Placed es free room size (live_length es) 1

-- what is known where a record is placed
pub record Fitting (es : List Entry) (free room : ℕ) (w : List ℕ) (start tidies : ℕ) : Type 0 where
  pub not_live : lookup es w ≡ none
  pub placed : Placed es free room (head_size + length w) start tidies

pub added_fitting : (es : List Entry) (free room : ℕ) (w : List ℕ) (start tidies : ℕ) → accepts_both start tidies ≡ add_of (book es free) room w
    → Fitting es free room w start tidies
unfolding pick
added_fitting es free room w start tidies = go (lookup es w) refl
  where
    chosen : (t u : Bool) → leb (live_length es + (head_size + length w)) room ≡ t → leb (free + (head_size + length w)) room ≡ u
        → accepts_both start tidies ≡ pick t (pick u (puts free) (tidies_and_puts (live_length es))) (refuses 14 (live_length es))
        → Placed es free room (head_size + length w) start tidies
    chosen true true p q e =
        let s : free ≡ start = cc in
        let n : 0 ≡ tidies = cc in
        subst (λ (t : ℕ). Placed es free room (head_size + length w) start t) n
        (subst (λ (t : ℕ). Placed es free room (head_size + length w) t 0) s (behind (leb-true (free + (head_size + length w)) room q)))
    chosen true false p q e =
        let s : live_length es ≡ start = cc in
        let n : 1 ≡ tidies = cc in
        subst (λ (t : ℕ). Placed es free room (head_size + length w) start t) n
        (subst (λ (t : ℕ). Placed es free room (head_size + length w) t 1) s
        (tidied_first (leb-false (free + (head_size + length w)) room q) (leb-true (live_length es + (head_size + length w)) room p)))
    chosen false u p q e = let z : ◌≡◌ {A = ℕ} 0 1 = cc in let y : ⊥ = omega arith in absurd y

    go : (o : Option Entry) → lookup es w ≡ o → accepts_both start tidies ≡ add_of_entry o (placing es free room (head_size + length w)) → Fitting es free room w start tidies
    go none n e = record { not_live = n; placed = chosen (leb (live_length es + (head_size + length w)) room) (leb (free + (head_size + length w)) room) refl refl e }
    go (some x) n e = let z : ◌≡◌ {A = ℕ} 0 1 = cc in let y : ⊥ = omega arith in absurd y
