-- "14 is now given when the live records and the new one together pass the buffer's end and at no other time, its place is the live length".
-- Assumes nothing.
use mathlib.Core.Path.{◌≡◌, refl, ap, ◌∙◌}
use mathlib.Core.Bool.{Bool, true, false}
use mathlib.Core.List.{List}
use mathlib.Core.Option.{Option, none, some}
use Prim.Native.Nat.{ℕ, ◌+◌, ◌<◌}
use native.Mathlib.Omega.{arith}
use borrow.Author.Tests.{leb-false, lt-leb}
use lib.Dec.{leb}
use lib.ListN.{length}
use Rattle.letters.specs.Choice.{pick}
use Rattle.letters.proofs.Tests.{pick_false}
use Rattle.refusals.specs.Outcome.{accepts_both, refuses}
use Rattle.entries.specs.Limits.{head_size}
use Rattle.entries.specs.Entries.{Entry, book}
use Rattle.entries.specs.Map.{lookup}
use Rattle.entries.specs.Tidy.{live_length}
use Rattle.entries.specs.Outcome.{puts, tidies_and_puts, placing, add_of_entry, add_of}

module _ (es : List Entry) (free room : ℕ) (w : List ℕ) where
  -- given then
  pub full_when : lookup es w ≡ none → room < live_length es + (head_size + length w) → add_of (book es free) room w ≡ refuses 14 (live_length es)
  full_when n h =
      ap (λ (o : Option Entry). add_of_entry o (placing es free room (head_size + length w))) n
      ∙ pick_false (leb (live_length es + (head_size + length w)) room) _ _ (lt-leb (live_length es + (head_size + length w)) room h)

  -- and at no other time
  pub full_only : (place : ℕ) → add_of (book es free) room w ≡ refuses 14 place
      → (lookup es w ≡ none) × (room < live_length es + (head_size + length w)) × (place ≡ live_length es)
  unfolding pick
  full_only place = go (lookup es w) refl
    where
      chosen : (t u : Bool) → leb (live_length es + (head_size + length w)) room ≡ t
          → pick t (pick u (puts free) (tidies_and_puts (live_length es))) (refuses 14 (live_length es)) ≡ refuses 14 place
          → (room < live_length es + (head_size + length w)) × (place ≡ live_length es)
      chosen true true p e = let z : ◌≡◌ {A = ℕ} 0 1 = cc in let y : ⊥ = omega arith in absurd y
      chosen true false p e = let z : ◌≡◌ {A = ℕ} 0 1 = cc in let y : ⊥ = omega arith in absurd y
      chosen false u p e = (leb-false (live_length es + (head_size + length w)) room p, cc)

      go : (o : Option Entry) → lookup es w ≡ o → add_of_entry o (placing es free room (head_size + length w)) ≡ refuses 14 place
          → (lookup es w ≡ none) × (room < live_length es + (head_size + length w)) × (place ≡ live_length es)
      go none n e =
          let c = chosen (leb (live_length es + (head_size + length w)) room) (leb (free + (head_size + length w)) room) refl e in
          (n, c.0, c.1)
      go (some x) n e = let z : ◌≡◌ {A = ℕ} 12 14 = cc in let y : ⊥ = omega arith in absurd y

  -- a word that is neither live nor refused so is added
  pub not_full : lookup es w ≡ none → ((place : ℕ) → add_of (book es free) room w ≡ refuses 14 place → ⊥)
      → (start : ℕ) × (tidies : ℕ) × (add_of (book es free) room w ≡ accepts_both start tidies)
  unfolding pick
  not_full n f = go (leb (live_length es + (head_size + length w)) room) refl (leb (free + (head_size + length w)) room) refl
    where
      looked : add_of (book es free) room w ≡ placing es free room (head_size + length w)
      looked = ap (λ (o : Option Entry). add_of_entry o (placing es free room (head_size + length w))) n

      at : (t u : Bool) → leb (live_length es + (head_size + length w)) room ≡ t → leb (free + (head_size + length w)) room ≡ u
          → add_of (book es free) room w ≡ pick t (pick u (puts free) (tidies_and_puts (live_length es))) (refuses 14 (live_length es))
      at t u p q = looked ∙ (λ i. pick (p i) (pick (q i) (puts free) (tidies_and_puts (live_length es))) (refuses 14 (live_length es)))

      go : (t : Bool) → leb (live_length es + (head_size + length w)) room ≡ t → (u : Bool) → leb (free + (head_size + length w)) room ≡ u
          → (start : ℕ) × (tidies : ℕ) × (add_of (book es free) room w ≡ accepts_both start tidies)
      go true p true q = (free, 0, at true true p q)
      go true p false q = (live_length es, 1, at true false p q)
      go false p u q = absurd (f (live_length es) (at false u p q))
