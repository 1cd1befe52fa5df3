-- The answers, from what looking the word up gave: each is the definition's at the same entries.
-- Assumes nothing.
use mathlib.Core.Path.{◌≡◌, refl, sym, ap, ◌∙◌}
use mathlib.Core.Bool.{Bool}
use mathlib.Core.List.{List}
use mathlib.Core.Option.{Option, none, some}
use Prim.Native.Nat.{ℕ, ◌+◌, ◌≤◌, ◌<◌}
use native.Mathlib.Omega.{arith}
use borrow.Author.Tests.{le-leb, lt-leb}
use lib.Dec.{leb}
use lib.ListN.{length}
use Rattle.letters.specs.Choice.{pick}
use Rattle.refusals.specs.Outcome.{Outcome, refuses}
use Rattle.entries.specs.Limits.{head_size}
use Rattle.entries.specs.Entries.{Entry, Entries, book, wrong, entries}
use Rattle.entries.specs.Book.{end_of, IsBook}
use Rattle.entries.specs.Map.{lookup}
use Rattle.entries.specs.Tidy.{live_length}
use Rattle.entries.specs.Outcome.{puts, tidies_and_puts, placing, add_of_entry, add_of}
use Rattle.entries.proofs.Agree.{complete}
use Rattle.lookup.specs.Look.{look_of_entry, look_of}
use Rattle.lookup.specs.declared.Look.{Look}
use Rattle.lookup.specs.declared.Look.TheVariants.{Live, Missing}
use Rattle.std.specs.Prelude.{Result, Ok, Err}
use Rattle.refusals.specs.declared.Refusal.{Refusal}
use Rattle.refusals.specs.Refusal.{number_of, place_of}

abbrev pub add_by : Result Look Refusal → Outcome → Outcome
add_by (Ok (Live found)) placed = refuses 12 found.start
add_by (Ok (Missing f l)) placed = placed
add_by (Err refusal) placed = refuses (number_of refusal) (place_of refusal)

-- where the record of a word that is not live goes
abbrev pub placed_in : Entries → ℕ → ℕ → Outcome
placed_in (book es f) room size = placing es f room size
placed_in (wrong p) room size = refuses 11 p

pub add_by_lem : (e : Entries) (room : ℕ) (w : List ℕ) → add_by (look_of e w) (placed_in e room (head_size + length w)) ≡ add_of e room w
add_by_lem (wrong p) room w = refl
add_by_lem (book es f) room w = go (lookup es w)
  where
    go : (o : Option Entry) → add_by (Ok (look_of_entry o f (live_length es))) (placing es f room (head_size + length w)) ≡ add_of_entry o (placing es f room (head_size + length w))
    go none = refl
    go (some x) = refl

-- the length that is told with a missing word is the live length
pub length_told : (b w : List ℕ) (list : List Entry) → IsBook b list → (free told : ℕ) → Ok (Missing free told) ≡ look_of (entries b) w → told ≡ live_length list
length_told b w list is free told e = go (lookup list w) (e ∙ ap (λ (x : Entries). look_of x w) (complete b list is))
  where
    go : (o : Option Entry) → ◌≡◌ {A = Result Look Refusal} (Ok (Missing free told)) (Ok (look_of_entry o (end_of 0 list) (live_length list))) → told ≡ live_length list
    go none f = cc
    go (some x) f = let z : ◌≡◌ {A = ℕ} 0 1 = cc in let y : ⊥ = omega arith in absurd y

-- the record fits behind the last one, or only behind the live ones, or nowhere
module _ (es : List Entry) (f room size : ℕ) (less : live_length es ≤ f) where
  pub fits : f + size ≤ room → puts f ≡ placing es f room size
  unfolding pick
  fits h =
      sym
      ((λ i. pick (le-leb (live_length es + size) room (omega arith) i)
      (pick (le-leb (f + size) room h i) (puts f) (tidies_and_puts (live_length es)))
      (refuses 14 (live_length es))))

  pub fits_tidied : room < f + size → live_length es + size ≤ room → tidies_and_puts (live_length es) ≡ placing es f room size
  unfolding pick
  fits_tidied h k =
      sym
      ((λ i. pick (le-leb (live_length es + size) room k i)
      (pick (lt-leb (f + size) room h i) (puts f) (tidies_and_puts (live_length es)))
      (refuses 14 (live_length es))))

  pub full : room < live_length es + size → refuses 14 (live_length es) ≡ placing es f room size
  unfolding pick
  full h =
      sym
      (ap (λ (t : Bool). pick t (pick (leb (f + size) room) (puts f) (tidies_and_puts (live_length es))) (refuses 14 (live_length es)))
      (lt-leb (live_length es + size) room h))
