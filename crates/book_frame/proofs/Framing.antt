-- A record whose count is 0 is not framed.
-- Assumes nothing.
use mathlib.Core.Path.{◌≡◌, sym}
use mathlib.Core.Bool.{false}
use mathlib.Core.List.{List}
use Prim.Native.Nat.{ℕ, ◌+◌, ◌<◌}
use native.Mathlib.Omega.{arith}
use lib.ListN.{get_or}
use Rattle.letters.proofs.Tests.{is_false}
use Rattle.entries.specs.Entries.{is_framed}
use Rattle.entries.proofs.Records.{framed_true}

pub none_framed : (book : List ℕ) (at : ℕ) → get_or book (at + 2) 0 < 1 → false ≡ is_framed book at
none_framed book at none = sym (is_false _ (λ t. let f = framed_true _ _ t in let z : ⊥ = omega (arith, f.some) in z))
