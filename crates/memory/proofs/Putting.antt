-- What is written behind what was written is one list: each store keeps what lies before it.
-- Assumes nothing.
use mathlib.Core.Path.{◌≡◌, refl, ap, sym, ◌∙◌}
use mathlib.Core.List.{List, [], ◌++◌}
use Prim.Native.Nat.{ℕ, ◌≤◌}
use native.Mathlib.Nat.{zero-add}
use native.Mathlib.Omega.{arith}
use lib.ListN.{length, drop, length-append}
use lib.Seq.{sets, length-sets}
use Rattle.memory.proofs.Stores.{sets_append, sets_front}
use Rattle.memory.specs.Put.{Put, Written}

pub put_nothing : (before : List ℕ) (at : ℕ) → Put before at [] before at
put_nothing before at = record { written = refl; next = omega arith }

-- what is written at the end of what was written before
pub put_after : {a b c vs ws : List ℕ} {at m end : ℕ} → Put a at vs b m → Put b m ws c end → Put a at (vs ++ ws) c end
put_after {a} {b} {c} {vs} {ws} {at} {m} {end} p q = record {
  written = q.written ∙ ap (λ (l : List ℕ). sets l m ws) p.written ∙ ap (λ (k : ℕ). sets (sets a at vs) k ws) p.next ∙ sets_append vs ws a at;
  next = omega (arith, length-append vs ws);
}

pub put_length : {a b vs : List ℕ} {at end : ℕ} → Put a at vs b end → length b ≡ length a
put_length {a} {b} {vs} {at} {end} p = ap length p.written ∙ length-sets a at vs

-- what is written at the front
pub put_front : {a b vs : List ℕ} {end : ℕ} → length vs ≤ length a → Put a 0 vs b end → Written a vs b end
put_front {a} {b} {vs} {end} h p = record {
  count = p.next ∙ zero-add (length vs);
  written = p.written ∙ sets_front vs a h ∙ ap (λ (k : ℕ). vs ++ drop k a) (sym (p.next ∙ zero-add (length vs)));
}
