-- What a read brought, of what it answered.
-- Assumes nothing.
use mathlib.Core.Path.{◌≡◌, refl}
use Prim.Native.Nat.{ℕ, zero, suc, ◌≤◌}
use Rattle.std.specs.Prelude.{Result, Ok, Err, IfOk}
use Rattle.std.specs.declared.io.Error.{Error}
use Rattle.listing.specs.Running.{bytes_of}

-- no more bytes than the read answered
pub bytes_within : {size count : ℕ} (answer : Result ℕ Error) → IfOk answer (λ moved. moved ≤ size) → bytes_of answer ≡ Ok count → count ≤ size
bytes_within (Ok zero) h e = absurd cc
bytes_within {size} {count} (Ok (suc moved)) h e = let same : suc moved ≡ count = cc in rw same at h
bytes_within (Err error) h e = absurd cc

-- a read tells the end of the input exactly where it answered 0
pub ended_exactly : (answer : Result ℕ Error) → (bytes_of answer ≡ Err (Ok tt) → answer ≡ Ok 0) × (answer ≡ Ok 0 → bytes_of answer ≡ Err (Ok tt))
ended_exactly (Ok zero) = (λ e. refl, λ e. refl)
ended_exactly (Ok (suc moved)) = (λ e. cc, λ e. cc)
ended_exactly (Err error) = (λ e. cc, λ e. cc)
