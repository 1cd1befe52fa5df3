-- What stands in a list after values or bytes were written into it: "at the front of an output, the rest untouched".
-- Assumes nothing.
use Rattle.std.specs.Prelude.{◌≡◌, List, ◌++◌, ℕ, ◌+◌, ◌≤◌, length, drop}
use Rattle.std.proofs.lemmas.List.Edits.{sets}

-- a list written at a place; `end` is the place behind it
pub record Put (before : List ℕ) (at : ℕ) (text : List ℕ) (after : List ℕ) (end : ℕ) : Type 0 where
  pub written : after ≡ sets before at text
  pub next : end ≡ at + length text

-- the same, of at most so many elements
pub record PutWithin (most : ℕ) (before : List ℕ) (at : ℕ) (text : List ℕ) (after : List ℕ) (end : ℕ) : Type 0 where
  pub put : Put before at text after end
  pub short : length text ≤ most

-- a list written "at the front of an output, the rest untouched", with its number of elements
pub record Written (before : List ℕ) (text : List ℕ) (after : List ℕ) (used : ℕ) : Type 0 where
  pub count : used ≡ length text
  pub written : after ≡ text ++ drop used before
