-- An answer as one number of 64 bits: a tag of 8 bits, a second number of 24 and a first of 32, the tag highest.
-- Assumes nothing.
use Rattle.std.specs.Prelude.{◌≡◌, ℕ, ◌+◌, ◌*◌, ◌/◌, ◌%◌, ◌<◌}

-- an answer by its numbers; `tag` is 0 where it is accepted, a refusal's number, or 128
pub record Answer : Type 0 where
  pub tag : ℕ
  pub second : ℕ
  pub first : ℕ

abbrev pub answer : ℕ → ℕ → ℕ → Answer
answer tag second first = record { tag = tag; second = second; first = first }

-- the number of an answer; a number that does not fit its bits is cut
unfoldable pub pack : Answer → ℕ
pack a = a.tag % 0x100 * 0x100000000000000 + a.second % 0x1000000 * 0x100000000 + a.first % 0x100000000

-- the answer of a number
unfoldable pub unpack : ℕ → Answer
unpack n = answer (n / 0x100000000000000) (n / 0x100000000 % 0x1000000) (n % 0x100000000)

-- each number fits its bits
pub record Fits (a : Answer) : Type 0 where
  pub tag : a.tag < 0x100
  pub second : a.second < 0x1000000
  pub first : a.first < 0x100000000

-- the number is that of an answer which is right, by what rightness and the answer's numbers are for this call
pub record Packed {A : Type 0} (Right : A → Type 0) (numbers : A → Answer) (n : ℕ) : Type 0 where
  pub outcome : A
  pub right : Right outcome
  pub packed : n ≡ pack (numbers outcome)
