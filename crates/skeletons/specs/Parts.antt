-- What takes the place of a value, by its first value and its size. Inner contracts cite it.
-- Assumes nothing.
use Rattle.std.specs.Prelude.{ℕ, length, get_or}
use Rattle.skeletons.specs.Skeleton.{replaced}

unfoldable pub first_of : ℕ → ℕ
first_of x = get_or (replaced x) 0 0

unfoldable pub size_of : ℕ → ℕ
size_of x = length (replaced x)
