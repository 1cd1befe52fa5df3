-- Document 02, "Find by the first syllables": which entries fit a query, and how the filed keys tell it.
-- Assumes nothing.
use Rattle.std.specs.Prelude.{◌≡◌, Bool, List, ℕ, length}
use Rattle.std.proofs.lemmas.List.Edits.{sets}
use Rattle.formula.specs.Lists.{filtered, is_prefix}
use Rattle.formula.specs.Row.{Row}
use Rattle.weighing.specs.Keys.{key_of}
use Rattle.weighing.specs.Prefix.{begins_with}
use Rattle.entries.specs.Entries.{Entry}
use Rattle.book_keys.specs.Filing.{row_of, weights_at}

-- "its row of weights begins with the query's row"
abbrev pub fits : Row → Entry → Bool
fits query entry = begins_with (row_of entry.word) query

-- inner contracts cite what follows: the same by the bytes of keys
abbrev pub fits_key : List ℕ → Entry → Bool
fits_key prefix entry = is_prefix prefix (key_of (row_of entry.word))

-- whether the weights of the record at a start begin with these
abbrev pub has_prefix : List ℕ → List ℕ → ℕ → Bool
has_prefix keys prefix start = is_prefix prefix (weights_at keys start)

-- the promise of `keep_fitting`: the starts whose weights begin with these, in their order, at the front; all behind them stays
pub record KeptRight (keys prefix before after : List ℕ) (count : ℕ) : Type 0 where
  pub counted : count ≡ length (filtered (has_prefix keys prefix) before)
  pub starts : after ≡ sets before 0 (filtered (has_prefix keys prefix) before)
