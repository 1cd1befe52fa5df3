-- A book of words that meet a condition is a book of words that meet a weaker one, so a book of an earlier edition is a book, with the same entries.
-- Assumes nothing.
use mathlib.Core.Path.{◌≡◌}
use mathlib.Core.List.{List, [], ◌∷◌, ◌++◌}
use Prim.Native.Nat.{ℕ, ◌+◌}
use Rattle.formula.specs.Earlier.{Edition}
use Rattle.formula.proofs.Lists.{All}
use Rattle.recogniser.specs.Answer.{Readable}
use Rattle.recogniser.specs.Earlier.{ReadableIn}
use Rattle.recogniser.proofs.Earlier.{earlier_readable}
use Rattle.entries.specs.Entries.{Entry, book, entries}
use Rattle.entries.specs.Book.{size, end_of, GoodAfterOf, IsBookOf, IsBook}
use Rattle.entries.proofs.Agree.{complete}

module _ (Narrow Wide : List ℕ → Type 0) (w : (word : List ℕ) → Narrow word → Wide word) where
  good_widens : (at : ℕ) (seen list : List Entry) → GoodAfterOf Narrow at seen list → GoodAfterOf Wide at seen list
  good_widens at seen [] g = tt
  good_widens at seen (entry ∷ list) g = (
    g.0,
    record { some = g.1.some; readable = w entry.word g.1.readable; stock = g.1.stock },
    g.2,
    good_widens (at + size entry) (seen ++ (entry ∷ [])) list g.3,
  )

  pub book_widens : (bytes : List ℕ) (list : List Entry) → IsBookOf Narrow bytes list → IsBookOf Wide bytes list
  book_widens bytes list b = record { short = b.short; pad = b.pad; written = b.written; good = good_widens 0 [] list b.good }

-- each of its words meets the condition
pub good_words : (Allowed : List ℕ → Type 0) (at : ℕ) (seen list : List Entry) → GoodAfterOf Allowed at seen list → All (λ (e : Entry). Allowed e.word) list
good_words Allowed at seen [] g = tt
good_words Allowed at seen (entry ∷ list) g = (g.1.readable, good_words Allowed (at + size entry) (seen ++ (entry ∷ [])) list g.3)

-- a book of the edition is a book
pub earlier_book : (edition : Edition) (bytes : List ℕ) (list : List Entry) → IsBookOf (ReadableIn edition) bytes list → IsBook bytes list
earlier_book edition = book_widens (ReadableIn edition) Readable earlier_readable

-- and read as the entries that it had
pub earlier_entries : (edition : Edition) (bytes : List ℕ) (list : List Entry) → IsBookOf (ReadableIn edition) bytes list
    → entries bytes ≡ book list (end_of 0 list)
earlier_entries edition bytes list b = complete bytes list (earlier_book edition bytes list b)
