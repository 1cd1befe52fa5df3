-- The test for readable words, as a fact: it says that there is a row.
-- Assumes nothing.
use mathlib.Core.Path.{◌≡◌, refl, subst}
use mathlib.Core.Bool.{Bool, true, false}
use mathlib.Core.List.{List}
use Prim.Native.Nat.{ℕ}
use lib.Dec.{T}
use Rattle.letters.proofs.Tests.{is_true}
use Rattle.recogniser.specs.Answer.{Readable, RowTest}
use Rattle.entries.specs.Readable.{decided, is_readable_within, is_readable}
use Rattle.recogniser.proofs.Decided.{decide}

-- the test for readable words decides
pub readable_test : (word : List ℕ) → RowTest word (is_readable word)
unfolding is_readable_within
readable_test word = go (decide word)
  where
    go : (d : Dec (Readable word)) → RowTest word (decided d)
    go (yes r) = r
    go (no n) = n

pub of_readable : (word : List ℕ) → T (is_readable word) → Readable word
of_readable word t = subst (RowTest word) (is_true (is_readable word) t) (readable_test word)

pub to_readable : (word : List ℕ) → Readable word → T (is_readable word)
to_readable word r = go (is_readable word) (readable_test word)
  where
    go : (t : Bool) → RowTest word t → T t
    go true h = tt
    go false h = absurd (h r)

-- two tests that decide agree
pub tests_agree : (word : List ℕ) (s t : Bool) → RowTest word s → RowTest word t → s ≡ t
tests_agree word true true g h = refl
tests_agree word true false g h = absurd (h g)
tests_agree word false true g h = absurd (g h)
tests_agree word false false g h = refl
