-- A worked word as it is handed in, with the row that gives its stored form: one test, computed, says that it is stored as that row.
-- Assumes nothing.
use mathlib.Core.Path.{refl}
use mathlib.Core.Bool.{Bool, ◌&&◌}
use mathlib.Core.List.{List}
use Prim.Native.Nat.{ℕ}
use native.Mathlib.Omega.{arith}
use lib.Dec.{T, leb, leb→le}
use lib.ListN.{length}
use Rattle.letters.specs.Letters.{is_admitted}
use Rattle.formula.specs.Limits.{limit}
use Rattle.formula.specs.Syllable.{no_final}
use Rattle.formula.specs.Row.{Row, is_row_after, join, Gives}
use Rattle.formula.proofs.Lists.{both_left, both_right, every, every_at, same_list, same_list_equal}
use Rattle.rows.proofs.Viable.{only_row}
use Rattle.storage.specs.Stored.{stored_form}
use Rattle.storage.proofs.Outcome.{stored_shorter, stored_admitted}
use Rattle.normaliser.specs.Normal.{Stores}

abbrev pub is_stored_as : List ℕ → Row → Bool
is_stored_as word row =
    leb (length word) limit && (every is_admitted word && (is_row_after no_final row && same_list (join row) (stored_form word)))

-- what the test says
pub record StoredAs (word : List ℕ) (row : Row) : Type 0 where
  pub stores : Stores word (length row)
  pub gives : Gives row (stored_form word)

pub stored_as : (word : List ℕ) (row : Row) → T (is_stored_as word row) → StoredAs word row
stored_as word row t =
    let short = leb (length word) limit in
    let admitted = every is_admitted word in
    let is = is_row_after no_final row in
    let joins = same_list (join row) (stored_form word) in
    let rest : T (admitted && (is && joins)) = both_right short (admitted && (is && joins)) t in
    let last : T (is && joins) = both_right admitted (is && joins) rest in
    let fits = leb→le (length word) limit (both_left short (admitted && (is && joins)) t) in
    let all : T (every is_admitted word) = both_left admitted (is && joins) rest in
    let g : Gives row (stored_form word) =
    record { is_row = both_left is joins last; joined = same_list_equal (join row) (stored_form word) (both_right is joins last) } in
    record {
      stores =
          record {
            admissible = record { short = fits; admitted = every_at is_admitted word all };
            reads =
                record {
                  admissible =
                      record {
                        short = let s = stored_shorter word in omega arith;
                        admitted = every_at is_admitted (stored_form word) (stored_admitted word all);
                      };
                  row = row;
                  gives = g;
                  only = λ other h. only_row other row (stored_form word) h g;
                  count = refl;
                };
          };
      gives = g;
    }
