-- Queries and words of the one table of worked words, and whether the word fits the query, by computing it.
-- Assumes nothing.
use mathlib.Core.Path.{◌≡◌, ap, ◌∙◌}
use mathlib.Core.Bool.{Bool, true, false, ◌&&◌}
use mathlib.Core.List.{List, [], ◌∷◌}
use lib.Dec.{T, leb, leb→le}
use lib.ListN.{length}
use Rattle.letters.specs.Choice.{pick}
use Rattle.letters.specs.Letters.{is_admitted}
use Rattle.letters.proofs.Tests.{same, same_equal}
use Rattle.formula.specs.Limits.{limit}
use Rattle.formula.specs.Syllable.{carries_marks, carries_final}
use Rattle.formula.specs.Row.{Row, Gives}
use Rattle.formula.specs.Record.{record_of}
use Rattle.formula.specs.Weighing.{weights_of}
use Rattle.formula.proofs.Lists.{both_left, both_right, every, every_at, All, every_all}
use Rattle.formula.proofs.Words.{Example, letter, closed, university, england, problem, great_sa_alone, plain_ka, plain_nga, plain_sa, ukka, aforementioned, plain_i, plain_sign, baht, bus, bus_car, is_right, right}
use Rattle.rows.proofs.Viable.{only_row}
use Rattle.weighing.specs.Prefix.{begins_with}
use Rattle.entries.specs.Entries.{Entry}
use Rattle.book_keys.specs.Filing.{row_of}
use Rattle.book_keys.proofs.Rows.{row_is}
use Rattle.book_fitting.specs.Fitting.{fits}

pub record Pair : Type 0 where
  pub query : Example
  pub word : Example
  pub found : Bool

abbrev pair : Example → Example → Bool → Pair
pair query word found = record { query = query; word = word; found = found }

pub pairs : List Pair
pairs =
    -- "a plain final in the query thus finds a stacked one", kinzi and 103F
    pair plain_ka university true
    ∷ pair plain_nga england true
    ∷ pair plain_sa great_sa_alone true
    ∷ pair plain_i ukka true
    -- the tone counts
    ∷ pair plain_sign aforementioned false
    -- a word finds itself
    ∷ pair university university true
    -- both finals count
    ∷ pair bus bus_car true
    ∷ pair baht bus false
    ∷ pair bus baht false
    -- the medial counts
    ∷ pair plain_sa problem false
    -- a beginning of code values is not one of syllables
    ∷ pair letter closed false
    -- a word does not fit a longer query
    ∷ pair university plain_ka false
    ∷ []

abbrev is_readable : Example → Bool
is_readable e = leb (length e.word) limit && (every is_admitted e.word && is_right e)

abbrev is_pair : Pair → Bool
is_pair p = is_readable p.query && (is_readable p.word && same (begins_with p.word.row p.query.row) p.found)

pairs_right : T (every is_pair pairs)
unfolding pairs record_of weights_of pick carries_marks carries_final
pairs_right = tt

module _ (e : Example) (t : T (is_readable e)) where
  admitted_right : T (every is_admitted e.word && is_right e)
  admitted_right = both_right (leb (length e.word) limit) (every is_admitted e.word && is_right e) t

  gives : Gives e.row e.word
  gives = (right e (both_right (every is_admitted e.word) (is_right e) admitted_right)).gives

  row_of_lem : row_of e.word ≡ e.row
  row_of_lem =
      row_is e.word
      (record {
        admissible =
            record {
              short = leb→le (length e.word) limit (both_left (leb (length e.word) limit) (every is_admitted e.word && is_right e) t);
              admitted = every_at is_admitted e.word (both_left (every is_admitted e.word) (is_right e) admitted_right);
            };
        row = e.row;
        gives = gives;
        only = λ other h. only_row other e.row e.word h gives;
      })
      e.row gives

-- what the test says of a pair: the query is a row, and an entry with the word fits it, or does not
pub record Right (p : Pair) : Type 0 where
  pub query : Gives p.query.row p.query.word
  pub fitting : (entry : Entry) → entry.word ≡ p.word.word → fits (row_of p.query.word) entry ≡ p.found

pair_right : (p : Pair) → T (is_pair p) → Right p
pair_right p t =
    let query = is_readable p.query in
    let word = is_readable p.word in
    let is = same (begins_with p.word.row p.query.row) p.found in
    let first : T query = both_left query (word && is) t in
    let rest : T (word && is) = both_right query (word && is) t in
    record {
      query = gives p.query first;
      fitting = λ entry e.
          (λ i. begins_with (row_of (e i)) (row_of_lem p.query first i))
          ∙ ap (λ (r : Row). begins_with r p.query.row) (row_of_lem p.word (both_left word is rest))
          ∙ same_equal (begins_with p.word.row p.query.row) p.found (both_right word is rest);
    }

pub pairs_fitting : All Right pairs
pairs_fitting = every_all is_pair Right pair_right pairs pairs_right
