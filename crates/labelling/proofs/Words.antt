-- Worked labels, and words that are none: each with what is answered and its skeleton, by computing them.
-- Assumes nothing.
use mathlib.Core.Path.{◌≡◌, refl, sym, subst}
use mathlib.Core.Bool.{Bool, ◌&&◌}
use mathlib.Core.List.{List, [], ◌∷◌, ◌++◌}
use Prim.Native.Nat.{ℕ}
use lib.Dec.{T}
use lib.ListN.{length, replicate}
use Rattle.letters.specs.Choice.{pick}
use Rattle.formula.specs.Syllable.{bare, carries_marks, carries_final}
use Rattle.formula.specs.Row.{Row, join}
use Rattle.formula.proofs.Lists.{both_left, both_right, every, All, every_all, same_list, same_list_equal}
use Rattle.formula.proofs.Words.{Example, letter, zero_alone, zero_seven, letter_zero, letter_one_zero, nine_zero, zero_letter, toned_seven, zero_stop, letter_stop, letter_first_sign, letter_second_sign, letter_last_sign, wa_ra, ten_syllables, eleven_syllables, o_alone, sa_ra, uu_alone, plain_i, plain_nya, plain_sign, ukka}
use Rattle.refusals.specs.Outcome.{Outcome, accepts, refuses}
use Rattle.refusals.proofs.Same.{same_outcome, same_outcome_lem}
use Rattle.storage.specs.Stored.{is_run_mark, rank, goes_behind, makes_long_vowel, makes_letter, stored_form}
use Rattle.normaliser.proofs.Worked.{is_stored_as, stored_as}
use Rattle.label_rules.specs.Rules.{is_stop_or_sign, looks_like_letter, is_other, is_confusable, label_of}
use Rattle.skeletons.specs.Skeleton.{replaced}
use Rattle.skeletons.proofs.Longest.{longest_row}
use Rattle.labelling.specs.Labelling.{IsLabel, LabelAnswers, skeleton}
use Rattle.labelling.proofs.Stored.{answers_by}

-- a word as handed in, the row that gives its stored form, what is answered, and the values replaced
pub record Worked : Type 0 where
  pub word : List ℕ
  pub row : Row
  pub outcome : Outcome
  pub skeleton : List ℕ

-- a word of the one table, as it is stored
abbrev worked : Example → Outcome → List ℕ → Worked
worked e outcome skeleton = record { word = e.word; row = e.row; outcome = outcome; skeleton = skeleton }

abbrev pub empty : Worked
empty = record { word = []; row = []; outcome = accepts 0; skeleton = [] }

abbrev pub zero : Worked
zero = worked zero_alone (accepts 1) (0x101D ∷ [])

abbrev pub digits : Worked
digits = worked zero_seven (accepts 2) (0x101D ∷ 0x101B ∷ [])

abbrev pub letters : Worked
letters = worked wa_ra (accepts 2) (0x101D ∷ 0x101B ∷ [])

abbrev pub o : Worked
o = worked o_alone (accepts 1) (0x101E ∷ 0x103C ∷ [])

abbrev pub sa : Worked
sa = worked sa_ra (accepts 1) (0x101E ∷ 0x103C ∷ [])

abbrev pub u_closed : Worked
u_closed = worked plain_i (accepts 1) (0x1009 ∷ 0x1000 ∷ 0x103A ∷ [])

abbrev pub nya_closed : Worked
nya_closed = worked plain_nya (accepts 1) (0x1009 ∷ 0x1000 ∷ 0x103A ∷ [])

abbrev pub ka : Worked
ka = worked letter (accepts 1) (0x1000 ∷ [])

pub table : List Worked
table =
    -- the empty word, and a digit with an end of the word on either side
    empty
    ∷ zero
    ∷ digits
    ∷ letters
    -- "next to a value that isn't a digit", on either side, a letter or a mark; another digit stands between in the second, and alone in the
    -- third
    ∷ worked letter_zero (refuses 22 1) (0x1000 ∷ 0x101D ∷ [])
    ∷ worked letter_one_zero (accepts 3) (0x1000 ∷ 0x1041 ∷ 0x101D ∷ [])
    ∷ worked nine_zero (accepts 2) (0x1049 ∷ 0x101D ∷ [])
    ∷ worked zero_letter (refuses 22 0) (0x101D ∷ 0x1000 ∷ [])
    ∷ worked toned_seven (refuses 22 2) (0x1000 ∷ 0x1038 ∷ 0x101B ∷ [])
    -- the stop comes first, wherever it stands; 104E is a sign with a final too
    ∷ worked zero_stop (refuses 21 2) (0x1000 ∷ 0x101D ∷ 0x104B ∷ [])
    ∷ worked plain_sign (refuses 21 0) (0x104E ∷ 0x1004 ∷ 0x103A ∷ [])
    ∷ worked letter_stop (refuses 21 1) letter_stop.word
    ∷ worked letter_first_sign (refuses 21 1) letter_first_sign.word
    ∷ worked letter_second_sign (refuses 21 1) letter_second_sign.word
    ∷ worked letter_last_sign (refuses 21 1) letter_last_sign.word
    ∷ o
    ∷ sa
    -- 1025 102E is 1026, which is not replaced, and a place is one of the stored form
    ∷ record { word = 0x1025 ∷ 0x102E ∷ []; row = uu_alone.row; outcome = accepts 1; skeleton = 0x1026 ∷ [] }
    ∷ u_closed
    ∷ nya_closed
    ∷ worked ukka (accepts 2) (0x1009 ∷ 0x1000 ∷ 0x1039 ∷ 0x1000 ∷ [])
    ∷ ka
    ∷ worked ten_syllables (accepts 10) ten_syllables.word
    ∷ worked eleven_syllables (refuses 23 10) eleven_syllables.word
    -- 21 comes before 23, wherever the stop stands
    ∷ record {
      word = replicate 11 0x1000 ++ (0x104B ∷ []);
      row = replicate 11 (bare 0x1000) ++ (bare 0x104B ∷ []);
      outcome = refuses 21 11;
      skeleton = replicate 11 0x1000 ++ (0x104B ∷ []);
    }
    ∷ []

abbrev pub is_right : Worked → Bool
is_right w =
    is_stored_as w.word w.row
    && (same_outcome (label_of (stored_form w.word) (length w.row)) w.outcome && same_list (skeleton w.word) w.skeleton)

table_right : T (every is_right table)
unfolding table label_of is_stop_or_sign looks_like_letter is_other is_confusable replaced pick carries_marks carries_final stored_form is_run_mark rank goes_behind makes_long_vowel makes_letter
table_right = tt

-- what the test says of each
pub record Right (w : Worked) : Type 0 where
  pub answers : LabelAnswers w.word w.outcome
  pub is : skeleton w.word ≡ w.skeleton

right : (w : Worked) → T (is_right w) → Right w
right w t =
    let stored = is_stored_as w.word w.row in
    let answered = same_outcome (label_of (stored_form w.word) (length w.row)) w.outcome in
    let replaced = same_list (skeleton w.word) w.skeleton in
    let rest : T (answered && replaced) = both_right stored (answered && replaced) t in
    let s = stored_as w.word w.row (both_left stored (answered && replaced) t) in
    record {
      answers =
          answers_by w.word (stored_form w.word) (length w.row) s.stores refl w.outcome
          (sym (same_outcome_lem (label_of (stored_form w.word) (length w.row)) w.outcome (both_left answered replaced rest)));
      is = same_list_equal (skeleton w.word) w.skeleton (both_right answered replaced rest);
    }

pub labels_right : All Right table
labels_right = every_all is_right Right right table table_right

-- a label of the table, by its row
abbrev pub is_accepted : Worked → Bool
is_accepted w = is_right w && same_outcome w.outcome (accepts (length w.row))

pub accepted : (w : Worked) → T (is_accepted w) → IsLabel w.word (length w.row)
accepted w t =
    let is = right w (both_left (is_right w) _ t) in
    subst (LabelAnswers w.word) (same_outcome_lem w.outcome (accepts (length w.row)) (both_right (is_right w) _ t)) is.answers

-- the label whose skeleton is the longest
longest_stored : T (is_stored_as (join longest_row) longest_row)
unfolding pick carries_marks carries_final stored_form is_run_mark rank goes_behind makes_long_vowel makes_letter
longest_stored = tt

longest_meets : T (same_outcome (label_of (stored_form (join longest_row)) 10) (accepts 10))
unfolding label_of is_stop_or_sign looks_like_letter is_other is_confusable pick stored_form is_run_mark rank goes_behind makes_long_vowel makes_letter
longest_meets = tt

pub longest_label : IsLabel (join longest_row) 10
longest_label =
    record {
      stores = (stored_as (join longest_row) longest_row longest_stored).stores;
      meets = same_outcome_lem (label_of (stored_form (join longest_row)) 10) (accepts 10) longest_meets;
    }

pub longest_skeleton : length (skeleton (join longest_row)) ≡ 73
unfolding replaced pick stored_form is_run_mark rank goes_behind makes_long_vowel makes_letter
longest_skeleton = refl
