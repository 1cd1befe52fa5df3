-- Pairs of worked labels, and whether they look alike, by computing it.
-- Assumes nothing.
use mathlib.Core.Path.{sym}
use mathlib.Core.Bool.{Bool, true, false, ◌&&◌}
use mathlib.Core.List.{List, [], ◌∷◌}
use lib.Dec.{T, eqb, eqb→eq}
use lib.ListN.{length}
use Rattle.letters.specs.Choice.{pick}
use Rattle.letters.specs.Weights.{bit_if}
use Rattle.formula.specs.Syllable.{carries_marks, carries_final}
use Rattle.formula.proofs.Lists.{both_left, both_right, every, All, every_all, same_list}
use Rattle.storage.specs.Stored.{is_run_mark, rank, goes_behind, makes_long_vowel, makes_letter, stored_form}
use Rattle.label_rules.specs.Rules.{is_stop_or_sign, looks_like_letter, is_other, is_confusable, label_of}
use Rattle.skeletons.specs.Skeleton.{replaced}
use Rattle.labelling.specs.Labelling.{skeleton}
use Rattle.labelling.proofs.Words.{Worked, empty, zero, digits, letters, o, sa, u_closed, nya_closed, ka, is_accepted, accepted}
use Rattle.likeness.specs.Likeness.{Likened}

-- two labels, and whether they look alike
pub record Pair : Type 0 where
  pub first : Worked
  pub second : Worked
  pub alike : Bool

pub pairs : List Pair
pairs =
    -- "1025 becomes 1009", and 1000 1039 as it was
    record { first = u_closed; second = nya_closed; alike = true }
    ∷ record { first = digits; second = letters; alike = true }
    ∷ record { first = o; second = sa; alike = true }
    ∷ record { first = zero; second = zero; alike = true }
    ∷ record { first = empty; second = empty; alike = true }
    ∷ record { first = zero; second = digits; alike = false }
    ∷ record { first = ka; second = empty; alike = false }
    ∷ []

abbrev is_pair_right : Pair → Bool
is_pair_right p =
    is_accepted p.first
    && (is_accepted p.second && eqb (bit_if (same_list (skeleton p.first.word) (skeleton p.second.word)) 1) (bit_if p.alike 1))

pairs_right : T (every is_pair_right pairs)
unfolding pairs label_of is_stop_or_sign looks_like_letter is_other is_confusable replaced pick carries_marks carries_final stored_form is_run_mark rank goes_behind makes_long_vowel makes_letter
pairs_right = tt

pair_right : (p : Pair) → T (is_pair_right p) → Likened p.first.word p.second.word (bit_if p.alike 1)
pair_right p t =
    let rest = both_right (is_accepted p.first) _ t in
    record {
      first_count = length p.first.row;
      first_label = accepted p.first (both_left (is_accepted p.first) _ t);
      second_count = length p.second.row;
      second_label = accepted p.second (both_left (is_accepted p.second) _ rest);
      told = sym (eqb→eq _ _ (both_right (is_accepted p.second) _ rest));
    }

pub pairs_told : All (λ (p : Pair). Likened p.first.word p.second.word (bit_if p.alike 1)) pairs
pairs_told = every_all is_pair_right (λ (p : Pair). Likened p.first.word p.second.word (bit_if p.alike 1)) pair_right pairs pairs_right
