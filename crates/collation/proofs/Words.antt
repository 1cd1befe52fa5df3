-- Pairs of words in order, with their keys: document 01's "Wrong turns", its worked weights and its words to normalise, by computing them.
-- Assumes nothing.
use mathlib.Core.Path.{◌≡◌, refl}
use mathlib.Core.Bool.{Bool, true, false, ◌&&◌}
use mathlib.Core.List.{List, [], ◌∷◌}
use Prim.Native.Nat.{ℕ}
use lib.Dec.{T}
use lib.ListN.{length}
use Rattle.letters.specs.Choice.{pick}
use Rattle.letters.specs.Marks.{ya, neither, group, no_medial, no_vowel, vowel_aa, vowel_u, vowel_i_u, no_tone, dot, visarga}
use Rattle.formula.specs.Syllable.{no_final, plain, plain_pair, stacked, syllable, bare, carries_marks, carries_final}
use Rattle.formula.specs.Row.{Row}
use Rattle.formula.specs.Weighing.{weights_of}
use Rattle.formula.proofs.Lists.{both_left, both_right, every, All, every_all, same_list, same_list_equal}
use Rattle.storage.specs.Stored.{is_run_mark, rank, goes_behind, makes_long_vowel, makes_letter, stored_form}
use Rattle.normaliser.proofs.Worked.{is_stored_as, StoredAs, stored_as}
use Rattle.weighing.specs.Order.{order_values, order_weights, filed, order}
use Rattle.weighing.specs.Keys.{key_of}
use Rattle.std.specs.declared.cmp.Ordering.{Ordering}
use Rattle.std.specs.declared.cmp.Ordering.TheVariants.{Less, Equal, Greater}
use Rattle.collation.specs.Comparison.{Ordered}
use Rattle.collation.proofs.Laws.{ordered_by}

-- a word as handed in, the row that gives its stored form, and the used bytes of its key
pub record Example : Type 0 where
  pub word : List ℕ
  pub row : Row
  pub key : List ℕ

pub record Pair : Type 0 where
  pub first : Example
  pub second : Example
  pub is : Ordering

-- a word of one syllable
abbrev closed_twice : List ℕ → Row → ℕ → ℕ → ℕ → ℕ → ℕ → ℕ → Example
closed_twice word row h m f s v t = record { word = word; row = row; key = h ∷ m ∷ f ∷ s ∷ v ∷ t ∷ [] }

-- with one final at most
abbrev one : List ℕ → Row → ℕ → ℕ → ℕ → ℕ → ℕ → Example
one word row h m f v t = closed_twice word row h m f 0 v t

-- ဘတ်စ်
abbrev bus : Example
bus =
    closed_twice (0x1018 ∷ 0x1010 ∷ 0x103A ∷ 0x1005 ∷ 0x103A ∷ []) (syllable 0x1018 no_medial no_vowel (plain_pair 0x1010 0x1005) no_tone ∷ []) 37 0 17 6 0 0

abbrev letter : Example
letter = one (0x1000 ∷ []) (bare 0x1000 ∷ []) 13 0 0 0 0

pub pairs : List Pair
pairs =
    -- "Vowel weighed before final: 1000 1000 103A would precede 1000 102C; it follows."
    record {
      first = one (0x1000 ∷ 0x102C ∷ []) (syllable 0x1000 no_medial (vowel_aa false) no_final no_tone ∷ []) 13 0 0 1 0;
      second = one (0x1000 ∷ 0x1000 ∷ 0x103A ∷ []) (syllable 0x1000 no_medial no_vowel (plain 0x1000) no_tone ∷ []) 13 0 1 0 0;
      is = Less;
    }
    -- "Filing by code values alone": a stop and a digit go before the letters, and a medial group by its weight
    ∷ record { first = one (0x104A ∷ []) (bare 0x104A ∷ []) 1 0 0 0 0; second = letter; is = Less }
    ∷ record { first = letter; second = one (0x1049 ∷ []) (bare 0x1049 ∷ []) 12 0 0 0 0; is = Greater }
    ∷ record {
      first = one (0x1000 ∷ 0x103B ∷ 0x103D ∷ []) (syllable 0x1000 (group ya true false) no_vowel no_final no_tone ∷ []) 13 5 0 0 0;
      second = one (0x1000 ∷ 0x103E ∷ []) (syllable 0x1000 (group neither false true) no_vowel no_final no_tone ∷ []) 13 4 0 0 0;
      is = Greater;
    }
    -- "weighing 104F beyond row 50"
    ∷ record { first = one (0x104E ∷ []) (bare 0x104E ∷ []) 49 0 0 0 0; second = one (0x104F ∷ []) (bare 0x104F ∷ []) 50 0 0 0 0; is = Less }
    -- an I goes behind 1021 by its vowel weight, and before the signs
    ∷ record { first = one (0x1021 ∷ []) (bare 0x1021 ∷ []) 46 0 0 0 0; second = one (0x1023 ∷ []) (bare 0x1023 ∷ []) 46 0 0 2 0; is = Less }
    ∷ record { first = one (0x104C ∷ []) (bare 0x104C ∷ []) 47 0 0 0 0; second = one (0x102A ∷ []) (bare 0x102A ∷ []) 46 0 0 9 0; is = Greater }
    -- document 02, E2: an I keeps its vowel weight where a final stands, and the final is weighed before it; 104E weighs as a sign
    ∷ record {
      first = one (0x1023 ∷ 0x1000 ∷ 0x103A ∷ []) (syllable 0x1023 no_medial no_vowel (plain 0x1000) no_tone ∷ []) 46 0 1 2 0;
      second = one (0x1025 ∷ 0x1000 ∷ 0x103A ∷ []) (syllable 0x1025 no_medial no_vowel (plain 0x1000) no_tone ∷ []) 46 0 1 4 0;
      is = Less;
    }
    ∷ record {
      first = one (0x1023 ∷ 0x1000 ∷ 0x103A ∷ []) (syllable 0x1023 no_medial no_vowel (plain 0x1000) no_tone ∷ []) 46 0 1 2 0;
      second = one (0x102A ∷ []) (bare 0x102A ∷ []) 46 0 0 9 0;
      is = Greater;
    }
    ∷ record {
      first = one (0x104E ∷ 0x1004 ∷ 0x103A ∷ 0x1038 ∷ []) (syllable 0x104E no_medial no_vowel (plain 0x1004) visarga ∷ []) 49 0 5 0 2;
      second = one (0x104F ∷ []) (bare 0x104F ∷ []) 50 0 0 0 0;
      is = Less;
    }
    -- 1025 and 1021 102F weigh the same with the same final, and go by their values
    ∷ record {
      first = one (0x1021 ∷ 0x102F ∷ 0x1000 ∷ 0x103A ∷ []) (syllable 0x1021 no_medial vowel_u (plain 0x1000) no_tone ∷ []) 46 0 1 4 0;
      second = one (0x1025 ∷ 0x1000 ∷ 0x103A ∷ []) (syllable 0x1025 no_medial no_vowel (plain 0x1000) no_tone ∷ []) 46 0 1 4 0;
      is = Less;
    }
    -- "equal rows compare by code values in storage order": a tall AA weighs as an AA
    ∷ record {
      first = one (0x1000 ∷ 0x102C ∷ []) (syllable 0x1000 no_medial (vowel_aa false) no_final no_tone ∷ []) 13 0 0 1 0;
      second = one (0x1000 ∷ 0x102B ∷ []) (syllable 0x1000 no_medial (vowel_aa true) no_final no_tone ∷ []) 13 0 0 1 0;
      is = Greater;
    }
    -- "a row before every longer one that begins with it"
    ∷ record { first = record { word = []; row = []; key = [] }; second = letter; is = Less }
    ∷ record {
      first = letter;
      second = record { word = 0x1000 ∷ 0x104A ∷ []; row = bare 0x1000 ∷ bare 0x104A ∷ []; key = 13 ∷ 0 ∷ 0 ∷ 0 ∷ 0 ∷ 0 ∷ 1 ∷ 0 ∷ 0 ∷ 0 ∷ 0 ∷ 0 ∷ [] };
      is = Less;
    }
    -- "Keys, comparison and the book normalise first."
    ∷ record {
      first = one (0x1000 ∷ 0x1014 ∷ 0x1037 ∷ 0x103A ∷ []) (syllable 0x1000 no_medial no_vowel (plain 0x1014) dot ∷ []) 13 0 21 0 1;
      second = one (0x1000 ∷ 0x1014 ∷ 0x103A ∷ 0x1037 ∷ []) (syllable 0x1000 no_medial no_vowel (plain 0x1014) dot ∷ []) 13 0 21 0 1;
      is = Equal;
    }
    ∷ record { first = one (0x1025 ∷ 0x102E ∷ []) (bare 0x1026 ∷ []) 46 0 0 5 0; second = one (0x1026 ∷ []) (bare 0x1026 ∷ []) 46 0 0 5 0; is = Equal }
    ∷ record {
      first = one (0x1025 ∷ 0x1025 ∷ 0x103A ∷ []) (syllable 0x1025 no_medial no_vowel (plain 0x1009) no_tone ∷ []) 46 0 10 4 0;
      second = one (0x1025 ∷ 0x1009 ∷ 0x103A ∷ []) (syllable 0x1025 no_medial no_vowel (plain 0x1009) no_tone ∷ []) 46 0 10 4 0;
      is = Equal;
    }
    ∷ record {
      first = one (0x1025 ∷ 0x1038 ∷ 0x102E ∷ []) (syllable 0x1026 no_medial no_vowel no_final visarga ∷ []) 46 0 0 5 2;
      second = one (0x1026 ∷ 0x1038 ∷ []) (syllable 0x1026 no_medial no_vowel no_final visarga ∷ []) 46 0 0 5 2;
      is = Equal;
    }
    -- document 02, E5: a second final "is compared straight after the first final", so before vowel and tone, and one final goes before two
    ∷ record {
      first = one (0x1018 ∷ 0x1010 ∷ 0x103A ∷ []) (syllable 0x1018 no_medial no_vowel (plain 0x1010) no_tone ∷ []) 37 0 17 0 0;
      second = bus;
      is = Less;
    }
    ∷ record {
      first = one (0x1018 ∷ 0x102C ∷ 0x1010 ∷ 0x103A ∷ 0x1038 ∷ []) (syllable 0x1018 no_medial (vowel_aa false) (plain 0x1010) visarga ∷ []) 37 0 17 1 2;
      second = bus;
      is = Less;
    }
    ∷ record {
      first = bus;
      second = one (0x1018 ∷ 0x1011 ∷ 0x103A ∷ []) (syllable 0x1018 no_medial no_vowel (plain 0x1011) no_tone ∷ []) 37 0 18 0 0;
      is = Less;
    }
    ∷ record {
      first = bus;
      second =
          closed_twice (0x1018 ∷ 0x1005 ∷ 0x103A ∷ 0x1010 ∷ 0x103A ∷ []) (syllable 0x1018 no_medial no_vowel (plain_pair 0x1005 0x1010) no_tone ∷ []) 37 0 6 17 0 0;
      is = Greater;
    }
    ∷ record {
      first =
          closed_twice (0x1018 ∷ 0x1010 ∷ 0x103A ∷ 0x1005 ∷ 0x1038 ∷ 0x103A ∷ []) (syllable 0x1018 no_medial no_vowel (plain_pair 0x1010 0x1005) visarga ∷ []) 37 0 17 6 0 2;
      second =
          closed_twice (0x1018 ∷ 0x1010 ∷ 0x103A ∷ 0x1005 ∷ 0x103A ∷ 0x1038 ∷ []) (syllable 0x1018 no_medial no_vowel (plain_pair 0x1010 0x1005) visarga ∷ []) 37 0 17 6 0 2;
      is = Equal;
    }
    -- "1D0001000000-0D0000000000-2B001D000B00"
    ∷ record {
      first =
          record {
            word = 0x1010 ∷ 0x1000 ∷ 0x1039 ∷ 0x1000 ∷ 0x101E ∷ 0x102D ∷ 0x102F ∷ 0x101C ∷ 0x103A ∷ [];
            row = syllable 0x1010 no_medial no_vowel (stacked 0x1000) no_tone ∷ bare 0x1000 ∷ syllable 0x101E no_medial vowel_i_u (plain 0x101C) no_tone ∷ [];
            key = 0x1D ∷ 0 ∷ 1 ∷ 0 ∷ 0 ∷ 0 ∷ 0x0D ∷ 0 ∷ 0 ∷ 0 ∷ 0 ∷ 0 ∷ 0x2B ∷ 0 ∷ 0x1D ∷ 0 ∷ 0x0B ∷ 0 ∷ [];
          };
      second = letter;
      is = Greater;
    }
    ∷ []

is_stored : Example → Bool
is_stored e = is_stored_as e.word e.row && same_list (key_of e.row) e.key

same_order : Ordering → Ordering → Bool
same_order Less Less = true
same_order Less Equal = false
same_order Less Greater = false
same_order Equal Less = false
same_order Equal Equal = true
same_order Equal Greater = false
same_order Greater Less = false
same_order Greater Equal = false
same_order Greater Greater = true

is_right : Pair → Bool
is_right p =
    is_stored p.first
    && (is_stored p.second
    && same_order (order (filed p.first.row (stored_form p.first.word)) (filed p.second.row (stored_form p.second.word))) p.is)

pairs_right : T (every is_right pairs)
unfolding pairs is_stored same_order is_right weights_of pick carries_marks carries_final order order_weights order_values stored_form is_run_mark rank goes_behind makes_long_vowel makes_letter
pairs_right = tt

-- what the test says of a word
pub record Stored (e : Example) : Type 0 where
  pub kept : StoredAs e.word e.row
  pub weighs : key_of e.row ≡ e.key

stored : (e : Example) → T (is_stored e) → Stored e
unfolding is_stored
stored e t =
    let is = is_stored_as e.word e.row in
    let weighs = same_list (key_of e.row) e.key in
    record { kept = stored_as e.word e.row (both_left is weighs t); weighs = same_list_equal (key_of e.row) e.key (both_right is weighs t) }

same_order_lem : (o p : Ordering) → T (same_order o p) → o ≡ p
unfolding same_order
same_order_lem Less Less t = refl
same_order_lem Less Equal t = absurd t
same_order_lem Less Greater t = absurd t
same_order_lem Equal Less t = absurd t
same_order_lem Equal Equal t = refl
same_order_lem Equal Greater t = absurd t
same_order_lem Greater Less t = absurd t
same_order_lem Greater Equal t = absurd t
same_order_lem Greater Greater t = refl

-- and of a pair: the words are in this order, and their keys are these
pub record Right (p : Pair) : Type 0 where
  pub ordered : Ordered p.first.word p.second.word p.is
  pub first : Stored p.first
  pub second : Stored p.second

right : (p : Pair) → T (is_right p) → Right p
unfolding is_right
right p t =
    let one_right = is_stored p.first in
    let other_right = is_stored p.second in
    let o = order (filed p.first.row (stored_form p.first.word)) (filed p.second.row (stored_form p.second.word)) in
    let rest : T (other_right && same_order o p.is) = both_right one_right (other_right && same_order o p.is) t in
    let a = stored p.first (both_left one_right (other_right && same_order o p.is) t) in
    let b = stored p.second (both_left other_right (same_order o p.is) rest) in
    record {
      ordered =
          ordered_by p.first.word p.second.word (length p.first.row) (length p.second.row) a.kept.stores b.kept.stores p.first.row p.second.row
          a.kept.gives b.kept.gives p.is (same_order_lem o p.is (both_right other_right (same_order o p.is) rest));
      first = a;
      second = b;
    }

pub pairs_in_order : All Right pairs
pairs_in_order = every_all is_right Right right pairs pairs_right
