-- Rows that begin with others, by their weights: the used bytes of keys tell it, a row begins with its own first syllables, what begins with a row
-- begins with the first syllables of that row, and finals of every form are alike. Assumes nothing.
use mathlib.Core.Path.{◌≡◌, refl, sym, ap, subst, ◌∙◌}
use mathlib.Core.Bool.{Bool, true, false, ◌&&◌}
use mathlib.Core.List.{List, [], ◌∷◌, ◌++◌, append-nil}
use Prim.Native.Nat.{ℕ, ◌<◌}
use native.Mathlib.Omega.{arith}
use borrow.Author.Tests.{eq-eqb, ne_eqb}
use lib.Dec.{T, eqb}
use lib.ListN.{length, take, drop}
use Rattle.letters.specs.Marks.{MedialGroup, Vowel, ToneMark}
use Rattle.formula.specs.Syllable.{Final, plain, stacked, kinzi, great_sa, syllable}
use Rattle.formula.specs.Row.{Row}
use Rattle.formula.specs.Weighing.{final_weight_of, second_final_weight_of, weights_of, weights}
use Rattle.formula.proofs.Lists.{same_list, is_prefix, is_prefix_of_lists, prefix_append, begins_append, prefix_rest, prefix_transitive, same_list_equal, same_list_refl}
use Rattle.weighing.specs.Order.{order_numbers, in_turn, order_values}
use Rattle.std.specs.declared.cmp.Ordering.{Ordering}
use Rattle.std.specs.declared.cmp.Ordering.TheVariants.{Less, Equal, Greater}
use Rattle.weighing.specs.Keys.{key_of}
use Rattle.weighing.specs.Prefix.{begins_with}
use Rattle.weighing.proofs.OrderOfNumbers.{Stand, below, level, above, stand}

-- the used bytes of a key begin with those of another exactly where the row of weights begins with that of the other
pub key_prefix : (query row : Row) → is_prefix (key_of query) (key_of row) ≡ begins_with row query
unfolding weights_of
key_prefix [] row = refl
key_prefix (syllable h m v f t ∷ query) [] = refl
key_prefix (syllable h m v f t ∷ query) (syllable i n w g u ∷ row) =
    let first = weights_of (syllable h m v f t) in
    let second = weights_of (syllable i n w g u) in
    prefix_append eqb first second (key_of query) (key_of row) refl ∙ ap (λ (b : Bool). same_list first second && b) (key_prefix query row)

abbrev pub is_equal : Ordering → Bool
is_equal Less = false
is_equal Equal = true
is_equal Greater = false

-- a list begins with another where its part of that length is the same
pub prefix_compared : (xs ys : List ℕ) → is_equal (order_values (take (length xs) ys) xs) ≡ is_prefix xs ys
unfolding order_values
prefix_compared [] ys = refl
prefix_compared (x ∷ xs) [] = refl
prefix_compared (x ∷ xs) (y ∷ ys) = go (order_values (take (length xs) ys) xs) (stand y x) (prefix_compared xs ys)
  where
    go : (later : Ordering) → Stand y x → is_equal later ≡ is_prefix xs ys → is_equal (in_turn (order_numbers y x) later) ≡ eqb x y && is_prefix xs ys
    go later (below h o) e =
        ap (λ (p : Ordering). is_equal (in_turn p later)) o ∙ sym (ap (λ (b : Bool). b && is_prefix xs ys) (ne_eqb x y (λ s. omega arith)))
    go later (level h o) e =
        ap (λ (p : Ordering). is_equal (in_turn p later)) o ∙ e ∙ sym (ap (λ (b : Bool). b && is_prefix xs ys) (eq-eqb x y (sym h)))
    go later (above h o) e =
        ap (λ (p : Ordering). is_equal (in_turn p later)) o ∙ sym (ap (λ (b : Bool). b && is_prefix xs ys) (ne_eqb x y (λ s. omega arith)))

-- and not with a longer one
pub prefix_short : (xs ys : List ℕ) → length ys < length xs → is_prefix xs ys ≡ false
prefix_short [] ys h = let z : ⊥ = omega arith in absurd z
prefix_short (x ∷ xs) [] h = refl
prefix_short (x ∷ xs) (y ∷ ys) h = go (eqb x y) (prefix_short xs ys (omega arith))
  where
    go : (b : Bool) → is_prefix xs ys ≡ false → b && is_prefix xs ys ≡ false
    go true e = e
    go false e = refl

-- a row begins with another exactly where its weights are those of the other, and then the weights of the rest
pub rest_begins : (row query : Row) (rest : List (List ℕ)) → weights row ≡ weights query ++ rest → T (begins_with row query)
rest_begins row query rest e =
    subst (λ (l : List (List ℕ)). T (is_prefix_of_lists (weights query) l)) (sym e) (begins_append same_list same_list_refl (weights query) rest)

pub begins_rest : (row query : Row) → T (begins_with row query) → weights row ≡ weights query ++ drop (length (weights query)) (weights row)
begins_rest row query t = prefix_rest same_list same_list_equal (weights query) (weights row) t

weights_append : (row rest : Row) → weights (row ++ rest) ≡ weights row ++ weights rest
weights_append [] rest = refl
weights_append (s ∷ row) rest = ap (λ (l : List (List ℕ)). weights_of s ∷ l) (weights_append row rest)

-- a row begins with its first syllables, and with itself
pub begins_with_first : (row rest : Row) → T (begins_with (row ++ rest) row)
begins_with_first row rest = rest_begins (row ++ rest) row (weights rest) (weights_append row rest)

pub begins_with_itself : (row : Row) → T (begins_with row row)
begins_with_itself row = subst (λ (r : Row). T (begins_with r row)) (append-nil row) (begins_with_first row [])

-- what begins with a row begins with what that row begins with
pub begins_transitive : (row query first : Row) → T (begins_with row query) → T (begins_with query first) → T (begins_with row first)
begins_transitive row query first t u = prefix_transitive same_list same_list_equal (weights first) (weights query) (weights row) u t

-- "a plain final in the query thus finds a stacked one": the last final of the query may have any form in the row, where its weights are the same
module _ (front rest : Row) (head : ℕ) (medial : MedialGroup) (vowel : Vowel) (tone : ToneMark) where
  abbrev with_final_lem : Final → Row
  with_final_lem final = front ++ (syllable head medial vowel final tone ∷ [])

  pub finals_alike : (asked found : Final) → final_weight_of asked ≡ final_weight_of found → second_final_weight_of asked ≡ second_final_weight_of found
      → T (begins_with (with_final_lem found ++ rest) (with_final_lem asked))
  unfolding weights_of
  finals_alike asked found e d =
      let same : weights (with_final_lem found) ≡ weights (with_final_lem asked) =
      weights_append front (syllable head medial vowel found tone ∷ []) ∙ rw (← e, ← d)
      (sym (weights_append front (syllable head medial vowel asked tone ∷ []))) in
      subst (λ (l : List (List ℕ)). T (is_prefix_of_lists l (weights (with_final_lem found ++ rest)))) same (begins_with_first (with_final_lem found) rest)

  pub plain_finds_stacked : (letter : ℕ) → T (begins_with (with_final_lem (stacked letter) ++ rest) (with_final_lem (plain letter)))
  plain_finds_stacked letter = finals_alike (plain letter) (stacked letter) refl refl

  pub plain_finds_kinzi : T (begins_with (with_final_lem kinzi ++ rest) (with_final_lem (plain 0x1004)))
  plain_finds_kinzi = finals_alike (plain 0x1004) kinzi refl refl

  pub plain_finds_great_sa : T (begins_with (with_final_lem great_sa ++ rest) (with_final_lem (plain 0x101E)))
  plain_finds_great_sa = finals_alike (plain 0x101E) great_sa refl refl
