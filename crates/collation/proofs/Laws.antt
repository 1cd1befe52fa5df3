-- Words whose stored forms are rows are in a strict total order, which their keys tell: what they are filed by is in one, and only one
-- row gives a stored form. Assumes nothing.
use mathlib.Core.Path.{◌≡◌, ap, sym, subst, ◌∙◌}
use mathlib.Core.List.{List}
use Prim.Native.Nat.{ℕ, ◌-◌}
use lib.ListN.{length, take}
use lib.Seq.{take_at}
use Rattle.formula.specs.Row.{Row, Gives}
use Rattle.formula.specs.Weighing.{weights}
use Rattle.rows.proofs.Viable.{only_row}
use Rattle.storage.specs.Stored.{stored_form}
use Rattle.normaliser.specs.Normal.{Stores}
use Rattle.weighing.specs.Order.{in_turn, order_values, order_weights, Filed, filed, order}
use Rattle.weighing.specs.Keys.{key_limit, used_bytes, zeros, key_of}
use Rattle.std.specs.declared.cmp.Ordering.{Ordering}
use Rattle.std.specs.declared.cmp.Ordering.TheVariants.{Less, Equal}
use Rattle.weighing.proofs.Lexicographic.{opposite, less_not_equal}
use Rattle.weighing.proofs.Laws.{words_are_ordered, keys_order, key_used}
use Rattle.collation.specs.Keyed.{HasKey}
use Rattle.collation.specs.Comparison.{Ordered}
use Rattle.collation.specs.declared.key.Key.{Key}

-- two words that are stored are in exactly one order: that of what they are filed by
pub in_order : (first second : List ℕ) (n m : ℕ) (s : Stores first n) (t : Stores second m)
    → Ordered first second (order (filed s.reads.row (stored_form first)) (filed t.reads.row (stored_form second)))
in_order first second n m s t =
    record {
      first_count = n;
      first_stores = s;
      second_count = m;
      second_stores = t;
      by_weights =
          λ row other g h.
          ap (λ (r : Row). order (filed r (stored_form first)) (filed t.reads.row (stored_form second))) (sym (s.reads.only row g))
          ∙ ap (λ (r : Row). order (filed row (stored_form first)) (filed r (stored_form second))) (sym (t.reads.only other h));
    }

-- whichever rows give them
pub ordered_by : (first second : List ℕ) (n m : ℕ) → Stores first n → Stores second m
    → (row other : Row) → Gives row (stored_form first) → Gives other (stored_form second)
    → (o : Ordering) → order (filed row (stored_form first)) (filed other (stored_form second)) ≡ o → Ordered first second o
ordered_by first second n m s t row other g h o e =
    subst (Ordered first second) ((in_order first second n m s t).by_weights row other g h ∙ e) (in_order first second n m s t)

-- the order of two words that are, at their own rows
at_rows : (first second : List ℕ) (o : Ordering) (s : Ordered first second o)
    → o ≡ order (filed s.first_stores.reads.row (stored_form first)) (filed s.second_stores.reads.row (stored_form second))
at_rows first second o s =
    s.by_weights s.first_stores.reads.row s.second_stores.reads.row s.first_stores.reads.gives s.second_stores.reads.gives

pub irreflexive : (word : List ℕ) → Ordered word word Less → ⊥
irreflexive word s =
    let g = s.first_stores.reads in
    less_not_equal
    (s.by_weights g.row g.row g.gives g.gives ∙ words_are_ordered.alike (filed g.row (stored_form word)))

pub turned : (first second : List ℕ) (o : Ordering) → Ordered first second o → Ordered second first (opposite o)
turned first second o s =
    record {
      first_count = s.second_count;
      first_stores = s.second_stores;
      second_count = s.first_count;
      second_stores = s.first_stores;
      by_weights =
          λ row other g h. ap opposite (s.by_weights other row h g)
          ∙ sym (words_are_ordered.turned (filed other (stored_form first)) (filed row (stored_form second)));
    }

pub transitive : (first second third : List ℕ) → Ordered first second Less → Ordered second third Less → Ordered first third Less
transitive first second third s t =
    let g = s.second_stores.reads in
    record {
      first_count = s.first_count;
      first_stores = s.first_stores;
      second_count = t.second_count;
      second_stores = t.second_stores;
      by_weights =
          λ row other h k.
          sym
          (words_are_ordered.transitive (filed row (stored_form first)) (filed g.row (stored_form second)) (filed other (stored_form third))
          (sym (s.by_weights row g.row h g.gives)) (sym (t.by_weights g.row other g.gives k)));
    }

-- "So two words are equal only when their stored forms are identical."
pub equal_identical : (first second : List ℕ) → Ordered first second Equal → stored_form first ≡ stored_form second
equal_identical first second s =
    let g = s.first_stores.reads in
    let h = s.second_stores.reads in
    ap (λ (a : Filed). a.values)
    (words_are_ordered.identical (filed g.row (stored_form first)) (filed h.row (stored_form second)) (sym (at_rows first second Equal s)))

-- and identical stored forms are equal
pub identical_equal : (first second : List ℕ) (n m : ℕ) → Stores first n → Stores second m → stored_form first ≡ stored_form second → Ordered first second Equal
identical_equal first second n m s t e =
    record {
      first_count = n;
      first_stores = s;
      second_count = m;
      second_stores = t;
      by_weights =
          λ row other g h.
          let same : row ≡ other = only_row row other (stored_form second) (subst (Gives row) e g) h in
          sym
          (ap (λ (r : Row). order (filed r (stored_form first)) (filed other (stored_form second))) same
          ∙ ap (λ (w : List ℕ). order (filed other w) (filed other (stored_form second))) e
          ∙ words_are_ordered.alike (filed other (stored_form second)));
    }

-- the used bytes of a key are the weights of the row
pub used_bytes_lem : (word : List ℕ) (key : Key) → HasKey word key → (row : Row) → Gives row (stored_form word)
    → take (used_bytes key.count) key.bytes ≡ key_of row
used_bytes_lem word key right row g =
    let count : length row ≡ key.count = ap length (right.stores.reads.only row g) ∙ right.stores.reads.count in
    ap (take (used_bytes key.count)) (right.bytes row g)
    ∙ take_at (key_of row) (zeros (key_limit - used_bytes (length row))) (used_bytes key.count) (key_used row ∙ ap used_bytes count)

-- the used bytes of two keys, compared byte by byte, the shorter first where one begins the other, are in the order of the rows of weights
module _ (first : List ℕ) (key : Key) (right : HasKey first key) (second : List ℕ) (other : Key) (other_right : HasKey second other) where
  abbrev pub by_keys : Ordering
  by_keys = order_values (take (used_bytes key.count) key.bytes) (take (used_bytes other.count) other.bytes)

  pub keys_in_order : (row third : Row) → Gives row (stored_form first) → Gives third (stored_form second)
      → by_keys ≡ order_weights (weights row) (weights third)
  keys_in_order row third g h =
      ap (λ (w : List ℕ). order_values w (take (used_bytes other.count) other.bytes)) (used_bytes_lem first key right row g)
      ∙ ap (order_values (key_of row)) (used_bytes_lem second other other_right third h) ∙ keys_order row third

  -- so words compare by their keys, and by their stored forms where those are the same
  pub keys_compare : Ordered first second (in_turn by_keys (order_values (stored_form first) (stored_form second)))
  unfolding order
  keys_compare =
      record {
        first_count = key.count;
        first_stores = right.stores;
        second_count = other.count;
        second_stores = other_right.stores;
        by_weights = λ row third g h. ap (λ (o : Ordering). in_turn o (order_values (stored_form first) (stored_form second))) (keys_in_order row third g h);
      }
