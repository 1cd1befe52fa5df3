-- The filed keys tell which records fit: the weights of a key begin with others where the part of their length is the same; and the starts that are
-- kept are those of the live entries that fit. Assumes nothing.
use mathlib.Core.Path.{◌≡◌, refl, sym, ap, subst, ◌∙◌}
use mathlib.Core.Bool.{Bool, true, false, ◌&&◌}
use mathlib.Core.List.{List, [], ◌∷◌, ◌++◌, map, append-nil}
use Prim.Native.Nat.{ℕ, ◌+◌, ◌-◌, ◌≤◌, ◌<◌}
use native.Mathlib.Numerals.{add-one}
use native.Mathlib.Omega.{arith}
use lib.Dec.{eqb}
use Rattle.std.specs.List.{starts_with}
use lib.ListN.{length, get_or, take, drop, set, length-append}
use lib.Seq.{sets, length-sets, length-take-le, take_all, take-suc, get_or-drop}
use Rattle.memory.proofs.Stores.{sets_behind, sets_whole}
use Rattle.letters.specs.Choice.{pick}
use Rattle.formula.specs.Lists.{filtered, is_prefix}
use Rattle.formula.specs.Row.{Row}
use Rattle.formula.proofs.Lists.{All}
use Rattle.formula.proofs.Filtered.{filtered_append, filtered_few, filtered_alike, filtered_all, filtered_map}
use Rattle.weighing.specs.Keys.{key_of}
use Rattle.weighing.proofs.Prefix.{key_prefix}
use Rattle.entries.specs.Entries.{Entry, entry_at}
use Rattle.entries.specs.Book.{IsBook}
use Rattle.entries.specs.Map.{live_ones}
use Rattle.book_keys.specs.Filing.{row_of, AllKeyed, start_of}
use Rattle.book_keys.proofs.Rows.{keyed_weights}
use Rattle.book_keys.proofs.Live.{entries_back}
use Rattle.book_keys.proofs.Collecting.{starts_snoc}
use Rattle.book_fitting.specs.Fitting.{fits, fits_key, has_prefix, KeptRight}

-- the library's test is that of the definition
pub prefix_told : (prefix weights : List ℕ) → starts_with eqb weights prefix ≡ is_prefix prefix weights
prefix_told [] weights = refl
prefix_told (x ∷ prefix) [] = refl
prefix_told (x ∷ prefix) (y ∷ weights) = ap (λ (t : Bool). eqb x y && t) (prefix_told prefix weights)

-- the values behind those that are put at the front
untouched : (vs l : List ℕ) (k : ℕ) → length vs ≤ k → length vs ≤ length l → get_or (sets l 0 vs) k 0 ≡ get_or l k 0
untouched vs l k h fits =
    let n : length vs + (k - length vs) ≡ k = omega arith in
    let z : 0 + length vs ≡ length vs = omega arith in
    let behind : drop (length vs) (sets l 0 vs) ≡ drop (length vs) l = subst (λ (q : ℕ). drop q (sets l 0 vs) ≡ drop q l) z (sets_behind vs l 0 (omega arith)) in
    ap (λ (q : ℕ). get_or (sets l 0 vs) q 0) (sym n) ∙ sym (get_or-drop (length vs) (sets l 0 vs) (k - length vs) 0)
    ∙ ap (λ (m : List ℕ). get_or m (k - length vs) 0) behind ∙ get_or-drop (length vs) l (k - length vs) 0 ∙ ap (λ (q : ℕ). get_or l q 0) n

-- all begin with no weights
pub keep_all : (keys prefix before : List ℕ) → length prefix ≡ 0 → KeptRight keys prefix before before (length before)
keep_all keys [] before h =
    let e : filtered (has_prefix keys []) before ≡ before = filtered_all (has_prefix keys []) (λ s. refl) before in
    record { counted = ap length (sym e); starts = sym (sets_whole before before refl) ∙ ap (sets before 0) (sym e) }
keep_all keys (x ∷ prefix) before h = let z : ⊥ = omega arith in absurd z

-- at a place of the starts: those that are passed and whose weights begin so stand at the front, and all else is as it was
pub record Kept (keys prefix before after : List ℕ) (count next : ℕ) : Type 0 where
  pub passed : next ≤ length before
  pub counted : count ≡ length (filtered (has_prefix keys prefix) (take next before))
  pub starts : after ≡ sets before 0 (filtered (has_prefix keys prefix) (take next before))

pub keep_start : (keys prefix before : List ℕ) → Kept keys prefix before before 0 0
unfolding filtered
keep_start keys prefix before = record { passed = omega arith; counted = refl; starts = refl }

-- the same state by other names
pub keep_as : (keys prefix before after after_now : List ℕ) (count count_now next : ℕ) → after_now ≡ after → count_now ≡ count
    → Kept keys prefix before after count next → Kept keys prefix before after_now count_now next
keep_as keys prefix before after after_now count count_now next p q k = rw (p, q) k

module _ (keys prefix before after : List ℕ) (count next : ℕ) (k : Kept keys prefix before after count next) where
  abbrev test : ℕ → Bool
  test = has_prefix keys prefix

  keep_few : count ≤ next
  keep_few = omega (arith, k.counted, k.passed, filtered_few test (take next before), length-take-le next before k.passed)

  pub keep_long : length after ≡ length before
  keep_long = ap length k.starts ∙ length-sets before 0 (filtered test (take next before))

  -- the start at the place is the one that stood there
  pub keep_here : get_or after next 0 ≡ get_or before next 0
  keep_here =
      ap (λ (l : List ℕ). get_or l next 0) k.starts
      ∙ untouched (filtered test (take next before)) before next (omega (arith, keep_few, k.counted)) (omega (arith, keep_few, k.counted, k.passed))

  -- there is room for one more
  pub keep_room : next < length before → count < length after
  keep_room h = omega (arith, keep_few, keep_long)

  module _ (h : next < length before) where
    -- what is kept with the start at the place
    with_next : (t : Bool) → test (get_or before next 0) ≡ t
        → filtered test (take (next + 1) before) ≡ filtered test (take next before) ++ pick t (get_or before next 0 ∷ []) []
    unfolding filtered
    with_next t e =
        ap (λ (n : ℕ). filtered test (take n before)) (add-one next) ∙ ap (filtered test) (take-suc before next 0 h) ∙ filtered_append test (take next before) (get_or before next 0 ∷ [])
        ∙ ap (λ (b : Bool). filtered test (take next before) ++ pick b (get_or before next 0 ∷ []) []) e

    pub keep_taken : test (get_or before next 0) ≡ true → Kept keys prefix before (set after count (get_or before next 0)) (count + 1) (next + 1)
    unfolding pick
    keep_taken e =
        let w = with_next true e in
        let front = filtered test (take next before) in
        record {
          passed = omega arith;
          counted = omega (arith, k.counted, ap length w, length-append front (get_or before next 0 ∷ []));
          starts =
              (λ i. set (k.starts i) (k.counted i) (get_or before next 0)) ∙ sym (starts_snoc before front (get_or before next 0)) ∙ ap (sets before 0) (sym w);
        }

    pub keep_left : test (get_or before next 0) ≡ false → Kept keys prefix before after count (next + 1)
    unfolding pick
    keep_left e =
        let w = with_next false e ∙ append-nil (filtered test (take next before)) in
        record { passed = omega arith; counted = k.counted ∙ ap length (sym w); starts = k.starts ∙ ap (sets before 0) (sym w) }

  pub keep_end : length before ≤ next → KeptRight keys prefix before after count
  keep_end h =
      let e : take next before ≡ before = take_all next before h in
      record {
        counted = k.counted ∙ ap (λ (l : List ℕ). length (filtered test l)) e;
        starts = k.starts ∙ ap (λ (l : List ℕ). sets before 0 (filtered test l)) e;
      }

module _ (b keys : List ℕ) where
  keyed_alike : (prefix : List ℕ) (l : List Entry) → AllKeyed b keys (map start_of l) → map (entry_at b) (map start_of l) ≡ l
      → All (λ (e : Entry). has_prefix keys prefix (start_of e) ≡ fits_key prefix e) l
  keyed_alike prefix [] a e = tt
  keyed_alike prefix (x ∷ l) a e =
      let here : entry_at b x.start ≡ x = ap (λ (m : List Entry). get_or m 0 x) e in (
        ap (is_prefix prefix) (keyed_weights b keys x.start a.0) ∙ ap (fits_key prefix) here,
        keyed_alike prefix l a.1 (ap (drop 1) e),
      )

  -- the starts that are kept are those of the live entries that fit
  pub kept_entries : (prefix : List ℕ) (list : List Entry) → IsBook b list → AllKeyed b keys (map start_of (live_ones list))
      → filtered (has_prefix keys prefix) (map start_of (live_ones list)) ≡ map start_of (filtered (fits_key prefix) (live_ones list))
  kept_entries prefix list k a =
      filtered_map (has_prefix keys prefix) start_of (live_ones list)
      ∙ ap (map start_of)
      (filtered_alike (λ (e : Entry). has_prefix keys prefix (start_of e)) (fits_key prefix) (live_ones list)
      (keyed_alike prefix (live_ones list) a (entries_back b list k)))

-- that a key fits is that its row does
pub fits_row : (query : Row) → fits_key (key_of query) ≡ fits query
fits_row query = λ i (e : Entry). key_prefix query (row_of e.word) i
