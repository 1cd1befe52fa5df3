-- What sorting the records that fit answers, from what filing them, keeping those that fit and sorting these gave.
-- Assumes nothing.
use mathlib.Core.Path.{◌≡◌, refl, sym, ap, subst, ◌∙◌}
use mathlib.Core.Bool.{Bool, true, false}
use mathlib.Core.List.{List, [], ◌∷◌, ◌++◌, map}
use Prim.Native.Nat.{ℕ, ◌≤◌, ◌<◌}
use native.Mathlib.Omega.{arith}
use lib.ListN.{length, take, drop, length-append}
use lib.Seq.{length-sets, length-take-le, take_at, drop_at, take-append-le}
use Rattle.memory.proofs.Stores.{sets_front}
use Rattle.letters.specs.Choice.{pick}
use Rattle.formula.specs.Lists.{filtered}
use Rattle.formula.proofs.Filtered.{filtered_few}
use Rattle.refusals.specs.Outcome.{accepts, refuses}
use Rattle.refusals.specs.Output.{Puts, whole, no_room}
use Rattle.entries.specs.Entries.{Entry}
use Rattle.entries.specs.Book.{IsBook}
use Rattle.entries.specs.Map.{live_ones}
use Rattle.book_keys.specs.Filing.{AllKeyed, start_of, FiledRight}
use Rattle.book_fitting.specs.Fitting.{fits_key, has_prefix, KeptRight}
use Rattle.book_fitting.proofs.Fits.{kept_entries}
use Rattle.sorting.specs.Sorting.{in_order, goes_before}
use Rattle.sorting.specs.Passing.{starts_passing, PutsPassing}
use Rattle.sorting.proofs.InOrder.{passing_in_order, passing_count}

keyed_filtered : (bytes keys : List ℕ) (test : ℕ → Bool) (l : List ℕ) → AllKeyed bytes keys l → AllKeyed bytes keys (filtered test l)
unfolding filtered pick
keyed_filtered bytes keys test [] a = tt
keyed_filtered bytes keys test (x ∷ l) a = go (test x) (keyed_filtered bytes keys test l a.1)
  where
    go : (t : Bool) → AllKeyed bytes keys (filtered test l) → AllKeyed bytes keys (pick t (x ∷ filtered test l) (filtered test l))
    go true h = (a.0, h)
    go false h = h

module _ {bytes keys_before starts_before_lem keys filed kept prefix : List ℕ} {live count : ℕ}
    (f : FiledRight bytes keys_before starts_before_lem keys filed live) (k : KeptRight keys prefix (take live filed) kept count) where
  -- the starts that fit
  abbrev chosen : List ℕ
  chosen = filtered (has_prefix keys prefix) (take live filed)

  few : count ≤ live
  few = omega (arith, k.counted, filtered_few (has_prefix keys prefix) (take live filed), length-take-le live filed f.start_room)

  -- they stand at the front of what is kept, and of the list that it is part of
  kept_front : (rest : List ℕ) → take count (kept ++ rest) ≡ chosen
  kept_front rest =
      let fits = filtered_few (has_prefix keys prefix) (take live filed) in
      let front : kept ≡ chosen ++ drop (length chosen) (take live filed) = k.starts ∙ sets_front chosen (take live filed) fits in
      take-append-le count kept rest (omega (arith, k.counted, fits, ap length k.starts, length-sets (take live filed) 0 chosen))
      ∙ ap (take count) front ∙ take_at chosen (drop (length chosen) (take live filed)) count (sym k.counted)

  -- so many are there
  pub kept_fits : count ≤ length (kept ++ drop live filed)
  kept_fits =
      omega (
        arith,
        few,
        length-append kept (drop live filed),
        ap length k.starts,
        length-sets (take live filed) 0 chosen,
        length-take-le live filed f.start_room,
      )

  chosen_keyed : AllKeyed bytes keys chosen
  chosen_keyed = keyed_filtered bytes keys (has_prefix keys prefix) (take live filed) f.keyed

  module _ (list : List Entry) (is : IsBook bytes list) where
    chosen_entries : chosen ≡ map start_of (filtered (fits_key prefix) (live_ones list))
    chosen_entries =
        ap (filtered (has_prefix keys prefix)) (f.filed list is)
        ∙ kept_entries bytes keys prefix list is (subst (AllKeyed bytes keys) (f.filed list is) f.keyed)

    sorted_chosen : in_order (goes_before bytes) chosen ≡ starts_passing (fits_key prefix) list
    sorted_chosen = ap (in_order (goes_before bytes)) chosen_entries ∙ passing_in_order bytes list is (fits_key prefix)

    passing_many : length (starts_passing (fits_key prefix) list) ≡ count
    passing_many = passing_count bytes list is (fits_key prefix) ∙ ap length (sym chosen_entries) ∙ sym k.counted

  pub refused_short : (starts : List ℕ) → length starts < count → PutsPassing bytes (fits_key prefix) starts starts (refuses 5 count)
  refused_short starts h list is =
      subst (λ (n : ℕ). Puts (starts_passing (fits_key prefix) list) starts starts (refuses 5 n)) (passing_many list is)
      (no_room (omega (arith, passing_many list is)) refl)

  -- they are copied to the front, the rest untouched
  module _ (rest starts copied front : List ℕ) (fits : count ≤ length starts) (e : front ≡ take count (kept ++ rest)) (c : copied ≡ front ++ drop count starts) where
    copied_there : copied ≡ chosen ++ drop count starts
    copied_there = c ∙ ap (λ (l : List ℕ). l ++ drop count starts) (e ∙ kept_front rest)

    copied_front : take count copied ≡ chosen
    copied_front = ap (take count) copied_there ∙ take_at chosen (drop count starts) count (sym k.counted)

    pub copied_keyed : AllKeyed bytes keys (take count copied)
    copied_keyed = subst (AllKeyed bytes keys) (sym copied_front) chosen_keyed

    pub copied_count : length (take count copied) ≡ count
    copied_count = ap length copied_front ∙ sym k.counted

    -- and sorted there
    pub put_passing : (after : List ℕ) → after ≡ in_order (goes_before bytes) (take count copied) ++ drop count copied → PutsPassing bytes (fits_key prefix) starts after (accepts count)
    put_passing after s list is =
        let many = passing_many list is in
        let sorted_front : in_order (goes_before bytes) (take count copied) ≡ starts_passing (fits_key prefix) list =
        ap (in_order (goes_before bytes)) copied_front ∙ sorted_chosen list is in
        let untouched : drop count copied ≡ drop count starts = ap (drop count) copied_there ∙ drop_at chosen (drop count starts) count (sym k.counted) in
        subst (λ (n : ℕ). Puts (starts_passing (fits_key prefix) list) starts after (accepts n)) many
        (whole (omega (arith, many))
        (s ∙ (λ i. sorted_front i ++ untouched i) ∙ ap (λ (n : ℕ). starts_passing (fits_key prefix) list ++ drop n starts) (sym many)))
