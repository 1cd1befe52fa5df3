-- Where tidying moves each live record: to the place behind the live records that start before it. So the entries after tidying are the live ones, each
-- moved by one function, and whatever is asked of them by their words is answered as before, at the new start. Assumes nothing.
use mathlib.Core.Path.{◌≡◌, refl, sym, ap, ◌∙◌}
use mathlib.Core.Bool.{Bool, true, false, ◌&&◌}
use mathlib.Core.List.{List, [], ◌∷◌, ◌++◌, map}
use mathlib.Core.Option.{Option, none, some}
use Prim.Native.Nat.{ℕ, suc, ◌+◌, ◌≤◌, ◌<◌}
use native.Mathlib.Omega.{arith}
use borrow.Author.Tests.{le-leb, lt-leb}
use lib.ListN.{length, length-append}
use lib.Seq.{append_snoc}
use Rattle.letters.specs.Choice.{pick}
use Rattle.letters.proofs.Tests.{pick_true, pick_false}
use Rattle.formula.specs.Lists.{filtered, same_list}
use Rattle.formula.proofs.Filtered.{filtered_append}
use Rattle.entries.specs.Entries.{Entry}
use Rattle.entries.specs.Book.{record_bytes, records, size, GoodAfter}
use Rattle.entries.specs.Map.{lookup, counted, live_count, live_ones}
use Rattle.entries.specs.Rank.{insert, sorted_onto, sorted}
use Rattle.entries.specs.Tidy.{live_length, starting_at, closed_up, tidied, starts_before, start_tidied}
use Rattle.entries.proofs.Records.{length_record, records_append}
use Rattle.entries.proofs.Live.{live_count_lem, live_all, all_live, sorted_live, lookup_live}

-- an entry at the start that tidying gives it
abbrev pub moved : List Entry → Entry → Entry
moved list entry = starting_at (start_tidied list entry.start) entry

-- each entry starts before a place
abbrev AllBefore : ℕ → List Entry → Type 0
AllBefore at [] = Unit {0}
AllBefore at (x ∷ list) = (x.start < at) × AllBefore at list

before_later : (at more : ℕ) (list : List Entry) → at ≤ more → AllBefore at list → AllBefore more list
before_later at more [] h a = tt
before_later at more (x ∷ list) h a = (let first = a.0 in omega arith, before_later at more list h a.1)

before_snoc : (at : ℕ) (list : List Entry) (x : Entry) → AllBefore at list → x.start < at → AllBefore at (list ++ (x ∷ []))
before_snoc at [] x a h = (h, tt)
before_snoc at (y ∷ list) x a h = (a.0, before_snoc at list x a.1 h)

-- those that are passed start before a place, and those ahead do not
passed_before : (at : ℕ) (seen : List Entry) → AllBefore at seen → filtered (starts_before at) seen ≡ seen
unfolding filtered
passed_before at [] a = refl
passed_before at (x ∷ seen) a =
    pick_true (starts_before at x) _ _ (le-leb (suc x.start) at a.0) ∙ ap (λ (l : List Entry). x ∷ l) (passed_before at seen a.1)

none_ahead : (place at : ℕ) (seen list : List Entry) → place ≤ at → GoodAfter at seen list → filtered (starts_before place) list ≡ []
unfolding filtered
none_ahead place at seen [] h g = refl
none_ahead place at seen (x ∷ list) h g =
    pick_false (starts_before place x) _ _ (lt-leb (suc x.start) place (omega (arith, g.0)))
    ∙ none_ahead place (at + size x) (seen ++ (x ∷ [])) list (omega arith) g.3

-- so an entry moves to the live length of those passed
moved_to : (at : ℕ) (seen list : List Entry) → AllBefore at seen → GoodAfter at seen list → start_tidied (seen ++ list) at ≡ live_length seen
moved_to at seen list a g =
    ap live_length
    (filtered_append (starts_before at) seen list ∙ (λ i. passed_before at seen a i ++ none_ahead at at seen list (omega arith) g i) ∙ append_none seen)
  where
    append_none : (l : List Entry) → l ++ [] ≡ l
    append_none [] = refl
    append_none (x ∷ l) = ap (λ (m : List Entry). x ∷ m) (append_none l)

live_more : (seen : List Entry) (x : Entry) → live_length (seen ++ (x ∷ [])) ≡ live_length seen + length (records (live_ones (x ∷ [])))
live_more seen x =
    ap (λ (l : List Entry). length (records l)) (filtered_append _ seen (x ∷ []))
    ∙ ap length (records_append (live_ones seen) (live_ones (x ∷ []))) ∙ length-append (records (live_ones seen)) (records (live_ones (x ∷ [])))

closed_moved : (at : ℕ) (seen list whole : List Entry) → whole ≡ seen ++ list → AllBefore at seen → GoodAfter at seen list
    → closed_up (live_length seen) (live_ones list) ≡ map (moved whole) (live_ones list)
unfolding filtered pick
closed_moved at seen [] whole w a g = refl
closed_moved at seen (x ∷ list) whole w a g =
    go x.live refl
    (closed_moved (at + size x) (seen ++ (x ∷ [])) list whole (w ∙ sym (append_snoc seen x list))
    (before_snoc (at + size x) seen x (before_later at (at + size x) seen (omega arith) a) (omega (arith, g.0))) g.3)
  where
    own : start_tidied whole x.start ≡ live_length seen
    own = (λ i. start_tidied (w i) (g.0 i)) ∙ moved_to at seen (x ∷ list) a g

    go : (t : Bool) → x.live ≡ t → closed_up (live_length (seen ++ (x ∷ []))) (live_ones list) ≡ map (moved whole) (live_ones list)
        → closed_up (live_length seen) (pick t (x ∷ live_ones list) (live_ones list)) ≡ map (moved whole) (pick t (x ∷ live_ones list) (live_ones list))
    go true e h =
        let next : live_length (seen ++ (x ∷ [])) ≡ live_length seen + size x =
        live_more seen x ∙ ap (λ (t : Bool). live_length seen + length (records (pick t (x ∷ []) []))) e
        ∙ omega (arith, length-append (record_bytes x) [], length_record x) in
        λ i. starting_at (sym own i) x ∷ (ap (λ (n : ℕ). closed_up n (live_ones list)) (sym next) ∙ h) i
    go false e h =
        let next : live_length (seen ++ (x ∷ [])) ≡ live_length seen =
        live_more seen x ∙ ap (λ (t : Bool). live_length seen + length (records (pick t (x ∷ []) []))) e ∙ omega arith in
        ap (λ (n : ℕ). closed_up n (live_ones list)) (sym next) ∙ h

-- the entries after tidying are the live ones, moved
pub tidied_moved : (list : List Entry) → GoodAfter 0 [] list → tidied list ≡ map (moved list) (live_ones list)
unfolding filtered
tidied_moved list g = closed_moved 0 [] list list refl tt g

-- What is asked by words alone does not see that entries have other starts.
module _ (place : Entry → ℕ) where
  abbrev pub placed : Entry → Entry
  placed entry = starting_at (place entry) entry

  abbrev pub placed_one : Option Entry → Option Entry
  placed_one none = none
  placed_one (some entry) = some (placed entry)

  pub lookup_placed : (list : List Entry) (word : List ℕ) → lookup (map placed list) word ≡ placed_one (lookup list word)
  unfolding lookup pick
  lookup_placed [] word = refl
  lookup_placed (x ∷ list) word = go (x.live && same_list x.word word) (lookup_placed list word)
    where
      go : (t : Bool) → lookup (map placed list) word ≡ placed_one (lookup list word)
          → pick t (some (placed x)) (lookup (map placed list) word) ≡ placed_one (pick t (some x) (lookup list word))
      go true h = refl
      go false h = h

  pub count_placed : (list : List Entry) → live_count (map placed list) ≡ live_count list
  count_placed [] = refl
  count_placed (x ∷ list) = ap (counted x.live) (count_placed list)

  module _ (before : Entry → Entry → Bool) (same : (x y : Entry) → before (placed x) (placed y) ≡ before x y) where
    insert_placed : (x : Entry) (list : List Entry) → insert before (placed x) (map placed list) ≡ map placed (insert before x list)
    unfolding insert pick
    insert_placed x [] = refl
    insert_placed x (y ∷ list) =
        ap (λ (t : Bool). pick t (placed x ∷ placed y ∷ map placed list) (placed y ∷ insert before (placed x) (map placed list))) (same x y)
        ∙ go (before x y) (insert_placed x list)
      where
        go : (t : Bool) → insert before (placed x) (map placed list) ≡ map placed (insert before x list)
            → pick t (placed x ∷ placed y ∷ map placed list) (placed y ∷ insert before (placed x) (map placed list))
            ≡ map placed (pick t (x ∷ y ∷ list) (y ∷ insert before x list))
        go true h = refl
        go false h = ap (λ (l : List Entry). placed y ∷ l) h

    pub onto_placed : (done list : List Entry) → sorted_onto before (map placed done) (map placed list) ≡ map placed (sorted_onto before done list)
    unfolding sorted_onto pick
    onto_placed done [] = refl
    onto_placed done (x ∷ list) =
        ap (λ (d : List Entry). sorted_onto before d (map placed list)) (go x.live) ∙ onto_placed (pick x.live (insert before x done) done) list
      where
        go : (t : Bool) → pick t (insert before (placed x) (map placed done)) (map placed done) ≡ map placed (pick t (insert before x done) done)
        go true = insert_placed x done
        go false = refl

module _ (list : List Entry) (g : GoodAfter 0 [] list) where
  -- each word looks up the entry that it did, moved
  pub lookup_tidied : (word : List ℕ) → lookup (tidied list) word ≡ placed_one (λ entry. start_tidied list entry.start) (lookup list word)
  lookup_tidied word =
      ap (λ (l : List Entry). lookup l word) (tidied_moved list g) ∙ lookup_placed (λ entry. start_tidied list entry.start) (live_ones list) word
      ∙ ap (placed_one (λ entry. start_tidied list entry.start)) (lookup_live list word)

  pub count_tidied : live_count (tidied list) ≡ live_count list
  count_tidied =
      ap live_count (tidied_moved list g) ∙ count_placed (λ entry. start_tidied list entry.start) (live_ones list)
      ∙ sym (live_count_lem (live_ones list)) ∙ ap length (all_live (live_ones list) (live_all list)) ∙ live_count_lem list

  -- the live entries in order are those that they were, moved
  pub sorted_tidied : (before : Entry → Entry → Bool) → ((x y : Entry) (p q : ℕ) → before (starting_at p x) (starting_at q y) ≡ before x y)
      → sorted before (tidied list) ≡ map (moved list) (sorted before list)
  unfolding sorted_onto
  sorted_tidied before same =
      ap (sorted before) (tidied_moved list g)
      ∙ onto_placed (λ entry. start_tidied list entry.start) before (λ x y. same x y _ _) [] (live_ones list)
      ∙ ap (map (moved list)) (sorted_live before [] list)
