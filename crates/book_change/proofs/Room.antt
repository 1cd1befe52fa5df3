-- The room of removed records: add and remove leave it as it is unless add tidies, and then a record no longer than one that was removed always fits.
-- Assumes nothing.
use mathlib.Core.Path.{◌≡◌, refl, sym, ap, ◌∙◌}
use mathlib.Core.List.{List, [], ◌++◌}
use mathlib.Core.Option.{Option, none, some}
use Prim.Native.Nat.{ℕ, ◌+◌, ◌≤◌, ◌<◌}
use native.Mathlib.Omega.{arith}
use lib.ListN.{length, take, drop, length-set}
use lib.Seq.{length-take-le, take_at}
use Rattle.refusals.specs.Outcome.{accepts, accepts_both, refuses}
use Rattle.entries.specs.Limits.{head_size}
use Rattle.entries.specs.Entries.{Entry, Entries, book, wrong, entries}
use Rattle.entries.specs.Book.{record_bytes, IsBook}
use Rattle.entries.specs.Map.{lookup, without, new_entry}
use Rattle.entries.specs.Change.{Storable}
use Rattle.entries.specs.Tidy.{live_length, bytes_tidied, tidied}
use Rattle.entries.specs.Outcome.{find_of_entry, find_of, remove_of_entry, remove_of, puts, placing, add_of_entry, add_of}
use Rattle.entries.proofs.Bytes.{Bytes}
use Rattle.entries.proofs.Agree.{Sound, sound}
use Rattle.entries.proofs.Lookups.{lookup_word}
use Rattle.entries.proofs.Freed.{live_freed}
use Rattle.entries.proofs.Tidied.{live_within, length_tidied, live_tidied, tidied_is, tidied_entries}
use Rattle.entries.proofs.Moved.{placed_one, lookup_tidied}
use Rattle.entries.proofs.Full.{full_only, not_full}
use Rattle.planning.proofs.Plans.{fits as fits_behind}
use Rattle.book_change.specs.Written.{AddRight, RemoveRight}
use Rattle.book_change.proofs.Fitting.{Placed, behind, tidied_first}
use Rattle.book_change.proofs.Laws.{added, Removed, removed}

-- "Through tidying alone is the room of removed records used again": where add does not tidy, the record stands behind every record of the book, the
-- removed ones too, and no byte before it changes
module _ (before after w : List ℕ) (stock start : ℕ) (small : Bytes before) (st : Storable w) (fits : stock < 4294967296)
    (r : AddRight w stock before after (accepts_both start 0)) where
  pub behind_all : (list : List Entry) (free : ℕ) → entries before ≡ book list free → start ≡ free
  behind_all list free e =
      let a = added before after w stock start 0 small st fits r in
      let same : a.free ≡ free = cc in
      at_free a.list a.free start 0 refl a.placed ∙ same
    where
      at_free : (es : List Entry) (free start tidies : ℕ) → tidies ≡ 0 → Placed es free (length before) (head_size + length w) start tidies → start ≡ free
      at_free es free start tidies e (behind h) = refl
      at_free es free start tidies e (tidied_first h k) = let z : ⊥ = omega arith in absurd z

  pub bytes_before : take start after ≡ take start before
  bytes_before =
      let a = added before after w stock start 0 small st fits r in
      ap (take start) r.bytes
      ∙ take_at (take start before) (record_bytes (new_entry start w stock) ++ drop (start + head_size + length w) before) start (length-take-le start before (within a.list a.free start 0 a.placed))
    where
      within : (es : List Entry) (free start tidies : ℕ) → Placed es free (length before) (head_size + length w) start tidies → start ≤ length before
      within es free start tidies (behind h) = omega arith
      within es free start tidies (tidied_first h k) = omega arith

-- an add that tidies does what tidying and then adding do
pub tidy_then_add : (before after w : List ℕ) (stock start : ℕ) → Bytes before → Storable w → stock < 4294967296
    → AddRight w stock before after (accepts_both start 1) → AddRight w stock (bytes_tidied before) after (accepts_both start 0)
tidy_then_add before after w stock start small st fits r =
    let a = added before after w stock start 1 small st fits r in
    let k = a.was_book in
    let none_left : lookup (tidied a.list) w ≡ none = lookup_tidied a.list k.good w ∙ ap (placed_one _) a.not_live in
    let room = tidied_room a.list a.free start 1 refl a.placed in
    record {
      answer =
          ap puts room.0 ∙ fits_behind (tidied a.list) (live_length a.list) (length (bytes_tidied before)) (head_size + length w)
          (omega (arith, live_tidied before a.list k))
          (omega (arith, room.1, ap length (tidied_is before a.list k), length_tidied before a.list k))
          ∙ sym (ap (λ (o : Option Entry). add_of_entry o (placing (tidied a.list) (live_length a.list) (length (bytes_tidied before)) (head_size + length w))) none_left)
          ∙ sym (ap (λ (x : Entries). add_of x (length (bytes_tidied before)) w) (tidied_entries before a.list k));
      bytes = r.bytes;
    }
  where
    tidied_room : (es : List Entry) (free start tidies : ℕ) → tidies ≡ 1 → Placed es free (length before) (head_size + length w) start tidies
        → (start ≡ live_length es) × (live_length es + (head_size + length w) ≤ length before)
    tidied_room es free start tidies e (behind h) = let z : ⊥ = omega arith in absurd z
    tidied_room es free start tidies e (tidied_first h k) = (refl, k)

-- after a word is removed, a word of no more values is not refused for want of room, however full the book was
module _ (before after w : List ℕ) (start : ℕ) (small : Bytes before) (r : RemoveRight w before after (accepts start)) where
  pub fits_after_remove : (v : List ℕ) → length v ≤ length w → (place : ℕ) → add_of (entries after) (length after) v ≡ refuses 14 place → ⊥
  fits_after_remove v h place e = go (entries before) refl (sound before small) r.answer
    where
      made : Removed before after w start
      made = removed before after w start small r

      full : (es : List Entry) (free : ℕ) → entries before ≡ book es free → IsBook before es → (o : Option Entry) → lookup es w ≡ o
          → accepts start ≡ remove_of_entry o → ⊥
      full es free q k none l a = let z : ◌≡◌ {A = ℕ} 0 1 = cc in omega arith
      full es free q k (some x) l a =
          let same_book : book es free ≡ book made.list made.free = sym q ∙ made.was in
          let same : es ≡ made.list = cc in
          let f = full_only (without made.list w) made.free (length after) v place (sym (ap (λ (y : Entries). add_of y (length after) v) made.is) ∙ e) in
          let long : length after ≡ length before = ap length r.bytes ∙ length-set before (start + 1) 0x2D in
          let word : x.word ≡ w = (lookup_word es w x l).1 in
          omega (arith, f.1, live_freed 0 [] es w x k.good l, live_within before es k, ap (λ (y : List Entry). live_length (without y w)) same, ap length word)

      go : (y : Entries) → entries before ≡ y → Sound before y → accepts start ≡ remove_of y w → ⊥
      go (wrong p) q s a = let z : ◌≡◌ {A = ℕ} 0 1 = cc in omega arith
      go (book es free) q s a = full es free q s.0 (lookup es w) refl a

  -- so where it is not live it is added
  pub added_after_remove : (v : List ℕ) → length v ≤ length w → find_of (entries after) v ≡ refuses 13 0
      → (place : ℕ) × (tidies : ℕ) × (add_of (entries after) (length after) v ≡ accepts_both place tidies)
  added_after_remove v h e =
      let made : Removed before after w start = removed before after w start small r in
      let answer : add_of (entries after) (length after) v ≡ add_of (book (without made.list w) made.free) (length after) v =
      ap (λ (x : Entries). add_of x (length after) v) made.is in
      let none_live : lookup (without made.list w) v ≡ none = none_of (lookup (without made.list w) v) (sym (ap (λ (x : Entries). find_of x v) made.is) ∙ e) in
      let a = not_full (without made.list w) made.free (length after) v none_live (λ place q. fits_after_remove v h place (answer ∙ q)) in
      (a.0, a.1, answer ∙ a.2)
    where
      none_of : (o : Option Entry) → find_of_entry o ≡ refuses 13 0 → o ≡ none
      none_of none q = refl
      none_of (some x) q = let z : ◌≡◌ {A = ℕ} 0 1 = cc in let y : ⊥ = omega arith in absurd y
