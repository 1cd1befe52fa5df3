-- The book as a map: what add and remove promise makes find give what was added, 13 for what was removed, and for every other word what it gave
-- before; and the buffer is a book again. The entries after the call are those before it with one more, or with one removed.
-- Assumes nothing.
use mathlib.Core.Path.{◌≡◌, refl, sym, ap, subst, ◌∙◌}
use mathlib.Core.List.{List, [], ◌∷◌, ◌++◌}
use mathlib.Core.Option.{Option, none, some}
use Prim.Native.Nat.{ℕ, zero, suc, ◌+◌, ◌≤◌, ◌<◌}
use native.Mathlib.Omega.{arith}
use lib.ListN.{length}
use Rattle.refusals.specs.Outcome.{accepts, accepts_both, refuses}
use Rattle.entries.specs.Limits.{head_size}
use Rattle.entries.specs.Entries.{Entry, Entries, book, wrong, entries}
use Rattle.entries.specs.Book.{end_of, IsBook, Opened}
use Rattle.entries.specs.Map.{lookup, without, new_entry}
use Rattle.entries.specs.Change.{Storable, with_record, with_removed}
use Rattle.entries.specs.Tidy.{live_length, bytes_tidied, tidied}
use Rattle.entries.specs.Outcome.{finds, start_moved, find_of_entry, find_of, remove_of_entry, remove_of, add_of}
use Rattle.entries.proofs.Bytes.{Bytes}
use Rattle.entries.proofs.Agree.{Sound, sound}
use Rattle.entries.proofs.Lookups.{lookup_added, lookup_others, lookup_removed, lookup_kept}
use Rattle.entries.proofs.Added.{added_book, added_entries}
use Rattle.entries.proofs.Removed.{removed_book, removed_entries}
use Rattle.entries.proofs.Tidied.{length_tidied, end_tidied, tidied_is, bytes_tidied_book}
use Rattle.entries.proofs.Moved.{placed_one, lookup_tidied}
use Rattle.book_change.specs.Written.{bytes_ready, list_ready, start_ready, AddRight, RemoveRight}
use Rattle.book_change.proofs.Fitting.{Placed, behind, tidied_first, Fitting, added_fitting}

-- what is read as a book is one
sound_at : (b : List ℕ) (es : List Entry) (free : ℕ) → Bytes b → entries b ≡ book es free → IsBook b es × (free ≡ end_of 0 es)
sound_at b es free small e = subst (Sound b) e (sound b small)

-- the entries before and after a record is added
pub record Added (before after w : List ℕ) (stock start tidies : ℕ) : Type 0 where
  pub list : List Entry
  pub free : ℕ
  pub was : entries before ≡ book list free
  pub was_book : IsBook before list
  pub not_live : lookup list w ≡ none
  pub placed : Placed list free (length before) (head_size + length w) start tidies
  pub is_book : IsBook after (list_ready tidies list ++ (new_entry start w stock ∷ []))
  pub is : entries after ≡ book (list_ready tidies list ++ (new_entry start w stock ∷ [])) (start + head_size + length w)

module _ (before after w : List ℕ) (stock start tidies : ℕ) (small : Bytes before) (st : Storable w) (fits : stock < 4294967296)
    (r : AddRight w stock before after (accepts_both start tidies)) where
  pub added : Added before after w stock start tidies
  added = go (entries before) refl r.answer
    where
      placed_in_lem : (es : List Entry) (free start tidies : ℕ) → entries before ≡ book es free → lookup es w ≡ none
          → Placed es free (length before) (head_size + length w) start tidies → Added before (with_record (bytes_ready tidies before) start w stock) w stock start tidies
      placed_in_lem es free start tidies q n (behind h) =
          let s = sound_at before es free small q in
          let o : Opened before free = record { list = es; is_book = s.0; end = s.1 } in
          record {
            list = es;
            free = free;
            was = q;
            was_book = s.0;
            not_live = n;
            placed = behind h;
            is_book = added_book before w free stock o (omega arith) st fits n;
            is = added_entries before w free stock o (omega arith) st fits n;
          }
      placed_in_lem es free start tidies q n (tidied_first h k) =
          let s = sound_at before es free small q in
          let o : Opened (bytes_tidied before) (live_length es) =
          record { list = tidied es; is_book = bytes_tidied_book before es s.0; end = sym (end_tidied before es s.0) } in
          let room : live_length es + head_size + length w ≤ length (bytes_tidied before) =
          omega (arith, ap length (tidied_is before es s.0), length_tidied before es s.0) in
          let none_left : lookup (tidied es) w ≡ none = lookup_tidied es s.0.good w ∙ ap (placed_one _) n in
          record {
            list = es;
            free = free;
            was = q;
            was_book = s.0;
            not_live = n;
            placed = tidied_first h k;
            is_book = added_book (bytes_tidied before) w (live_length es) stock o room st fits none_left;
            is = added_entries (bytes_tidied before) w (live_length es) stock o room st fits none_left;
          }

      go : (x : Entries) → entries before ≡ x → accepts_both start tidies ≡ add_of x (length before) w → Added before after w stock start tidies
      go (wrong p) q e = let z : ◌≡◌ {A = ℕ} 0 1 = cc in let y : ⊥ = omega arith in absurd y
      go (book es free) q e =
          let f : Fitting es free (length before) w start tidies = added_fitting es free (length before) w start tidies e in
          subst (λ (b : List ℕ). Added before b w stock start tidies) (sym r.bytes) (placed_in_lem es free start tidies q f.not_live f.placed)

  -- what a word looks up among the entries to which the record is added
  lookup_ready : (tidies : ℕ) (v : List ℕ) → lookup (list_ready tidies added.list) v ≡ placed_one (λ entry. start_ready tidies (book added.list added.free) entry.start) (lookup added.list v)
  lookup_ready zero v = same (lookup added.list v)
    where
      same : (o : Option Entry) → o ≡ placed_one (λ entry. entry.start) o
      same none = refl
      same (some entry) = refl
  lookup_ready (suc n) v = lookup_tidied added.list added.was_book.good v

  -- what was added is found
  pub find_added : find_of (entries after) w ≡ finds start stock
  find_added =
      let none_left : lookup (list_ready tidies added.list) w ≡ none = lookup_ready tidies w ∙ ap (placed_one _) added.not_live in
      ap (λ (x : Entries). find_of x w) added.is ∙ ap find_of_entry (lookup_added (list_ready tidies added.list) w start stock none_left)

  -- every other word as before, where add tidied at the start that its record then has
  pub find_others : (v : List ℕ) → (v ≡ w → ⊥) → find_of (entries after) v ≡ start_moved (start_ready tidies (entries before)) (find_of (entries before) v)
  find_others v n =
      ap (λ (x : Entries). find_of x v) added.is
      ∙ ap find_of_entry (lookup_others (list_ready tidies added.list) w v start stock n ∙ lookup_ready tidies v) ∙ found (lookup added.list v)
      ∙ ap (λ (x : Entries). start_moved (start_ready tidies x) (find_of x v)) (sym added.was)
    where
      found : (o : Option Entry) → find_of_entry (placed_one (λ entry. start_ready tidies (book added.list added.free) entry.start) o)
          ≡ start_moved (start_ready tidies (book added.list added.free)) (find_of_entry o)
      found none = refl
      found (some entry) = refl

-- the entries before and after a record is removed
pub record Removed (before after w : List ℕ) (start : ℕ) : Type 0 where
  pub list : List Entry
  pub free : ℕ
  pub was : entries before ≡ book list free
  pub is_book : IsBook after (without list w)
  pub is : entries after ≡ book (without list w) free

module _ (before after w : List ℕ) (start : ℕ) (small : Bytes before) (r : RemoveRight w before after (accepts start)) where
  pub removed : Removed before after w start
  removed = go (entries before) refl r.answer
    where
      found : (es : List Entry) (free : ℕ) (o : Option Entry) → lookup es w ≡ o → entries before ≡ book es free → accepts start ≡ remove_of_entry o → Removed before after w start
      found es free none l q e = let z : ◌≡◌ {A = ℕ} 0 1 = cc in let y : ⊥ = omega arith in absurd y
      found es free (some x) l q e =
          let at : start ≡ x.start = cc in
          let o : Opened before free = record { list = es; is_book = (sound_at before es free small q).0; end = (sound_at before es free small q).1 } in
          subst (λ (b : List ℕ). Removed before b w start) (sym (r.bytes ∙ ap (with_removed before) at))
          (record { list = es; free = free; was = q; is_book = removed_book before w free x o l; is = removed_entries before w free x o l })

      go : (x : Entries) → entries before ≡ x → accepts start ≡ remove_of x w → Removed before after w start
      go (wrong p) q e = let z : ◌≡◌ {A = ℕ} 0 1 = cc in let y : ⊥ = omega arith in absurd y
      go (book es free) q e = found es free (lookup es w) refl q e

  -- what was removed is not found
  pub find_removed : find_of (entries after) w ≡ refuses 13 0
  find_removed = ap (λ (x : Entries). find_of x w) removed.is ∙ ap find_of_entry (lookup_removed removed.list w)

  -- every other word as before
  pub find_kept : (v : List ℕ) → (v ≡ w → ⊥) → find_of (entries after) v ≡ find_of (entries before) v
  find_kept v n =
      ap (λ (x : Entries). find_of x v) removed.is ∙ ap find_of_entry (lookup_kept removed.list w v n) ∙ ap (λ (x : Entries). find_of x v) (sym removed.was)
