-- Adding a record to a book makes the book with one entry more, behind the others: the zeros that it takes stood behind the last record.
-- Assumes nothing.
use mathlib.Core.Path.{◌≡◌, sym, ap, subst, ◌∙◌}
use mathlib.Core.Bool.{Bool, not}
use mathlib.Core.List.{List, [], ◌∷◌, ◌++◌, append_assoc, append-nil}
use mathlib.Core.Option.{none}
use Prim.Native.Nat.{ℕ, zero, suc, ◌+◌, ◌-◌, ◌≤◌, ◌<◌}
use native.Mathlib.Omega.{arith}
use lib.Dec.{T}
use lib.ListN.{length, take, drop, length-append, length-drop}
use lib.Seq.{take_at, drop_at, drop-drop, length-take-le}
use Rattle.entries.specs.Limits.{head_size}
use Rattle.entries.specs.Entries.{Entry, book, is_fresh, entries}
use Rattle.entries.specs.Book.{zeros, record_bytes, records, IsBook, Opened}
use Rattle.entries.specs.Map.{lookup, new_entry}
use Rattle.entries.specs.Change.{Storable, with_record}
use Rattle.entries.proofs.Records.{records_append, end_append, end_length, length_record}
use Rattle.entries.proofs.Agree.{good_snoc, complete}
use Rattle.entries.proofs.Lookups.{holds_lookup}

drop_zeros : (n m : ℕ) → drop n (zeros m) ≡ zeros (m - n)
drop_zeros zero m = ap zeros (let e : m ≡ m - 0 = omega arith in e)
drop_zeros (suc n) zero = ap zeros (let e : 0 ≡ 0 - suc n = omega arith in e)
drop_zeros (suc n) (suc m) = drop_zeros n m ∙ ap zeros (let e : m - n ≡ suc m - suc n = omega arith in e)

fresh_new : (es : List Entry) (w : List ℕ) (p s : ℕ) → lookup es w ≡ none → T (is_fresh es (new_entry p w s))
unfolding is_fresh
fresh_new es w p s e = subst (λ (t : Bool). T (not t)) (sym (holds_lookup es w e)) tt

-- add keeps the buffer's length
pub length_added : (b w : List ℕ) (f s : ℕ) → f + head_size + length w ≤ length b → length (with_record b f w s) ≡ length b
length_added b w f s room =
    let new : Entry = new_entry f w s in
    length-append (take f b) _
    ∙ omega (arith, length-take-le f b (omega arith), length-append (record_bytes new) (drop (f + head_size + length w) b), length_record new, length-drop (f + head_size + length w) b)

module _ (b w : List ℕ) (f s : ℕ) (o : Opened b f) (room : f + head_size + length w ≤ length b) where
  -- the bytes before the new record are the records, and those behind it are zeros
  before_new : take f b ≡ records o.list
  before_new =
      ap (take f) o.is_book.written
      ∙ take_at (records o.list) (zeros o.is_book.pad) f (let e : length (records o.list) ≡ f = omega (arith, end_length 0 o.list, o.end) in e)

  behind_new : drop (f + head_size + length w) b ≡ zeros (o.is_book.pad - (head_size + length w))
  behind_new =
      let shared : length (records o.list) ≡ f = omega (arith, end_length 0 o.list, o.end) in
      ap (λ (n : ℕ). drop n b) (let g : f + head_size + length w ≡ f + (head_size + length w) = omega arith in g) ∙ sym (drop-drop (head_size + length w) f b)
      ∙ ap (drop (head_size + length w)) (ap (drop f) o.is_book.written ∙ drop_at (records o.list) (zeros o.is_book.pad) f shared)
      ∙ drop_zeros (head_size + length w) o.is_book.pad

  pub added_written : with_record b f w s ≡ records (o.list ++ (new_entry f w s ∷ [])) ++ zeros (o.is_book.pad - (head_size + length w))
  added_written =
      let new : Entry = new_entry f w s in
      let rest : List ℕ = zeros (o.is_book.pad - (head_size + length w)) in
      (λ i. before_new i ++ (record_bytes new ++ behind_new i)) ∙ sym (append_assoc (records o.list) (record_bytes new) rest)
      ∙ ap (λ (l : List ℕ). records o.list ++ l ++ rest) (sym (append-nil (record_bytes new)))
      ∙ ap (λ (l : List ℕ). l ++ rest) (sym (records_append o.list (new ∷ [])))

  pub added_book : Storable w → s < 4294967296 → lookup o.list w ≡ none → IsBook (with_record b f w s) (o.list ++ (new_entry f w s ∷ []))
  added_book st small e =
      record {
        short = omega (arith, o.is_book.short, length_added b w f s room);
        pad = o.is_book.pad - (head_size + length w);
        written = added_written;
        good =
            good_snoc 0 [] o.list (new_entry f w s) o.is_book.good o.end
            (record { some = st.some; readable = st.readable; stock = small }) (fresh_new o.list w f s e);
      }

  -- the entries after add are those before it and one more at the end
  pub added_entries : Storable w → s < 4294967296 → lookup o.list w ≡ none
      → entries (with_record b f w s) ≡ book (o.list ++ (new_entry f w s ∷ [])) (f + head_size + length w)
  added_entries st small e =
      complete (with_record b f w s) (o.list ++ (new_entry f w s ∷ [])) (added_book st small e)
      ∙ ap (book (o.list ++ (new_entry f w s ∷ []))) (end_append 0 o.list (new_entry f w s) ∙ omega (arith, o.end))
