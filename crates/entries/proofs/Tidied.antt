-- Tidying a book makes the book of its live entries, each starting where the one before ends. Tidying twice is tidying once, and a book without
-- removed records keeps every byte. Assumes nothing.
use mathlib.Core.Path.{◌≡◌, refl, sym, ap, subst, ◌∙◌}
use mathlib.Core.Bool.{Bool, true, false, not, ◌&&◌, ◌||◌}
use mathlib.Core.List.{List, [], ◌∷◌, ◌++◌}
use Prim.Native.Nat.{ℕ, ◌+◌, ◌-◌, ◌≤◌}
use native.Mathlib.Omega.{arith}
use lib.Dec.{T}
use lib.ListN.{length, length-append, length-replicate}
use Rattle.letters.specs.Choice.{pick}
use Rattle.formula.specs.Lists.{filtered, same_list}
use Rattle.entries.specs.Entries.{Entry, holds, is_fresh, Entries, book, wrong, entries}
use Rattle.entries.specs.Book.{zeros, record_bytes, records, size, end_of, GoodAfter, IsBook}
use Rattle.entries.specs.Map.{live_ones}
use Rattle.entries.specs.Tidy.{live_length, records_tidied, entries_tidied, bytes_tidied, starting_at, closed_up, tidied}
use Rattle.entries.proofs.Bytes.{Bytes}
use Rattle.entries.proofs.Records.{end_length}
use Rattle.entries.proofs.Agree.{Sound, sound, complete}
use Rattle.entries.proofs.Ranked.{AllLive}
use Rattle.entries.proofs.Live.{live_all, all_live}

-- the live records have no more bytes than all
pub live_short : (list : List Entry) → live_length list ≤ length (records list)
unfolding filtered pick
live_short [] = omega arith
live_short (x ∷ list) = go x.live (live_short list)
  where
    go : (t : Bool) → live_length list ≤ length (records list) → length (records (pick t (x ∷ live_ones list) (live_ones list))) ≤ length (records (x ∷ list))
    go true h = omega (arith, length-append (record_bytes x) (records (live_ones list)), length-append (record_bytes x) (records list))
    go false h = omega (arith, length-append (record_bytes x) (records list))

-- so they end within the buffer, where the records of the book end at the latest
pub live_within : (b : List ℕ) (list : List Entry) → IsBook b list → live_length list ≤ length b
live_within b list k = omega (arith, live_short list, ap length k.written, length-append (records list) (zeros k.pad))

pub live_before_lem : (list : List Entry) → live_length list ≤ end_of 0 list
live_before_lem list = omega (arith, live_short list, end_length 0 list)

-- the bytes of a record do not tell its start
records_closed : (at : ℕ) (list : List Entry) → records (closed_up at list) ≡ records list
unfolding record_bytes
records_closed at [] = refl
records_closed at (x ∷ list) = ap (λ (l : List ℕ). record_bytes x ++ l) (records_closed (at + size x) list)

all_closed : (at : ℕ) (list : List Entry) → AllLive list → AllLive (closed_up at list)
all_closed at [] a = tt
all_closed at (x ∷ list) a = (a.0, all_closed (at + size x) list a.1)

holds_append : (seen : List Entry) (x : Entry) (w : List ℕ) → holds (seen ++ (x ∷ [])) w ≡ holds seen w || (x.live && same_list x.word w)
unfolding holds
holds_append [] x w = or_nothing (x.live && same_list x.word w)
  where
    or_nothing : (t : Bool) → t || false ≡ t
    or_nothing true = refl
    or_nothing false = refl
holds_append (y ∷ seen) x w = go (y.live && same_list y.word w) (holds_append seen x w)
  where
    go : (t : Bool) → holds (seen ++ (x ∷ [])) w ≡ holds seen w || (x.live && same_list x.word w)
        → t || holds (seen ++ (x ∷ [])) w ≡ (t || holds seen w) || (x.live && same_list x.word w)
    go true h = refl
    go false h = h

-- the live entries one behind the other are good after entries that hold the same words
good_closed : (at : ℕ) (seen list : List Entry) (p : ℕ) (kept : List Entry) → ((w : List ℕ) → holds kept w ≡ holds seen w) → GoodAfter at seen list
    → GoodAfter p kept (closed_up p (live_ones list))
unfolding filtered pick is_fresh
good_closed at seen [] p kept h g = tt
good_closed at seen (x ∷ list) p kept h g =
    go x.live refl
    (λ t. good_closed (at + size x) (seen ++ (x ∷ [])) list (p + size x) (kept ++ (starting_at p x ∷ [])) same g.3)
    (λ t. good_closed (at + size x) (seen ++ (x ∷ [])) list p kept (gone t) g.3)
  where
    same : (w : List ℕ) → holds (kept ++ (starting_at p x ∷ [])) w ≡ holds (seen ++ (x ∷ [])) w
    same w =
        holds_append kept (starting_at p x) w ∙ ap (λ (t : Bool). t || (x.live && same_list x.word w)) (h w) ∙ sym (holds_append seen x w)

    or_none : (t : Bool) → t ≡ t || false
    or_none true = refl
    or_none false = refl

    gone : x.live ≡ false → (w : List ℕ) → holds kept w ≡ holds (seen ++ (x ∷ [])) w
    gone e w =
        h w ∙ or_none (holds seen w) ∙ ap (λ (t : Bool). holds seen w || (t && same_list x.word w)) (sym e) ∙ sym (holds_append seen x w)

    go : (t : Bool) → x.live ≡ t
        → (x.live ≡ true → GoodAfter (p + size x) (kept ++ (starting_at p x ∷ [])) (closed_up (p + size x) (live_ones list)))
        → (x.live ≡ false → GoodAfter p kept (closed_up p (live_ones list)))
        → GoodAfter p kept (closed_up p (pick t (x ∷ live_ones list) (live_ones list)))
    go true e f n = (
      refl,
      record { some = g.1.some; readable = g.1.readable; stock = g.1.stock },
      subst (λ (t : Bool). T (not (x.live && t))) (sym (h x.word)) g.2,
      f e,
    )
    go false e f n = n e

module _ (b : List ℕ) (list : List Entry) (k : IsBook b list) where
  pub length_tidied : length (records_tidied list (length b)) ≡ length b
  length_tidied =
      length-append (records (live_ones list)) (zeros (length b - live_length list))
      ∙ omega (arith, live_within b list k, length-replicate {A = ℕ} (length b - live_length list) 0)

  -- the outcome is a book, of the live entries with the starts that they then have
  pub tidied_book : IsBook (records_tidied list (length b)) (tidied list)
  unfolding filtered
  tidied_book =
      record {
        short = omega (arith, length_tidied, k.short);
        pad = length b - live_length list;
        written = ap (λ (l : List ℕ). l ++ zeros (length b - live_length list)) (sym (records_closed 0 (live_ones list)));
        good = good_closed 0 [] list 0 [] (λ w. refl) k.good;
      }

  pub end_tidied : end_of 0 (tidied list) ≡ live_length list
  end_tidied = omega (arith, end_length 0 (tidied list), ap length (records_closed 0 (live_ones list)))

  -- tidying keeps the live length
  pub live_tidied : live_length (tidied list) ≡ live_length list
  live_tidied =
      ap (λ (l : List Entry). length (records l)) (all_live (tidied list) (all_closed 0 (live_ones list) (live_all list)))
      ∙ ap length (records_closed 0 (live_ones list))

  pub tidied_is : bytes_tidied b ≡ records_tidied list (length b)
  tidied_is = ap (λ (x : Entries). entries_tidied x b) (complete b list k)

  pub tidied_entries : entries (bytes_tidied b) ≡ book (tidied list) (live_length list)
  tidied_entries = ap entries tidied_is ∙ complete (records_tidied list (length b)) (tidied list) tidied_book ∙ ap (book (tidied list)) end_tidied

  pub bytes_tidied_book : IsBook (bytes_tidied b) (tidied list)
  bytes_tidied_book = subst (λ (a : List ℕ). IsBook a (tidied list)) (sym tidied_is) tidied_book

  -- a book without removed records keeps every byte
  pub tidied_full : AllLive list → bytes_tidied b ≡ b
  tidied_full a =
      let pad : length b - length (records list) ≡ k.pad =
      omega (arith, ap length k.written, length-append (records list) (zeros k.pad), length-replicate {A = ℕ} k.pad 0) in
      tidied_is ∙ ap (λ (l : List Entry). records l ++ zeros (length b - length (records l))) (all_live list a)
      ∙ ap (λ (n : ℕ). records list ++ zeros n) pad ∙ sym k.written

-- what is tidied has no removed records, so it is tidy already
pub tidied_again : (b : List ℕ) (list : List Entry) → IsBook b list → bytes_tidied (bytes_tidied b) ≡ bytes_tidied b
tidied_again b list k =
    ap bytes_tidied (tidied_is b list k)
    ∙ tidied_full (records_tidied list (length b)) (tidied list) (tidied_book b list k) (all_closed 0 (live_ones list) (live_all list))
    ∙ sym (tidied_is b list k)

-- "Tidying twice is the same as tidying once", for every buffer
pub tidied_twice : (b : List ℕ) → Bytes b → bytes_tidied (bytes_tidied b) ≡ bytes_tidied b
tidied_twice b small = go (entries b) refl (sound b small)
  where
    go : (x : Entries) → entries b ≡ x → Sound b x → bytes_tidied (bytes_tidied b) ≡ bytes_tidied b
    go (book list free) e s = tidied_again b list s.0
    go (wrong place) e s = ap bytes_tidied (ap (λ (x : Entries). entries_tidied x b) e)

-- What holds of the entries before and after tidying, where it holds of a book's and of what is no book, holds of every buffer.
pub on_tidied : (b : List ℕ) → Bytes b → (P : Entries → Entries → Type 0)
    → ((list : List Entry) (free : ℕ) → IsBook b list → P (book list free) (book (tidied list) (live_length list))) → ((place : ℕ) → P (wrong place) (wrong place))
    → P (entries b) (entries (bytes_tidied b))
on_tidied b small P f g = go (entries b) refl (sound b small)
  where
    both : (x y : Entries) → entries b ≡ x → entries (bytes_tidied b) ≡ y → P x y → P (entries b) (entries (bytes_tidied b))
    both x y e d p = subst (λ (z : Entries). P z (entries (bytes_tidied b))) (sym e) (subst (P x) (sym d) p)

    go : (x : Entries) → entries b ≡ x → Sound b x → P (entries b) (entries (bytes_tidied b))
    go (book list free) e s = both _ _ e (tidied_entries b list s.0) (f list free s.0)
    go (wrong place) e s = both _ _ e (ap entries (ap (λ (x : Entries). entries_tidied x b) e) ∙ e) (g place)
