-- A walk over the records of a book: the buffer from a place on is the records ahead and then zeros, and each turn reads the first of them.
-- Assumes nothing.
use mathlib.Core.Path.{◌≡◌, refl, sym, ap, subst, ◌∙◌}
use mathlib.Core.List.{List, [], ◌∷◌, ◌++◌, append_assoc, append-nil}
use Prim.Native.Nat.{ℕ, ◌+◌, ◌≤◌, ◌<◌}
use native.Mathlib.Omega.{arith}
use lib.ListN.{length, get_or, drop, length-append}
use lib.Seq.{append_snoc}
use Rattle.entries.specs.Limits.{head_size}
use Rattle.entries.specs.Entries.{Entry, entry_at}
use Rattle.entries.specs.Book.{zeros, record_bytes, records, size, end_of, GoodEntry, GoodAfter, IsBook, Opened}
use Rattle.entries.proofs.Records.{Framed, Read, end_length}
use Rattle.entries.proofs.Agree.{read_good}

-- at a place: the entries of the book are those that are passed and those ahead
pub record Walk (b : List ℕ) (at free : ℕ) (list seen rest : List Entry) : Type 0 where
  pub is_book : IsBook b list
  pub whole : list ≡ seen ++ rest
  pub pad : ℕ
  pub bytes : drop at b ≡ records rest ++ zeros pad
  pub good : GoodAfter at seen rest
  pub end : end_of at rest ≡ free

pub walk_start : (b : List ℕ) (free : ℕ) (o : Opened b free) → Walk b 0 free o.list [] o.list
walk_start b free o =
    record {
      is_book = o.is_book;
      whole = refl;
      pad = o.is_book.pad;
      bytes = o.is_book.written;
      good = o.is_book.good;
      end = sym o.end;
    }

-- the first entry ahead stands at the place, and the walk goes on behind it
pub record Here (b : List ℕ) (at free : ℕ) (list seen : List Entry) (entry : Entry) (behind : List Entry) : Type 0 where
  pub frame : Framed b at
  pub is : entry_at b at ≡ entry
  pub good : GoodEntry entry
  pub next : Walk b (at + head_size + get_or b (at + 2) 0) free list (seen ++ (entry ∷ [])) behind

pub here : (b : List ℕ) (at free : ℕ) (list seen : List Entry) (x : Entry) (rest : List Entry) → Walk b at free list seen (x ∷ rest)
    → Here b at free list seen x rest
here b at free list seen x rest w =
    let g = w.good in
    let left : List ℕ = records rest ++ zeros w.pad in
    let r : Read b at x left = read_good b at x left (w.bytes ∙ append_assoc (record_bytes x) (records rest) (zeros w.pad)) g.0 g.1 in
    let place : at + head_size + get_or b (at + 2) 0 ≡ at + size x = omega (arith, r.count) in
    record {
      frame = r.frame;
      is = r.entry;
      good = g.1;
      next =
          record {
            is_book = w.is_book;
            whole = w.whole ∙ sym (append_snoc seen x rest);
            pad = w.pad;
            bytes = r.left;
            good = subst (λ (p : ℕ). GoodAfter p (seen ++ (x ∷ [])) rest) (sym place) g.3;
            end = ap (λ (p : ℕ). end_of p rest) place ∙ w.end;
          };
    }

-- a turn before the free bytes: there is a first entry ahead
pub record Turn (b : List ℕ) (at free : ℕ) (list seen rest : List Entry) : Type 0 where
  pub entry : Entry
  pub behind : List Entry
  pub first : rest ≡ entry ∷ behind
  pub stands : Here b at free list seen entry behind

pub turn : (b : List ℕ) (at free : ℕ) (list seen rest : List Entry) → Walk b at free list seen rest → at < free → Turn b at free list seen rest
turn b at free list seen [] w h = let e = w.end in let z : ⊥ = omega arith in absurd z
turn b at free list seen (x ∷ rest) w h = record { entry = x; behind = rest; first = refl; stands = here b at free list seen x rest w }

-- at the end nothing is ahead
pub walk_end : (b : List ℕ) (at free : ℕ) (list seen rest : List Entry) → Walk b at free list seen rest → free ≤ at → rest ≡ []
walk_end b at free list seen [] w h = refl
walk_end b at free list seen (x ∷ rest) w h = let e = w.end in let z : ⊥ = omega (arith, end_length (at + size x) rest) in absurd z

-- and all is passed
pub walk_seen : (b : List ℕ) (at free : ℕ) (list seen rest : List Entry) → Walk b at free list seen rest → free ≤ at → list ≡ seen
walk_seen b at free list seen rest w h =
    w.whole ∙ ap (λ (l : List Entry). seen ++ l) (walk_end b at free list seen rest w h) ∙ append-nil seen

-- the free bytes begin within the buffer
pub free_within : (b : List ℕ) (free : ℕ) → Opened b free → free ≤ length b
free_within b free o =
    omega (arith, o.end, end_length 0 o.list, ap length o.is_book.written, length-append (records o.list) (zeros o.is_book.pad))
