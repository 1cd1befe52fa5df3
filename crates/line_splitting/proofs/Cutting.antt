-- Where the lines of bytes end: bytes behind bytes go on with the line that is open, and only 0A ends it.
-- Assumes nothing.
use mathlib.Core.Path.{◌≡◌, refl, ap, ◌∙◌}
use mathlib.Core.Bool.{Bool, true, false}
use mathlib.Core.List.{List, [], ◌∷◌, ◌++◌, append_assoc, append-nil}
use Prim.Native.Nat.{ℕ, ◌+◌, ◌≤◌, ◌<◌}
use native.Mathlib.Omega.{arith}
use native.Mathlib.Numerals.{add-one}
use lib.Dec.{eqb}
use lib.ListN.{length, take, get_or, length-take}
use lib.Seq.{slice, take-suc, drop-append-le, slice_empty}
use borrow.Author.Tests.{eq-eqb, ne_eqb}
use Rattle.letters.specs.Choice.{pick}
use Rattle.line_splitting.specs.Lines.{Cut, after_line, cut_from}

-- what is cut, and then what is cut of the bytes behind
abbrev pub joined : Cut → Cut → Cut
joined first second = record { ended = first.ended ++ second.ended; open_line = second.open_line }

pub cut_append : (line xs ys : List ℕ) → cut_from line (xs ++ ys) ≡ joined (cut_from line xs) (cut_from (cut_from line xs).open_line ys)
unfolding cut_from pick
cut_append line [] ys = refl
cut_append line (x ∷ xs) ys = go (eqb x 0x0A) (cut_append [] xs ys) (cut_append (line ++ (x ∷ [])) xs ys)
  where
    go : (ends : Bool) → cut_from [] (xs ++ ys) ≡ joined (cut_from [] xs) (cut_from (cut_from [] xs).open_line ys)
        → cut_from (line ++ (x ∷ [])) (xs ++ ys)
        ≡ joined (cut_from (line ++ (x ∷ [])) xs) (cut_from (cut_from (line ++ (x ∷ [])) xs).open_line ys)
        → pick ends (after_line line (cut_from [] (xs ++ ys))) (cut_from (line ++ (x ∷ [])) (xs ++ ys))
        ≡ joined (pick ends (after_line line (cut_from [] xs)) (cut_from (line ++ (x ∷ [])) xs))
        (cut_from (pick ends (after_line line (cut_from [] xs)) (cut_from (line ++ (x ∷ [])) xs)).open_line ys)
    go true first second = ap (after_line line) first
    go false first second = second

-- nothing ended yet
abbrev pub still : List ℕ → Cut
still line = record { ended = []; open_line = line }

-- bytes of which none ends a line
abbrev pub Plain : List ℕ → Type 0
Plain bytes = (line : List ℕ) → cut_from line bytes ≡ still (line ++ bytes)

pub cut_none : (line : List ℕ) → cut_from line [] ≡ still line
unfolding cut_from
cut_none line = refl

plain_none : Plain []
unfolding cut_from
plain_none line = rw append-nil refl

pub plain_start : (l : List ℕ) (from : ℕ) → Plain (slice from from l)
plain_start l from = rw slice_empty plain_none

cut_one : (line : List ℕ) (byte : ℕ) → (byte ≡ 0x0A → ⊥) → cut_from line (byte ∷ []) ≡ still (line ++ (byte ∷ []))
unfolding cut_from pick
cut_one line byte h = rw (ne_eqb byte 0x0A h) refl

cut_end : (line : List ℕ) (byte : ℕ) → byte ≡ 0x0A → cut_from line (byte ∷ []) ≡ record { ended = line ∷ []; open_line = [] }
unfolding cut_from pick
cut_end line byte h = rw (eq-eqb byte 0x0A h) refl

plain_more : (bytes : List ℕ) (byte : ℕ) → Plain bytes → (byte ≡ 0x0A → ⊥) → Plain (bytes ++ (byte ∷ []))
plain_more bytes byte plain h line = cut_append line bytes (byte ∷ []) ∙ rw (plain line, cut_one (line ++ bytes) byte h, append_assoc) refl

line_ends : (bytes : List ℕ) (byte : ℕ) → Plain bytes → byte ≡ 0x0A → (line : List ℕ)
    → cut_from line (bytes ++ (byte ∷ [])) ≡ record { ended = (line ++ bytes) ∷ []; open_line = [] }
line_ends bytes byte plain h line = cut_append line bytes (byte ∷ []) ∙ rw (plain line, cut_end (line ++ bytes) byte h) refl

-- a part of a list that ends one later
pub slice_more : (l : List ℕ) (from to : ℕ) → from ≤ to → to < length l → slice from (to + 1) l ≡ slice from to l ++ (get_or l to 0 ∷ [])
slice_more l from to h k =
    rw (add-one, take-suc l to 0 k) (drop-append-le from (take to l) (get_or l to 0 ∷ []) (rw length-take (omega arith)))

pub plain_further : (l : List ℕ) (from to : ℕ) → from ≤ to → to < length l → Plain (slice from to l) → (get_or l to 0 ≡ 0x0A → ⊥)
    → Plain (slice from (to + 1) l)
plain_further l from to h k plain other = rw (slice_more l from to h k) (plain_more (slice from to l) (get_or l to 0) plain other)

pub plain_ends : (l : List ℕ) (from to : ℕ) → from ≤ to → to < length l → Plain (slice from to l) → get_or l to 0 ≡ 0x0A → (line : List ℕ)
    → cut_from line (slice from (to + 1) l) ≡ record { ended = (line ++ slice from to l) ∷ []; open_line = [] }
plain_ends l from to h k plain there line = rw (slice_more l from to h k) (line_ends (slice from to l) (get_or l to 0) plain there line)
