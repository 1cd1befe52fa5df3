-- The live records of a book: their starts lie apart by their records, so that each key stands where no later one is put.
-- Assumes nothing.
use mathlib.Core.Path.{◌≡◌, refl, sym, ap, subst, ◌∙◌}
use mathlib.Core.Bool.{Bool, true, false}
use mathlib.Core.List.{List, [], ◌∷◌, ◌++◌, map}
use Prim.Native.Nat.{ℕ, zero, suc, ◌+◌, ◌*◌, ◌≤◌, ◌<◌}
use native.Mathlib.Nat.{le_of_suc-le-suc}
use native.Mathlib.Omega.{arith}
use lib.Dec.{T}
use lib.ListN.{length, get_or, take, drop}
use lib.Seq.{sets, length-sets, take-take}
use Rattle.formula.specs.Limits.{weight_count}
use Rattle.memory.proofs.Stores.{sets_before, sets_there}
use Rattle.letters.specs.Choice.{pick}
use Rattle.formula.specs.Lists.{filtered}
use Rattle.recogniser.specs.Answer.{Readable}
use Rattle.entries.specs.Limits.{book_limit, head_size}
use Rattle.entries.specs.Entries.{Entry, word_at, entry_at, is_framed}
use Rattle.entries.specs.Book.{size, end_of, GoodAfter, IsBook}
use Rattle.entries.specs.Map.{counted, live_count, live_ones}
use Rattle.entries.proofs.Records.{framed_true, framed_is}
use Rattle.entries.proofs.Walk.{Walk, walk_start, Here, here, free_within}
use Rattle.book_keys.specs.Filing.{row_of, filed_key, key_room, most_live, HasKey, AllKeyed, start_of, with_keys}
use Rattle.book_keys.proofs.Rows.{key_within}

abbrev pub live_starts : List Entry → List ℕ
live_starts list = map start_of (live_ones list)

-- each live record takes at least eight bytes
live_ends : (at : ℕ) (seen list : List Entry) → GoodAfter at seen list → at + 8 * live_count list ≤ end_of at list
live_ends at seen [] g = omega arith
live_ends at seen (x ∷ list) g = go x.live (live_ends (at + size x) (seen ++ (x ∷ [])) list g.3)
  where
    go : (t : Bool) → at + size x + 8 * live_count list ≤ end_of (at + size x) list
        → at + 8 * counted t (live_count list) ≤ end_of (at + size x) list
    go true h = omega (arith, g.1.some)
    go false h = omega arith

-- so a book has no more of them than an eighth of its limit
pub live_few : (b : List ℕ) (list : List Entry) → IsBook b list → live_count list ≤ most_live
live_few b list k =
    omega (arith, live_ends 0 [] list k.good, free_within b (end_of 0 list) (record { list = list; is_book = k; end = refl }), k.short)

-- a walk over all of a book
whole : (b : List ℕ) (list : List Entry) → IsBook b list → Walk b 0 (end_of 0 list) list [] list
whole b list k = walk_start b (end_of 0 list) (record { list = list; is_book = k; end = refl })

-- the word of the entry at a place of a walk is readable
pub here_readable : (b : List ℕ) (at free : ℕ) (list seen : List Entry) (x : Entry) (rest : List Entry) → Here b at free list seen x rest
    → Readable (word_at b at)
here_readable b at free list seen x rest h = subst (λ (e : Entry). Readable e.word) (sym h.is) h.good.readable

entries_ahead : (b : List ℕ) (at free : ℕ) (list seen rest : List Entry) → Walk b at free list seen rest
    → map (entry_at b) (live_starts rest) ≡ live_ones rest
unfolding filtered pick
entries_ahead b at free list seen [] w = refl
entries_ahead b at free list seen (x ∷ rest) w =
    let h : Here b at free list seen x rest = here b at free list seen x rest w in
    go x.live (ap (λ (e : Entry). entry_at b e.start) (sym h.is) ∙ h.is)
    (entries_ahead b (at + head_size + get_or b (at + 2) 0) free list (seen ++ (x ∷ [])) rest h.next)
  where
    go : (t : Bool) → entry_at b x.start ≡ x → map (entry_at b) (live_starts rest) ≡ live_ones rest
        → map (entry_at b) (map start_of (pick t (x ∷ live_ones rest) (live_ones rest))) ≡ pick t (x ∷ live_ones rest) (live_ones rest)
    go true e h = λ i. e i ∷ h i
    go false e h = h

-- the buffer has each live entry of a book at its start
pub entries_back : (b : List ℕ) (list : List Entry) → IsBook b list → map (entry_at b) (map start_of (live_ones list)) ≡ live_ones list
entries_back b list k = entries_ahead b 0 (end_of 0 list) list [] list (whole b list k)

-- records with readable words stand at these starts, from a place on and each behind the one before
abbrev pub Spaced : List ℕ → ℕ → List ℕ → Type 0
Spaced b at [] = Unit {0}
Spaced b at (s ∷ starts) = (at ≤ s) × T (is_framed b s) × Readable (word_at b s) × Spaced b (s + head_size + get_or b (s + 2) 0) starts

spaced_before : (b : List ℕ) (at from : ℕ) (starts : List ℕ) → from ≤ at → Spaced b at starts → Spaced b from starts
spaced_before b at from [] h s = tt
spaced_before b at from (x ∷ starts) h s = let l = s.0 in (omega arith, s.1, s.2, s.3)

spaced_ahead : (b : List ℕ) (at free : ℕ) (list seen rest : List Entry) → Walk b at free list seen rest → Spaced b at (live_starts rest)
unfolding filtered pick
spaced_ahead b at free list seen [] w = tt
spaced_ahead b at free list seen (x ∷ rest) w =
    let h : Here b at free list seen x rest = here b at free list seen x rest w in
    go x.live (ap start_of h.is) (framed_is b at h.frame) (here_readable b at free list seen x rest h)
    (spaced_ahead b (at + head_size + get_or b (at + 2) 0) free list (seen ++ (x ∷ [])) rest h.next)
  where
    go : (t : Bool) → at ≡ x.start → T (is_framed b at) → Readable (word_at b at) → Spaced b (at + head_size + get_or b (at + 2) 0) (live_starts rest)
        → Spaced b at (map start_of (pick t (x ∷ live_ones rest) (live_ones rest)))
    go true e f r s =
        subst (λ (p : ℕ). (at ≤ p) × T (is_framed b p) × Readable (word_at b p) × Spaced b (p + head_size + get_or b (p + 2) 0) (live_starts rest)) e
        (omega arith, f, r, s)
    go false e f r s = spaced_before b (at + head_size + get_or b (at + 2) 0) at (live_starts rest) (omega arith) s

pub spaced_of_book : (b : List ℕ) (list : List Entry) → IsBook b list → Spaced b 0 (live_starts list)
spaced_of_book b list k = spaced_ahead b 0 (end_of 0 list) list [] list (whole b list k)

pub keys_length : (b keys starts : List ℕ) → length (with_keys b keys starts) ≡ length keys
unfolding with_keys
keys_length b keys [] = refl
keys_length b keys (s ∷ starts) =
    keys_length b (sets keys (weight_count * s) (filed_key (row_of (word_at b s)))) starts ∙ length-sets keys (weight_count * s) (filed_key (row_of (word_at b s)))

-- keys of records from a place on leave what stands before their room
keys_before : (b keys : List ℕ) (at q : ℕ) (starts : List ℕ) → q ≤ weight_count * at → Spaced b at starts → take q (with_keys b keys starts) ≡ take q keys
unfolding with_keys
keys_before b keys at q [] h s = refl
keys_before b keys at q (x ∷ starts) h s =
    let l = s.0 in
    keys_before b (sets keys (weight_count * x) (filed_key (row_of (word_at b x)))) (x + head_size + get_or b (x + 2) 0) q starts (omega arith) s.3
    ∙ sets_before (filed_key (row_of (word_at b x))) keys (weight_count * x) q (omega arith)

-- a part of the front
part_of_front : (l : List ℕ) (p n q : ℕ) → p + n ≤ q → take n (drop p (take q l)) ≡ take n (drop p l)
part_of_front l zero n q h = take-take n q l (omega arith)
part_of_front l (suc p) n zero h = let z : ⊥ = omega arith in absurd z
part_of_front [] (suc p) n (suc q) h = refl
part_of_front (x ∷ l) (suc p) n (suc q) h = part_of_front l p n q (omega arith)

-- a key that ends before a place stays when keys of records from there on are put
key_stays : (b keys : List ℕ) (at next : ℕ) (starts key : List ℕ) → weight_count * at + length key ≤ weight_count * next → Spaced b next starts
    → take (length key) (drop (weight_count * at) keys) ≡ key → take (length key) (drop (weight_count * at) (with_keys b keys starts)) ≡ key
key_stays b keys at next starts key h s e =
    sym (part_of_front (with_keys b keys starts) (weight_count * at) (length key) (weight_count * next) h)
    ∙ ap (λ (l : List ℕ). take (length key) (drop (weight_count * at) l)) (keys_before b keys next (weight_count * next) starts (omega arith) s)
    ∙ part_of_front keys (weight_count * at) (length key) (weight_count * next) h ∙ e

pub all_keyed : (b keys : List ℕ) (at : ℕ) (starts : List ℕ) → length b ≤ book_limit → length keys ≡ key_room → Spaced b at starts
    → AllKeyed b (with_keys b keys starts) starts
unfolding with_keys
all_keyed b keys at [] short room s = tt
all_keyed b keys at (x ∷ starts) short room s =
    let key : List ℕ = filed_key (row_of (word_at b x)) in
    let within = key_within b x short (framed_true b x s.1) s.2 in
    let next : ℕ = x + head_size + get_or b (x + 2) 0 in (
      record {
        framed = s.1;
        readable = s.2;
        key_there = key_stays b (sets keys (weight_count * x) key) x next starts key within.0 s.3 (sets_there key keys (weight_count * x) (omega (arith, within.1)));
      },
      all_keyed b (sets keys (weight_count * x) key) next starts short (length-sets keys (weight_count * x) key ∙ room) s.3,
    )

-- the key of the start at a place of the list
pub keyed_at : (b keys starts : List ℕ) (k : ℕ) → AllKeyed b keys starts → k < length starts → HasKey b keys (get_or starts k 0)
keyed_at b keys [] k a h = let z : ⊥ = omega arith in absurd z
keyed_at b keys (s ∷ starts) zero a h = a.0
keyed_at b keys (s ∷ starts) (suc k) a h = keyed_at b keys starts k a.1 (le_of_suc-le-suc h)
