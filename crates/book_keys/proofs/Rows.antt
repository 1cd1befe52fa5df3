-- The row of a readable word is the only one that gives it, with at most as many syllables as the word has values; and what its filed key tells.
-- Assumes nothing.
use mathlib.Core.Path.{◌≡◌, refl, sym, ap, subst, ◌∙◌}
use mathlib.Core.List.{List, [], ◌∷◌}
use Prim.Native.Nat.{ℕ, suc, ◌+◌, ◌*◌, ◌≤◌}
use native.Mathlib.Nat.{add-zero}
use native.Mathlib.Omega.{arith}
use lib.ListN.{length, get_or, take, drop}
use lib.Seq.{get_or-take, get_or-drop, take-nil, drop-drop}
use Rattle.formula.specs.Limits.{weight_count}
use Rattle.formula.specs.Syllable.{no_final}
use Rattle.formula.specs.Row.{Row, Gives}
use Rattle.recogniser.specs.Answer.{Readable}
use Rattle.recogniser.proofs.Counted.{row_bound}
use Rattle.weighing.specs.Keys.{key_of}
use Rattle.weighing.proofs.Laws.{key_used}
use Rattle.entries.specs.Limits.{book_limit, head_size}
use Rattle.recogniser.proofs.Decided.{decide_row}
use Rattle.entries.specs.Entries.{word_at}
use Rattle.entries.proofs.Records.{Framed, framed_true, length_word}
use Rattle.book_keys.specs.Filing.{decided_row, row_of, filed_key, key_room, weights_at, HasKey}

pub row_is : (word : List ℕ) → Readable word → (row : Row) → Gives row word → row_of word ≡ row
unfolding row_of
row_is word r row g = go (decide_row word)
  where
    go : (d : Dec ((row : Row) × Gives row word)) → decided_row d ≡ row
    go (yes s) = r.only s.0 s.1 ∙ sym (r.only row g)
    go (no n) = absurd (n (row, g))

pub row_gives : (word : List ℕ) → Readable word → Gives (row_of word) word
row_gives word r = subst (λ (row : Row). Gives row word) (sym (row_is word r r.row r.gives)) r.gives

pub row_fits : (word : List ℕ) → Readable word → length (row_of word) ≤ length word
row_fits word r = omega (arith, row_bound no_final (row_of word), ap length (row_gives word r).joined)

pub filed_key_length : (row : Row) → length (filed_key row) ≡ 1 + weight_count * length row
unfolding filed_key
filed_key_length row = omega (arith, key_used row)

-- the key of the record at a place ends before that of the record behind it, within the room for keys
pub key_within : (b : List ℕ) (at : ℕ) → length b ≤ book_limit → Framed b at → Readable (word_at b at)
    → (weight_count * at + length (filed_key (row_of (word_at b at))) ≤ weight_count * (at + head_size + get_or b (at + 2) 0))
    × (weight_count * at + length (filed_key (row_of (word_at b at))) ≤ key_room)
key_within b at s f r =
    let k = filed_key_length (row_of (word_at b at)) in
    let n = length_word b at f.room in
    let m = row_fits (word_at b at) r in
    let o = f.room in
    (omega arith, omega arith)

-- behind the first of a part
part_behind : (l : List ℕ) (n : ℕ) → drop 1 (take (suc n) l) ≡ take n (drop 1 l)
part_behind [] n = sym (take-nil n)
part_behind (x ∷ l) n = refl

-- what a filed key tells: the number of syllables, and behind it the weights
module _ (b keys : List ℕ) (at : ℕ) (h : HasKey b keys at) where
  pub key_count : get_or keys (weight_count * at) 0 ≡ length (row_of (word_at b at))
  unfolding filed_key
  key_count =
      let row : Row = row_of (word_at b at) in
      ap (λ (k : ℕ). get_or keys k 0) (sym (add-zero (weight_count * at))) ∙ sym (get_or-drop (weight_count * at) keys 0 0)
      ∙ sym (get_or-take (suc (length (key_of row))) (drop (weight_count * at) keys) 0 0 (omega arith)) ∙ ap (λ (l : List ℕ). get_or l 0 0) h.key_there

  pub key_weights : take (weight_count * length (row_of (word_at b at))) (drop (weight_count * at + 1) keys) ≡ key_of (row_of (word_at b at))
  unfolding filed_key
  key_weights =
      let row : Row = row_of (word_at b at) in
      ap (λ (l : List ℕ). take (weight_count * length row) l) (sym (drop-drop 1 (weight_count * at) keys))
      ∙ ap (λ (n : ℕ). take n (drop 1 (drop (weight_count * at) keys))) (sym (key_used row))
      ∙ sym (part_behind (drop (weight_count * at) keys) (length (key_of row))) ∙ ap (drop 1) h.key_there

  pub key_ends : length b ≤ book_limit → weight_count * at + (1 + weight_count * length (row_of (word_at b at))) ≤ key_room
  key_ends s =
      omega (arith, (key_within b at s (framed_true b at h.framed) h.readable).1, filed_key_length (row_of (word_at b at)))

  -- the weights that stand behind the number are those of the record's word
  pub keyed_weights : weights_at keys at ≡ key_of (row_of (word_at b at))
  keyed_weights = ap (λ (n : ℕ). take (weight_count * n) (drop (weight_count * at + 1) keys)) key_count ∙ key_weights
