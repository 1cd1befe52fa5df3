-- The pass over a line: the values read so far stand at the front of the array, and the line decodes to them and then to what is left of it.
-- Assumes nothing.
use mathlib.Core.Path.{◌≡◌, refl, sym, ap, ◌∙◌}
use mathlib.Core.List.{List, [], ◌∷◌, ◌++◌, append_assoc, append-nil}
use Prim.Native.Nat.{ℕ, suc, ◌+◌, ◌-◌, ◌*◌, ◌/◌, ◌≤◌, ◌<◌, min}
use native.Mathlib.Omega.{arith}
use lib.ListN.{length, set, replicate, length-append}
use lib.Seq.{set_at, append_snoc}
use borrow.Author.Tests.{le-leb}
use Rattle.letters.specs.Choice.{pick}
use Rattle.formula.specs.Limits.{limit, line_limit}
use Rattle.formula.specs.declared.Word.{Word}
use Rattle.refusals.specs.declared.Refusal.{Refusal}
use Rattle.refusals.specs.declared.Refusal.TheVariants.{FaultyLine}
use Rattle.std.specs.declared.option.Option.TheVariants.{None, Some}
use Rattle.std.specs.declared.result.Result.{Result}
use Rattle.std.specs.declared.result.Result.TheVariants.{Ok, Err}
use Rattle.lines.specs.Line.{Decoding, values, faulty, after, decode_from}
use Rattle.lines.specs.Three.{value_in}
use Rattle.lines.proofs.Decided.{answer_of, decoded_of}
use Rattle.lines.proofs.Threes.{Cut, Turn, turn}

-- in a line: the values so far, in the array and as a list, and that decoding goes on with the rest
pub record Passed (line array : List ℕ) (count : ℕ) (rest : List ℕ) : Type 0 where
  pub held : List ℕ
  pub counted : length held ≡ count
  pub shown : array ≡ held ++ replicate (limit - count) 0
  pub left : length line ≡ 3 * count + length rest
  pub decoded : decode_from 0 line ≡ after held (decode_from (3 * count) rest)

-- a turn's bytes, at most three at a time, are cut from what is left
pub cut : {left bytes rest : List ℕ} {size : ℕ} → (left ≡ bytes ++ rest) × (length bytes ≡ min size (length left)) × (0 < length left) → size ≡ 3
    → Cut left bytes rest
cut steps e = record { parts = steps.0; size = rw e at steps.1; more = steps.2 }

-- no values before
after_none : (d : Decoding) → after [] d ≡ d
unfolding after
after_none (values vs) = refl
after_none (faulty p) = refl

-- values before values
after_after : (vs ws : List ℕ) (d : Decoding) → after vs (after ws d) ≡ after (vs ++ ws) d
unfolding after
after_after vs ws (values us) = ap values (sym (append_assoc vs ws us))
after_after vs ws (faulty p) = refl

-- at the line's start
pub passed_none : (line : List ℕ) → Passed line (replicate limit 0) 0 line
passed_none line = record { held = []; counted = refl; shown = refl; left = omega arith; decoded = sym (after_none (decode_from 0 line)) }

-- one more value, written behind those that the array shows
shown_more : (held : List ℕ) (count v : ℕ) → length held ≡ count → count < limit
    → set (held ++ replicate (limit - count) 0) count v ≡ (held ++ (v ∷ [])) ++ replicate (limit - (count + 1)) 0
shown_more held count v counted room =
    let room_left : limit - count ≡ suc (limit - (count + 1)) = omega arith in
    rw room_left (set_at held 0 (replicate (limit - (count + 1)) 0) v count counted ∙ sym (append_snoc held v (replicate (limit - (count + 1)) 0)))

module _ {line array left : List ℕ} {count : ℕ} (p : Passed line array count left) (small : length line ≤ line_limit) where
  module _ {bytes rest : List ℕ} (cut : Cut left bytes rest) where
    turned : Turn (3 * count) left bytes rest (value_in bytes)
    turned = turn (3 * count) cut

    -- there is room for one more value
    pub passed_room : count < limit
    passed_room = let more = cut.more in let l = p.left in omega arith

    -- behind one more three
    pub passed_more : (v : ℕ) → value_in bytes ≡ Some v → Passed line (set array count v) (count + 1) rest
    passed_more v e =
        let t = rw e at turned in
        let next : 3 * count + 3 ≡ 3 * (count + 1) = omega arith in
        record {
          held = p.held ++ (v ∷ []);
          counted = length-append p.held (v ∷ []) ∙ ap (λ (n : ℕ). n + 1) p.counted;
          shown = rw p.shown (shown_more p.held count v p.counted passed_room);
          left = let l = p.left in let k = t.0 in omega arith;
          decoded = p.decoded ∙ ap (after p.held) t.1 ∙ after_after p.held (v ∷ []) (decode_from (3 * count + 3) rest)
              ∙ ap (λ (n : ℕ). after (p.held ++ (v ∷ [])) (decode_from n rest)) next;
        }

    -- a faulty three at a place that was reached is the first
    pub passed_faulty : value_in bytes ≡ None → decoded_of line ≡ Err (FaultyLine (3 * count))
    unfolding decoded_of pick after
    passed_faulty e =
        let t = rw e at turned in
        rw (le-leb (length line) line_limit small) (ap answer_of (p.decoded ∙ ap (after p.held) t))

  -- at the line's end the values so far are the word
  pub passed_all : length left ≡ 0 → ◌≡◌ {A = Result Word Refusal} (Ok (record { values = array; count = length line / 3 })) (decoded_of line)
  unfolding decoded_of pick after
  passed_all none = go left none p
    where
      go : (rest : List ℕ) → length rest ≡ 0 → Passed line array count rest
          → ◌≡◌ {A = Result Word Refusal} (Ok (record { values = array; count = length line / 3 })) (decoded_of line)
      go [] none q =
          let whole : decode_from 0 line ≡ values q.held = q.decoded ∙ ap values (append-nil q.held) in
          let counted : length line / 3 ≡ count = let l = q.left in omega arith in
          rw (le-leb (length line) line_limit small, whole, q.shown, counted, ← q.counted)
      go (byte ∷ rest) none q = absurd (omega arith)
