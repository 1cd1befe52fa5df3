-- A pass over the records of a book that adds up the bytes of the live ones. Assumes nothing.
use mathlib.Core.Path.{◌≡◌, refl, sym, ap, subst, ◌∙◌}
use mathlib.Core.Bool.{Bool, true, false, ◌&&◌}
use mathlib.Core.List.{List, [], ◌∷◌, ◌++◌}
use Prim.Native.Nat.{ℕ, ◌+◌, ◌≤◌, ◌<◌}
use native.Mathlib.Omega.{arith}
use borrow.Author.Tests.{eq-eqb}
use lib.Dec.{eqb}
use lib.ListN.{length, get_or, length-append}
use Rattle.letters.specs.Choice.{pick}
use Rattle.formula.specs.Lists.{filtered}
use Rattle.formula.proofs.Filtered.{filtered_append}
use Rattle.entries.specs.Limits.{head_size}
use Rattle.entries.specs.Entries.{Entry}
use Rattle.entries.specs.Book.{record_bytes, records, size, end_of, IsBook, Opened}
use Rattle.entries.specs.Map.{live_ones}
use Rattle.entries.specs.Tidy.{live_length}
use Rattle.entries.proofs.Records.{Framed, length_word, length_record, records_append, end_append}
use Rattle.entries.proofs.Agree.{only}
use Rattle.entries.proofs.Walk.{Walk, walk_start, Turn, turn, walk_seen}
use Rattle.entries.proofs.Tidied.{live_before_lem}

-- the entries passed end at the place, and the bytes of their live records are counted
pub record Passed (b : List ℕ) (seen : List Entry) (at free live : ℕ) : Type 0 where
  pub list : List Entry
  pub rest : List Entry
  pub walk : Walk b at free list seen rest
  pub ends : end_of 0 seen ≡ at
  pub counted : live ≡ live_length seen

pub passed_start : (b : List ℕ) (free : ℕ) → Opened b free → Passed b [] 0 free 0
unfolding filtered
passed_start b free o = record { list = o.list; rest = o.list; walk = walk_start b free o; ends = refl; counted = refl }

-- the mark of a record says whether it is live
pub mark_live : (b : List ℕ) (at : ℕ) → Framed b at → eqb (get_or b at 0) 0x4D && eqb (get_or b (at + 1) 0) 0x57 ≡ eqb (get_or b (at + 1) 0) 0x57
mark_live b at f = ap (λ (t : Bool). t && eqb (get_or b (at + 1) 0) 0x57) (eq-eqb (get_or b at 0) 0x4D f.first)

module _ (b : List ℕ) (seen : List Entry) (at free live : ℕ) (p : Passed b seen at free live) where
  pub passed_turn : at < free → Turn b at free p.list seen p.rest
  passed_turn h = turn b at free p.list seen p.rest p.walk h

  pub passed_less : live ≤ at
  passed_less = omega (arith, p.counted, live_before_lem seen, p.ends)

  -- at the end all records are passed
  pub passed_all : free ≤ at → (list : List Entry) → IsBook b list → list ≡ seen
  passed_all h list k = only b list p.list k p.walk.is_book ∙ walk_seen b at free p.list seen p.rest p.walk h

  module _ (t : Turn b at free p.list seen p.rest) where
    pub turn_size : size t.entry ≡ head_size + get_or b (at + 2) 0
    turn_size = omega (arith, ap (λ (e : Entry). length e.word) t.stands.is, length_word b at t.stands.frame.room)

    turn_live : (live_is : Bool) → eqb (get_or b (at + 1) 0) 0x57 ≡ live_is → t.entry.live ≡ live_is
    turn_live live_is e = ap (λ (x : Entry). x.live) (sym t.stands.is) ∙ e

    -- the live entries with the one at the place
    pub ones_next : (live_is : Bool) → eqb (get_or b (at + 1) 0) 0x57 ≡ live_is
        → live_ones (seen ++ (t.entry ∷ [])) ≡ live_ones seen ++ pick live_is (t.entry ∷ []) []
    unfolding filtered
    ones_next live_is e =
        filtered_append _ seen (t.entry ∷ []) ∙ ap (λ (u : Bool). live_ones seen ++ pick u (t.entry ∷ []) []) (turn_live live_is e)

    abbrev pub size_live : Bool → ℕ
    size_live true = head_size + get_or b (at + 2) 0
    size_live false = 0

    length_next : (live_is : Bool) → length (records (pick live_is (t.entry ∷ []) [])) ≡ size_live live_is
    unfolding pick
    length_next true = omega (arith, length-append (record_bytes t.entry) [], length_record t.entry, turn_size)
    length_next false = refl

    -- the record at the place is passed
    pub passed_next : (live_is : Bool) → eqb (get_or b (at + 1) 0) 0x57 ≡ live_is → (next more : ℕ) → next ≡ at + (head_size + get_or b (at + 2) 0)
        → more ≡ live + size_live live_is → Passed b (seen ++ (t.entry ∷ [])) next free more
    passed_next live_is e next more there counted =
        let place : at + head_size + get_or b (at + 2) 0 ≡ next = omega arith in
        record {
          list = p.list;
          rest = t.behind;
          walk = subst (λ (q : ℕ). Walk b q free p.list (seen ++ (t.entry ∷ [])) t.behind) place t.stands.next;
          ends = omega (arith, end_append 0 seen t.entry, p.ends, turn_size);
          counted =
              counted
              ∙ omega (arith, p.counted, ap (λ (l : List Entry). length (records l)) (ones_next live_is e), ap length (records_append (live_ones seen) (pick live_is (t.entry ∷ []) [])), length-append (records (live_ones seen)) (records (pick live_is (t.entry ∷ []) [])), length_next live_is);
        }
