-- Live records moved down over those that are removed: what is passed stands at the front without gaps, and what is ahead is untouched.
-- Assumes nothing.
use mathlib.Core.Path.{◌≡◌, refl, sym, ap, ◌∙◌}
use mathlib.Core.Bool.{true, false}
use mathlib.Core.List.{List, [], ◌∷◌, ◌++◌, append_assoc, append-nil}
use Prim.Native.Nat.{ℕ, ◌+◌, ◌-◌, ◌≤◌, ◌<◌}
use native.Mathlib.Nat.{add-zero}
use native.Mathlib.Omega.{arith}
use lib.Dec.{eqb}
use lib.ListN.{length, get_or, take, drop, length-append, length-drop}
use lib.Seq.{sets, sets-eq, length-sets, get_or-drop, drop-drop, length-take-le, take_at}
use Rattle.memory.proofs.Stores.{sets_behind}
use Rattle.letters.specs.Choice.{pick}
use Rattle.formula.specs.Lists.{filtered}
use Rattle.entries.specs.Limits.{head_size}
use Rattle.entries.specs.Entries.{Entry}
use Rattle.entries.specs.Book.{zeros, record_bytes, records, Opened}
use Rattle.entries.specs.Map.{live_ones}
use Rattle.entries.specs.Tidy.{live_length}
use Rattle.entries.proofs.Records.{length_record, records_append}
use Rattle.entries.proofs.Walk.{Turn}
use Rattle.tidying.specs.Tidy.{Closed}
use Rattle.entries.proofs.Passed.{Passed, passed_start, passed_turn, passed_less, passed_all, turn_size, ones_next, passed_next}

pub record Closing (b : List ℕ) (free : ℕ) (a : List ℕ) (at kept : ℕ) : Type 0 where
  pub seen : List Entry
  pub passed : Passed b seen at free kept
  pub front : take kept a ≡ records (live_ones seen)
  pub ahead : drop at a ≡ drop at b
  pub long : length a ≡ length b

pub closing_start : (b : List ℕ) (free : ℕ) → Opened b free → Closing b free b 0 0
unfolding filtered
closing_start b free o = record { seen = []; passed = passed_start b free o; front = refl; ahead = refl; long = refl }

module _ (b : List ℕ) (free : ℕ) (a : List ℕ) (at kept : ℕ) (c : Closing b free a at kept) where
  -- the bytes ahead are read as they were
  pub closing_read : (k : ℕ) → get_or a (at + k) 0 ≡ get_or b (at + k) 0
  closing_read k = sym (get_or-drop at a k 0) ∙ ap (λ (l : List ℕ). get_or l k 0) c.ahead ∙ get_or-drop at b k 0

  pub closing_first : get_or a at 0 ≡ get_or b at 0
  closing_first = ap (λ (k : ℕ). get_or a k 0) (sym (add-zero at)) ∙ closing_read 0 ∙ ap (λ (k : ℕ). get_or b k 0) (add-zero at)

  pub closing_turn : at < free → Turn b at free c.passed.list c.seen c.passed.rest
  closing_turn h = passed_turn b c.seen at free kept c.passed h

  pub closing_less : kept ≤ at
  closing_less = passed_less b c.seen at free kept c.passed

  module _ (t : Turn b at free c.passed.list c.seen c.passed.rest) where
    -- the record at the place
    part_is : take (head_size + get_or b (at + 2) 0) (drop at a) ≡ record_bytes t.entry
    part_is =
        let w = c.passed.walk in
        let left : List ℕ = records t.behind ++ zeros w.pad in
        ap (take (head_size + get_or b (at + 2) 0))
        (c.ahead ∙ w.bytes ∙ ap (λ (l : List Entry). records l ++ zeros w.pad) t.first ∙ append_assoc (record_bytes t.entry) (records t.behind) (zeros w.pad))
        ∙ take_at (record_bytes t.entry) left (head_size + get_or b (at + 2) 0) (length_record t.entry ∙ turn_size b c.seen at free kept c.passed t)

    ahead_next : (next : ℕ) → next ≡ at + (head_size + get_or b (at + 2) 0) → drop next a ≡ drop next b
    ahead_next next e =
        ap (λ (k : ℕ). drop k a) e ∙ sym (drop-drop (head_size + get_or b (at + 2) 0) at a) ∙ ap (drop (head_size + get_or b (at + 2) 0)) c.ahead
        ∙ drop-drop (head_size + get_or b (at + 2) 0) at b ∙ ap (λ (k : ℕ). drop k b) (sym e)

    -- a removed record is passed
    pub closing_removed : eqb (get_or b (at + 1) 0) 0x57 ≡ false → (next same : ℕ) → next ≡ at + (head_size + get_or b (at + 2) 0) → same ≡ kept
        → (left : List ℕ) → left ≡ a → Closing b free left next same
    unfolding pick
    closing_removed e next same there counted left is =
        record {
          seen = c.seen ++ (t.entry ∷ []);
          passed = passed_next b c.seen at free kept c.passed t false e next same there (counted ∙ omega arith);
          front =
              (λ i. take (counted i) (is i)) ∙ c.front
              ∙ ap records (sym (ones_next b c.seen at free kept c.passed t false e ∙ append-nil (live_ones c.seen)));
          ahead = ap (drop next) is ∙ ahead_next next there;
          long = ap length is ∙ c.long;
        }

    -- a live record is moved behind those that are kept
    pub closing_live : eqb (get_or b (at + 1) 0) 0x57 ≡ true → (next more : ℕ) → next ≡ at + (head_size + get_or b (at + 2) 0) → more ≡ kept + (head_size + get_or b (at + 2) 0)
        → (moved : List ℕ) → moved ≡ sets a kept (take (head_size + get_or b (at + 2) 0) (drop at a)) → Closing b free moved next more
    unfolding pick
    closing_live e next more there counted moved is =
        let size_is : ℕ = head_size + get_or b (at + 2) 0 in
        let part : List ℕ = take size_is (drop at a) in
        let room : at + size_is ≤ length a = omega (arith, t.stands.frame.room, c.long) in
        let part_long : length part ≡ size_is = length-take-le size_is (drop at a) (omega (arith, length-drop at a)) in
        let fits : kept + length part ≤ length a = omega (arith, closing_less) in
        let front_long : length (take kept a ++ part) ≡ more =
        length-append (take kept a) part ∙ omega (arith, length-take-le kept a (omega arith), part_long, counted) in
        let parts : moved ≡ (take kept a ++ part) ++ drop (kept + length part) a = is ∙ sets-eq part a kept fits in
        let behind : drop more moved ≡ drop more a =
        ap (drop more) is ∙ ap (λ (k : ℕ). drop k (sets a kept part)) (counted ∙ ap (λ (k : ℕ). kept + k) (sym part_long)) ∙ sets_behind part a kept fits
        ∙ ap (λ (k : ℕ). drop k a) (ap (λ (k : ℕ). kept + k) part_long ∙ sym counted) in
        let later : next ≡ more + (at - kept) = omega (arith, closing_less) in
        record {
          seen = c.seen ++ (t.entry ∷ []);
          passed = passed_next b c.seen at free kept c.passed t true e next more there counted;
          front =
              ap (take more) parts ∙ take_at (take kept a ++ part) (drop (kept + length part) a) more front_long
              ∙ (λ i. c.front i ++ part_is i) ∙ ap (λ (l : List ℕ). records (live_ones c.seen) ++ l) (sym (append-nil (record_bytes t.entry)))
              ∙ sym (ap records (ones_next b c.seen at free kept c.passed t true e) ∙ records_append (live_ones c.seen) (t.entry ∷ []));
          ahead =
              ap (λ (k : ℕ). drop k moved) later ∙ sym (drop-drop (at - kept) more moved) ∙ ap (drop (at - kept)) behind ∙ drop-drop (at - kept) more a
              ∙ ap (λ (k : ℕ). drop k a) (sym later) ∙ ahead_next next there;
          long = ap length is ∙ length-sets a kept part ∙ c.long;
        }

-- at the end the gaps are closed
pub closing_end : (b : List ℕ) (free : ℕ) (a : List ℕ) (at kept : ℕ) → Closing b free a at kept → free ≤ at → at ≤ free → Closed b a free kept
closing_end b free a at kept c h g =
    let end : at ≡ free = omega arith in
    record {
      counted = λ list k. c.passed.counted ∙ ap live_length (sym (passed_all b c.seen at free kept c.passed h list k));
      moved = λ list k. c.front ∙ ap (λ (l : List Entry). records (live_ones l)) (sym (passed_all b c.seen at free kept c.passed h list k));
      within = omega (arith, closing_less b free a at kept c);
      rest = ap (λ (k : ℕ). drop k a) (sym end) ∙ c.ahead ∙ ap (λ (k : ℕ). drop k b) end;
      long = c.long;
    }
