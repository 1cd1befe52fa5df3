-- The pass that files the live records of a book: the starts of those that are passed are collected, and their keys are filed.
-- Assumes nothing.
use mathlib.Core.Path.{◌≡◌, refl, sym, ap, subst, ◌∙◌}
use mathlib.Core.Bool.{Bool, true, false}
use mathlib.Core.List.{List, [], ◌∷◌, ◌++◌, map, append-nil}
use Prim.Native.Nat.{ℕ, suc, ◌+◌, ◌*◌, ◌≤◌, ◌<◌}
use native.Mathlib.Omega.{arith}
use borrow.Author.Tests.{eq-eqb, ne_eqb}
use lib.Dec.{eqb}
use lib.ListN.{length, get_or, take, drop, set, length-map, length-append}
use lib.Seq.{sets, length-sets}
use Rattle.formula.specs.Limits.{weight_count}
use Rattle.memory.proofs.Stores.{sets_append, sets_there, sets_behind}
use Rattle.letters.specs.Choice.{pick}
use Rattle.formula.specs.Lists.{filtered}
use Rattle.recogniser.specs.Answer.{Readable}
use Rattle.entries.specs.Limits.{head_size}
use Rattle.entries.specs.Entries.{Entry, word_at}
use Rattle.entries.specs.Map.{counted, live_count, live_ones}
use Rattle.entries.specs.Book.{IsBook, Opened}
use Rattle.entries.proofs.Agree.{only}
use Rattle.entries.proofs.Records.{Framed}
use Rattle.entries.proofs.Walk.{Walk, walk_start, Turn, turn, walk_seen}
use Rattle.entries.proofs.Live.{live_count_lem, live_append}
use Rattle.book_keys.specs.Filing.{row_of, filed_key, key_room, AllKeyed, start_of, most_live, with_keys, FiledRight}
use Rattle.book_keys.proofs.Live.{live_starts, live_few, here_readable, Spaced, spaced_of_book, keys_length, all_keyed}

-- at a place: the live records among those that are passed are filed
pub record Collected (b : List ℕ) (free : ℕ) (keys_before starts_before_lem keys starts : List ℕ) (live at : ℕ) : Type 0 where
  pub list : List Entry
  pub seen : List Entry
  pub rest : List Entry
  pub walk : Walk b at free list seen rest
  pub count : live ≡ length (live_starts seen)
  pub starts_are : starts ≡ sets starts_before_lem 0 (live_starts seen)
  pub keys_are : keys ≡ with_keys b keys_before (live_starts seen)

pub collect_start : (b : List ℕ) (free : ℕ) (keys starts : List ℕ) → Opened b free → Collected b free keys starts keys starts 0 0
unfolding filtered with_keys
collect_start b free keys starts o =
    record {
      list = o.list;
      seen = [];
      rest = o.list;
      walk = walk_start b free o;
      count = refl;
      starts_are = refl;
      keys_are = refl;
    }

-- the same state by other names
pub collect_as : (b : List ℕ) (free : ℕ) (keys_before starts_before_lem keys starts : List ℕ) (live at : ℕ)
    (keys_now starts_now : List ℕ) (Live_now at_now : ℕ)
    → keys_now ≡ keys → starts_now ≡ starts → Live_now ≡ live → at_now ≡ at → Collected b free keys_before starts_before_lem keys starts live at
    → Collected b free keys_before starts_before_lem keys_now starts_now Live_now at_now
collect_as b free keys_before starts_before_lem keys starts live at keys_now starts_now Live_now at_now p q r s c = rw (p, q, r, s) c

live_snoc : (seen : List Entry) (x : Entry) → live_starts (seen ++ (x ∷ [])) ≡ live_starts seen ++ pick x.live (x.start ∷ []) []
unfolding filtered pick
live_snoc [] x = go x.live
  where
    go : (t : Bool) → map start_of (pick t (x ∷ []) []) ≡ pick t (x.start ∷ []) []
    go true = refl
    go false = refl
live_snoc (y ∷ seen) x = go y.live (live_snoc seen x)
  where
    go : (t : Bool) → live_starts (seen ++ (x ∷ [])) ≡ live_starts seen ++ pick x.live (x.start ∷ []) []
        → map start_of (pick t (y ∷ live_ones (seen ++ (x ∷ []))) (live_ones (seen ++ (x ∷ []))))
        ≡ map start_of (pick t (y ∷ live_ones seen) (live_ones seen)) ++ pick x.live (x.start ∷ []) []
    go true h = ap (λ (l : List ℕ). y.start ∷ l) h
    go false h = h

keys_snoc : (b keys starts : List ℕ) (s : ℕ)
    → with_keys b keys (starts ++ (s ∷ [])) ≡ sets (with_keys b keys starts) (weight_count * s) (filed_key (row_of (word_at b s)))
unfolding with_keys
keys_snoc b keys [] s = refl
keys_snoc b keys (x ∷ starts) s = keys_snoc b (sets keys (weight_count * x) (filed_key (row_of (word_at b x)))) starts s

pub starts_snoc : (starts list : List ℕ) (s : ℕ) → sets starts 0 (list ++ (s ∷ [])) ≡ set (sets starts 0 list) (length list) s
starts_snoc starts list s =
    let n : 0 + length list ≡ length list = omega arith in
    sym (sets_append list (s ∷ []) starts 0) ∙ ap (λ (k : ℕ). set (sets starts 0 list) k s) n

module _ (b : List ℕ) (free : ℕ) (keys_before starts_before_lem keys starts : List ℕ) (live at : ℕ)
    (c : Collected b free keys_before starts_before_lem keys starts live at) where
  pub at_record : at < free → Turn b at free c.list c.seen c.rest
  at_record h = turn b at free c.list c.seen c.rest c.walk h

  pub collect_room : length keys_before ≡ key_room → length keys ≡ key_room
  collect_room r = ap length c.keys_are ∙ keys_length b keys_before (live_starts c.seen) ∙ r

  pub collect_long : length starts ≡ length starts_before_lem
  collect_long = ap length c.starts_are ∙ length-sets starts_before_lem 0 (live_starts c.seen)

  pub collect_frame : at < free → Framed b at
  collect_frame h = (at_record h).stands.frame

  module _ (t : Turn b at free c.list c.seen c.rest) where
    pub turn_readable : Readable (word_at b at)
    turn_readable = here_readable b at free c.list c.seen t.entry t.behind t.stands

    -- the starts after the record at the place, by whether it is live
    passed : (live_is : Bool) → eqb (get_or b (at + 1) 0) 0x57 ≡ live_is
        → live_starts (c.seen ++ (t.entry ∷ [])) ≡ live_starts c.seen ++ pick live_is (at ∷ []) []
    passed live_is e =
        live_snoc c.seen t.entry
        ∙ ap (λ (x : Entry). live_starts c.seen ++ pick x.live (x.start ∷ []) []) (sym t.stands.is)
        ∙ ap (λ (u : Bool). live_starts c.seen ++ pick u (at ∷ []) []) e

    -- where it is live, there is room for its start
    collect_fits : get_or b (at + 1) 0 ≡ 0x57 → most_live ≤ length starts_before_lem → live < length starts
    collect_fits m room =
        let here_live : t.entry.live ≡ true = ap (λ (x : Entry). x.live) (sym t.stands.is) ∙ eq-eqb (get_or b (at + 1) 0) 0x57 m in
        let ahead : live_count c.rest ≡ suc (live_count t.behind) =
        ap live_count t.first ∙ ap (λ (u : Bool). counted u (live_count t.behind)) here_live in
        let passed_live : live ≡ live_count c.seen = c.count ∙ length-map (live_ones c.seen) start_of ∙ live_count_lem c.seen in
        omega (arith, room, live_few b c.list c.walk.is_book, ap live_count c.walk.whole, live_append c.seen c.rest, collect_long)

    pub collect_live : get_or b (at + 1) 0 ≡ 0x57 → (keys_after starts_after : List ℕ) → keys_after ≡ sets keys (weight_count * at) (filed_key (row_of (word_at b at)))
        → starts_after ≡ set starts live at
        → Collected b free keys_before starts_before_lem keys_after starts_after (live + 1) (at + head_size + get_or b (at + 2) 0)
    unfolding pick
    collect_live m keys_after starts_after p q =
        let e : live_starts (c.seen ++ (t.entry ∷ [])) ≡ live_starts c.seen ++ (at ∷ []) = passed true (eq-eqb (get_or b (at + 1) 0) 0x57 m) in
        record {
          list = c.list;
          seen = c.seen ++ (t.entry ∷ []);
          rest = t.behind;
          walk = t.stands.next;
          count = omega (arith, c.count, ap length e, length-append (live_starts c.seen) (at ∷ []));
          starts_are =
              q ∙ (λ i. set (c.starts_are i) (c.count i) at) ∙ sym (starts_snoc starts_before_lem (live_starts c.seen) at)
              ∙ ap (sets starts_before_lem 0) (sym e);
          keys_are =
              p ∙ ap (λ (l : List ℕ). sets l (weight_count * at) (filed_key (row_of (word_at b at)))) c.keys_are
              ∙ sym (keys_snoc b keys_before (live_starts c.seen) at) ∙ ap (with_keys b keys_before) (sym e);
        }

    pub collect_removed : (get_or b (at + 1) 0 ≡ 0x57 → ⊥) → Collected b free keys_before starts_before_lem keys starts live (at + head_size + get_or b (at + 2) 0)
    unfolding pick
    collect_removed n =
        let e : live_starts (c.seen ++ (t.entry ∷ [])) ≡ live_starts c.seen =
        passed false (ne_eqb (get_or b (at + 1) 0) 0x57 n) ∙ append-nil (live_starts c.seen) in
        record {
          list = c.list;
          seen = c.seen ++ (t.entry ∷ []);
          rest = t.behind;
          walk = t.stands.next;
          count = c.count ∙ ap length (sym e);
          starts_are = c.starts_are ∙ ap (sets starts_before_lem 0) (sym e);
          keys_are = c.keys_are ∙ ap (with_keys b keys_before) (sym e);
        }

  -- the same where the record at the place is not named
  pub collect_more : at < free → get_or b (at + 1) 0 ≡ 0x57 → most_live ≤ length starts_before_lem → live < length starts
  collect_more h m room = collect_fits (at_record h) m room

  -- all are passed
  pub collect_end : length keys_before ≡ key_room → most_live ≤ length starts_before_lem → free ≤ at → FiledRight b keys_before starts_before_lem keys starts live
  collect_end key_room_lem room h =
      let w = c.walk in
      let short = w.is_book.short in
      let place : 0 + length (live_starts c.seen) ≡ live = omega (arith, c.count) in
      let all : c.list ≡ c.seen = walk_seen b at free c.list c.seen c.rest w h in
      let others : (list : List Entry) → IsBook b list → c.seen ≡ list = λ list k. sym all ∙ only b c.list list w.is_book k in
      let count : live ≡ live_count c.list =
      c.count ∙ length-map (live_ones c.seen) start_of ∙ live_count_lem c.seen ∙ ap live_count (sym all) in
      let fits : live ≤ length starts_before_lem = omega (arith, count, room, live_few b c.list w.is_book) in
      let filed : take live starts ≡ live_starts c.seen =
      (λ i. take (c.count i) (c.starts_are i)) ∙ sets_there (live_starts c.seen) starts_before_lem 0 (omega (arith, c.count)) in
      record {
        live = λ list k. count ∙ ap live_count (only b c.list list w.is_book k);
        filed = λ list k. filed ∙ ap live_starts (others list k);
        keyed =
            subst (AllKeyed b keys) (sym filed)
            (subst (λ (k : List ℕ). AllKeyed b k (live_starts c.seen)) (sym c.keys_are)
            (all_keyed b keys_before 0 (live_starts c.seen) short key_room_lem
            (subst (λ (l : List Entry). Spaced b 0 (live_starts l)) all (spaced_of_book b c.list w.is_book))));
        few = omega (arith, count, live_few b c.list w.is_book);
        key_room_lem = collect_room key_room_lem;
        start_room = omega (arith, fits, collect_long);
        other_starts =
            (λ i. drop (sym place i) (c.starts_are i)) ∙ sets_behind (live_starts c.seen) starts_before_lem 0 (omega (arith, c.count))
            ∙ ap (λ (n : ℕ). drop n starts_before_lem) place;
        all_keys = c.keys_are ∙ ap (with_keys b keys_before) (sym filed);
      }
