-- What a library with a lower limit says of a book: the same where no word is longer than that limit, and else that it is wrong at the start of the first record with a
-- longer word, live or removed.
-- Assumes nothing.
use mathlib.Core.Path.{◌≡◌, sym, ap, subst, ◌∙◌}
use mathlib.Core.Bool.{◌&&◌, ◌||◌}
use mathlib.Core.List.{List, [], ◌∷◌, ◌++◌, append_assoc, append-nil}
use Prim.Native.Nat.{ℕ, zero, suc, ◌+◌, ◌≤◌, ◌<◌}
use native.Mathlib.Decide.{dec_le}
use native.Mathlib.Nat.{not-suc-le-zero, le_of_suc-le-suc}
use native.Mathlib.Omega.{arith}
use borrow.Author.Tests.{ne_eqb, le-leb, lt-leb}
use lib.Dec.{T, eqb, leb, leb→le, le→leb}
use lib.ListN.{length, get_or, drop, length-append}
use lib.Seq.{append_snoc}
use Rattle.letters.specs.Choice.{pick}
use Rattle.letters.proofs.Tests.{is_true, is_false, pick_true, pick_false}
use Rattle.letters.proofs.Picks.{and_no_left}
use Rattle.formula.proofs.Lists.{All, both, both_left, both_right}
use Rattle.recogniser.specs.Answer.{ReadableWithin, Readable}
use Rattle.recogniser.proofs.Answered.{row_reads, reads_readable}
use Rattle.recogniser.proofs.Decided.{decide_within}
use Rattle.entries.specs.Limits.{book_limit, head_size}
use Rattle.entries.specs.Readable.{decided, is_readable_within}
use Rattle.entries.specs.Entries.{Entry, entry_at, is_framed_within, is_fresh, may_follow_within, Entries, book, wrong, zero_tail, entries_from_within, entries_within, entries}
use Rattle.entries.specs.Book.{zeros, record_bytes, records, size, end_of, GoodEntry, GoodAfter, IsBook}
use Rattle.entries.proofs.Records.{Framed, framed_is, Read}
use Rattle.entries.proofs.Agree.{read_good, tail_zeros, zeros_first, count_records, complete}

module _ (most : ℕ) where
  -- a frame is one at a lower limit just where its count is within that
  same_frame : (b : List ℕ) (at : ℕ) → Framed b at → get_or b (at + 2) 0 ≤ most → T (is_framed_within most b at)
  unfolding is_framed_within
  same_frame b at f h =
      let n = get_or b (at + 2) 0 in
      let t = framed_is b at f in
      let marked = both_right (eqb (get_or b at 0) 0x4D) _ t in
      both (eqb (get_or b at 0) 0x4D) _ (both_left (eqb (get_or b at 0) 0x4D) _ t)
      (both (eqb (get_or b (at + 1) 0) 0x57 || eqb (get_or b (at + 1) 0) 0x2D) _ (both_left (eqb (get_or b (at + 1) 0) 0x57 || eqb (get_or b (at + 1) 0) 0x2D) _ marked)
      (both (leb 1 n) _ (le→leb 1 n f.some) (both (leb n most) _ (le→leb n most h) (le→leb (at + head_size + n) (length b) f.room))))

  no_frame : (b : List ℕ) (at : ℕ) → most < get_or b (at + 2) 0 → T (is_framed_within most b at) → ⊥
  unfolding is_framed_within
  no_frame b at h t =
      let n = get_or b (at + 2) 0 in
      let marked = both_right (eqb (get_or b at 0) 0x4D) _ t in
      let counted = both_right (eqb (get_or b (at + 1) 0) 0x57 || eqb (get_or b (at + 1) 0) 0x2D) _ marked in
      let k : n ≤ most = leb→le n most (both_left (leb n most) _ (both_right (leb 1 n) _ counted)) in
      omega arith

  -- and so a readable word is readable at a lower limit
  shorter_readable : (w : List ℕ) → Readable w → length w ≤ most → T (is_readable_within most w)
  unfolding is_readable_within
  shorter_readable w r h = go (decide_within most w)
    where
      go : (d : Dec (ReadableWithin most w)) → T (decided d)
      go (yes s) = tt
      go (no n) = absurd (n (reads_readable w _ (row_reads r.row w r.gives h)))

  follows_too : (es : List Entry) (e : Entry) → GoodEntry e → T (is_fresh es e) → length e.word ≤ most → T (may_follow_within most es e)
  unfolding may_follow_within
  follows_too es e g t h = both (is_readable_within most e.word) _ (shorter_readable e.word g.readable h) t

  -- the entries up to the first whose word is longer, which is wrong
  abbrev pub narrowed : List Entry → List Entry → ℕ → Entries
  narrowed seen [] at = book seen at
  narrowed seen (e ∷ rest) at = pick (leb (length e.word) most) (narrowed (seen ++ (e ∷ [])) rest (at + size e)) (wrong at)

  narrowed_from : (k : ℕ) (b : List ℕ) (at : ℕ) (seen rest : List Entry) (n : ℕ) → drop at b ≡ records rest ++ zeros n → GoodAfter at seen rest → length rest < k
      → entries_from_within most k b at seen ≡ narrowed seen rest at
  unfolding entries_from_within
  narrowed_from zero b at seen rest n q g h = absurd (not-suc-le-zero h)
  narrowed_from (suc k) b at seen [] n q g h =
      pick_true (eqb (get_or b at 0) 0) _ _ (zeros_first b at n q) ∙ ap (λ (l : List ℕ). zero_tail l at (book seen at)) q ∙ tail_zeros n at (book seen at)
  narrowed_from (suc k) b at seen (e ∷ rest) n q g h =
      pick_false (eqb (get_or b at 0) 0) _ _ (ne_eqb (get_or b at 0) 0 (λ z. let y : ⊥ = omega (arith, r.frame.first) in y))
      ∙ go (dec_le (length e.word) most)
      (narrowed_from k b (at + size e) (seen ++ (e ∷ [])) rest n (subst (λ (p : ℕ). drop p b ≡ records rest ++ zeros n) next r.left) g.3 (le_of_suc-le-suc h))
    where
      r : Read b at e (records rest ++ zeros n)
      r = read_good b at e (records rest ++ zeros n) (q ∙ append_assoc (record_bytes e) (records rest) (zeros n)) g.0 g.1

      next : at + head_size + get_or b (at + 2) 0 ≡ at + size e
      next = omega (arith, r.count)

      go : Dec (length e.word ≤ most) → entries_from_within most k b (at + size e) (seen ++ (e ∷ [])) ≡ narrowed (seen ++ (e ∷ [])) rest (at + size e)
          → pick (is_framed_within most b at && may_follow_within most seen (entry_at b at)) (entries_from_within most k b (at + head_size + get_or b (at + 2) 0) (seen ++ (entry_at b at ∷ []))) (wrong at)
          ≡ narrowed seen (e ∷ rest) at
      go (yes s) further =
          pick_true (is_framed_within most b at && may_follow_within most seen (entry_at b at)) _ _
          (is_true _
          (both (is_framed_within most b at) _ (same_frame b at r.frame (omega (arith, r.count)))
          (subst (λ (x : Entry). T (may_follow_within most seen x)) (sym r.entry) (follows_too seen e g.1 g.2 s))))
          ∙ ap (λ (x : Entry). entries_from_within most k b (at + head_size + get_or b (at + 2) 0) (seen ++ (x ∷ []))) r.entry
          ∙ ap (λ (p : ℕ). entries_from_within most k b p (seen ++ (e ∷ []))) next ∙ further
          ∙ sym (pick_true (leb (length e.word) most) _ _ (le-leb (length e.word) most s))
      go (no s) further =
          pick_false (is_framed_within most b at && may_follow_within most seen (entry_at b at)) _ _
          (and_no_left (is_framed_within most b at) _ (is_false _ (no_frame b at (omega (arith, r.count)))))
          ∙ sym (pick_false (leb (length e.word) most) _ _ (lt-leb (length e.word) most (omega arith)))

  -- what the library of that limit reads of a book
  pub narrowed_is : (b : List ℕ) (es : List Entry) → IsBook b es → entries_within most b ≡ narrowed [] es 0
  unfolding entries_within
  narrowed_is b es k =
      let l : length es ≤ length b = omega (arith, count_records es, ap length k.written, length-append (records es) (zeros k.pad)) in
      pick_true (leb (length b) book_limit) _ _ (le-leb (length b) book_limit k.short)
      ∙ narrowed_from (suc (length b)) b 0 [] es k.pad k.written k.good (omega arith)

  abbrev pub Short : Entry → Type 0
  Short e = length e.word ≤ most

  all_short : (seen es : List Entry) (at : ℕ) → All Short es → narrowed seen es at ≡ book (seen ++ es) (end_of at es)
  all_short seen [] at a = ap (λ (l : List Entry). book l at) (sym (append-nil seen))
  all_short seen (e ∷ es) at a =
      pick_true (leb (length e.word) most) _ _ (le-leb (length e.word) most a.0) ∙ all_short (seen ++ (e ∷ [])) es (at + size e) a.1
      ∙ ap (λ (l : List Entry). book l (end_of (at + size e) es)) (append_snoc seen e es)

  -- "Every book of the old limit is a book under the new one", with the same entries: so each answer that goes by them is the same
  pub shorter_same : (b : List ℕ) (es : List Entry) → IsBook b es → All Short es → entries_within most b ≡ entries b
  shorter_same b es k a = narrowed_is b es k ∙ all_short [] es 0 a ∙ sym (complete b es k)

  first_longer : (seen before rest : List Entry) (e : Entry) (at : ℕ) → All Short before → most < length e.word
      → narrowed seen (before ++ (e ∷ rest)) at ≡ wrong (end_of at before)
  first_longer seen [] rest e at a h = pick_false (leb (length e.word) most) _ _ (lt-leb (length e.word) most h)
  first_longer seen (x ∷ before) rest e at a h =
      pick_true (leb (length x.word) most) _ _ (le-leb (length x.word) most a.0) ∙ first_longer (seen ++ (x ∷ [])) before rest e (at + size x) a.1 h

  -- "says 11 at the start of the first longer record", a removed one too
  pub longer_wrong : (b : List ℕ) (before rest : List Entry) (e : Entry) → IsBook b (before ++ (e ∷ rest)) → All Short before → most < length e.word
      → entries_within most b ≡ wrong e.start
  longer_wrong b before rest e k a h = narrowed_is b (before ++ (e ∷ rest)) k ∙ first_longer [] before rest e 0 a h ∙ ap wrong (sym (starts 0 [] before k.good))
    where
      starts : (at : ℕ) (seen l : List Entry) → GoodAfter at seen (l ++ (e ∷ rest)) → e.start ≡ end_of at l
      starts at seen [] g = g.0
      starts at seen (x ∷ l) g = starts (at + size x) (seen ++ (x ∷ [])) l g.3
