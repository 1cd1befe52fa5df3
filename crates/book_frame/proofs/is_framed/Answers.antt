-- `book_frame::is_framed` meets its contract: each test is one of the definition's.
-- Assumes nothing.
use mathlib.Core.Path.{◌≡◌, sym, ◌∙◌}
use mathlib.Core.Logic.{◌⊎◌, inl, inr, ⊎_elim}
use Prim.Native.Nat.{◌+◌, ◌-◌, ◌≤◌}
use native.Mathlib.Decide.{dec_le}
use native.Mathlib.Omega.{arith}
use borrow.Author.Tests.{le-leb, lt-leb}
use lib.Dec.{leb}
use lib.ListN.{length, get_or}
use Rattle.letters.proofs.Tests.{is_true, is_false}
use Rattle.entries.specs.Entries.{is_framed}
use Rattle.entries.proofs.Records.{framed_true, framed_is}
use Rattle.book_frame.proofs.Marks.{mark_met, mark_missed}
use Rattle.book_frame.proofs.is_framed.Goals as goal
use Rattle.book_frame.proofs.is_framed.Goals.{else-not-has_mark-via-then-not-has_mark+else-not-has_mark-2, else-not-has_mark-via-else-not-has_mark}

pub returns-then-book-at-lt8 : goal.returns-then-book-at-lt8
returns-then-book-at-lt8 c = sym (is_false _ (λ t. let f = framed_true _ _ t in let z : ⊥ = omega (arith, f.room, f.some) in z))

pub returns-then-not-has_mark-2 : goal.returns-then-not-has_mark-2
returns-then-not-has_mark-2 c =
    sym
    (is_false _
    (λ t. let f = framed_true _ _ t in
    ⊎_elim
    (λ e. mark_missed _ _ 0x4D 0x57 _ c.has_mark.ensures (c.if-not-has_mark.true) f.first e)
    (λ e. mark_missed _ _ 0x4D 0x2D _ c.has_mark-then-not-has_mark.ensures (c.if-not-has_mark-2.true) f.first e) f.mark))

pub returns-then-count-gt-LIMIT : goal.returns-then-count-gt-LIMIT
returns-then-count-gt-LIMIT c =
    sym (is_false _ (λ t. let f = framed_true _ _ t in let z : ⊥ = omega (arith, f.short, c.from-count.ensures) in z))

pub returns : goal.returns
returns c =
    let s = c.args in
    let book = s.book.now in
    let room : Dec (7 + c.from-count.result ≤ length book - s.at) = dec_le (7 + c.from-count.result) (length book - s.at) in
    let m : (get_or book s.at 0 ≡ 0x4D) × ((get_or book (s.at + 1) 0 ≡ 0x57) ⊎ (get_or book (s.at + 1) 0 ≡ 0x2D)) =
    elim c.else-not-has_mark.branch [
      | else-not-has_mark-via-then-not-has_mark+else-not-has_mark-2 w ↦
          let m = mark_met _ _ 0x4D 0x2D _ w.has_mark-then-not-has_mark.ensures w.if-not-has_mark-2.false in (m.0, inr m.1)
      | else-not-has_mark-via-else-not-has_mark w ↦ let m = mark_met _ _ 0x4D 0x57 _ c.has_mark.ensures w.if-not-has_mark.false in (m.0, inl m.1)
    ] in
    let e = c.from-count.ensures in
    elim room as (λ _. leb (7 + c.from-count.result) (length book - s.at) ≡ is_framed book s.at) [
      | yes h ↦
          le-leb _ _ h
          ∙ sym (is_true _
          (framed_is _ _
          (record {
            first = m.0;
            mark = m.1;
            some = omega (arith, e);
            short = omega (arith, e, c.if-count-gt-LIMIT.false);
            room = omega (arith, e, h);
          })))
      | no n ↦
          lt-leb _ _ (omega arith) ∙ sym (is_false _ (λ t. let f = framed_true _ _ t in let z : ⊥ = omega (arith, f.room, e) in z))
    ]
