-- `book_check::open::open_book` meets its contract. The invariant: the definition of the entries is unrolled up to `at`, and the live entries before
-- it are counted and chained. The measure is what is left of the buffer.
-- Assumes nothing.
use mathlib.Core.List.{List}
use mathlib.Core.Path.{◌≡◌, refl, sym, ap, ◌∙◌}
use Prim.Native.Nat.{ℕ, ◌+◌, ◌≤◌}
use native.Mathlib.Omega.{arith}
use lib.ListN.{length, get_or}
use Rattle.entries.specs.Limits.{book_limit, head_size}
use Rattle.entries.specs.Entries.{book as book_of}
use Rattle.entries.proofs.Records.{framed_is}
use Rattle.book_check.specs.Chain.{hash_of, bucket_at}
use borrow.Author.Tests.{eqb-true, eqb-false}
use Rattle.book_check.proofs.Parts.{tail_stray, tail_zeros}
use Rattle.book_check.proofs.Passing.{too_long, passed_start, ends_zero, ends_full, no_record, repeated, framed_here, moved, pass_removed, pass_live, wrong_right, book_right}
use Rattle.book_check.proofs.open.open_book.Goals as goal
use Rattle.book_check.proofs.open.open_book.Goals.{then-record+else-is_repeated, else-record}

pub returns-then-book-gt-BOOK_LIMIT : goal.returns-then-book-gt-BOOK_LIMIT
returns-then-book-gt-BOOK_LIMIT c = wrong_right c.args.book.now _ (λ i. omega (arith, c.type_inv.book i)) (too_long c.args.book.now (omega (arith, c.if-book-gt-BOOK_LIMIT.true)))

pub loop-at-init : goal.loop-at-init
loop-at-init c =
    let short : length c.args.book.now ≤ book_limit = omega (arith, c.if-book-gt-BOOK_LIMIT.false) in
    (short, passed_start c.args.book.now short)

pub returns-in-Some : goal.returns-in-Some
returns-in-Some c =
    let l = c.loop-at in
    wrong_right c.args.book.now _ (λ i. omega (arith, c.type_inv.book i))
    (ends_zero c.args.book.now l.at l.live l.heads l.links l.invariant.1 c.if-book-at-eq0.true ∙ tail_stray c.args.book.now l.at _ (book_of l.invariant.1.list l.at) c.in-Some.ensures)

pub returns-then-book-at-eq0 : goal.returns-then-book-at-eq0
returns-then-book-at-eq0 c =
    let l = c.loop-at in
    book_right c.args.book.now l.live l.at _ (λ i. omega (arith, c.type_inv.book i)) l.invariant.1.count
    (ends_zero c.args.book.now l.at l.live l.heads l.links l.invariant.1 c.if-book-at-eq0.true ∙ tail_zeros c.args.book.now l.at (book_of l.invariant.1.list l.at) c.in_default.ensures)

pub returns-then-not-is_record : goal.returns-then-not-is_record
returns-then-not-is_record c =
    let l = c.loop-at in
    wrong_right c.args.book.now _ (λ i. omega (arith, c.type_inv.book i))
    (no_record c.args.book.now l.at l.live l.heads l.links l.invariant.1 c.if-book-at-eq0.false (sym c.is_record.ensures ∙ c.if-not-is_record.true))

pub at-record-requires : goal.at-record-requires
at-record-requires c =
    let f = framed_here c.loop-at.invariant.1 c.if-book-at-eq0.false c.is_record.ensures c.if-not-is_record.false in
    omega (arith, f.room)

pub is_repeated-requires : goal.is_repeated-requires
unfolding bucket_at
is_repeated-requires c =
    let l = c.loop-at in
    record {
      short = l.invariant.0;
      frame = framed_is _ _ (framed_here l.invariant.1 c.if-book-at-eq0.false c.is_record.ensures c.if-not-is_record.false);
      bucket_is = c.bucket_of-bucket.ensures.0 ∙ ap (λ (bytes : List ℕ). hash_of bytes 0) c.word_of.ensures;
      bucket_small = c.bucket_of-bucket.ensures.1;
      list = l.invariant.1.list;
      chained = l.invariant.1.chained;
    }

pub returns-then-is_repeated : goal.returns-then-is_repeated
returns-then-is_repeated c =
    let l = c.loop-at in
    let alive : get_or c.args.book.now (l.at + 1) 0 ≡ 0x57 = eqb-true _ 0x57 (sym c.at-record.ensures.live ∙ c.if-record.true) in
    wrong_right c.args.book.now _ (λ i. omega (arith, c.type_inv.book i))
    (repeated c.args.book.now l.at l.live l.heads l.links l.invariant.1 c.if-book-at-eq0.false alive
    (sym (c.is_repeated.ensures l.invariant.1.list l.invariant.1.chained) ∙ c.if-is_repeated.true))

pub loop-at-preserved : goal.loop-at-preserved
unfolding bucket_at
loop-at-preserved c =
    let l = c.loop-at in
    let b = c.args.book.now in
    let good = sym c.is_record.ensures ∙ c.if-not-is_record.false in
    let e : l.at + c.at-record.result.size ≡ l.at + head_size + get_or b (l.at + 2) 0 = omega (arith, c.at-record.ensures.size) in (
      l.invariant.0,
      elim c.if-record.branch [
        | then-record+else-is_repeated w ↦
            let alive : get_or b (l.at + 1) 0 ≡ 0x57 = eqb-true _ 0x57 (sym c.at-record.ensures.live ∙ w.if-record.true) in
            moved b _ _ _ _ _ _ _ _ e w.live-is w.heads-is w.links-is
            (pass_live b l.at l.live l.heads l.links l.invariant.1 c.if-book-at-eq0.false good w.bucket_of-bucket.result _ w.link_to.result l.invariant.0
            alive (sym (w.is_repeated.ensures l.invariant.1.list l.invariant.1.chained) ∙ w.if-is_repeated.false)
            (w.bucket_of-bucket.ensures.0 ∙ ap (λ (bytes : List ℕ). hash_of bytes 0) w.word_of.ensures) w.bucket_of-bucket.ensures.1 refl w.link_to.ensures)
        | else-record w ↦
            moved b _ _ _ _ _ _ _ _ e w.live-is w.heads-is w.links-is
            (pass_removed b l.at l.live l.heads l.links l.invariant.1 c.if-book-at-eq0.false good
            (eqb-false _ 0x57 (sym c.at-record.ensures.live ∙ w.if-record.false)))
      ],
    )

pub returns : goal.returns
returns c =
    let l = c.loop-at in
    book_right c.args.book.now l.live l.at _ (λ i. omega (arith, c.type_inv.book i)) l.invariant.1.count
    (ends_full c.args.book.now l.at l.live l.heads l.links l.invariant.1 c.loop-at-test.false)
