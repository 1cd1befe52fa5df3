-- `sorting::records::sort_records` meets its contract: the starts that are kept are those that fit, they are copied where there is room, and sorted there.
-- Assumes nothing.
use mathlib.Core.Path.{refl, sym, ap, ◌∙◌}
use mathlib.Core.List.{List, ◌++◌}
use Prim.Native.Nat.{ℕ}
use native.Mathlib.Omega.{arith}
use lib.ListN.{drop}
use lib.Seq.{length-take-le}
use Rattle.sorting.proofs.Sorted.{kept_fits, refused_short, copied_keyed, copied_count, put_passing}
use Rattle.sorting.proofs.records.sort_records.Goals as goal

pub returns-then-starts-count : goal.returns-then-starts-count
returns-then-starts-count c = refused_short c.file_records-live.ensures c.keep_fitting-count.ensures _ c.if-starts-count.true

pub slice_bounds-found-end-2 : goal.slice_bounds-found-end-2
slice_bounds-found-end-2 c = kept_fits c.file_records-live.ensures c.keep_fitting-count.ensures

pub slice_bounds-copy_from_slice-end-3 : goal.slice_bounds-copy_from_slice-end-3
slice_bounds-copy_from_slice-end-3 c = sym (length-take-le _ _ (kept_fits c.file_records-live.ensures c.keep_fitting-count.ensures))

pub copy_from_slice-requires : goal.copy_from_slice-requires
copy_from_slice-requires c =
    length-take-le c.keep_fitting-count.result c.args.starts.now c.if-starts-count.false
    ∙ sym (length-take-le _ _ (kept_fits c.file_records-live.ensures c.keep_fitting-count.ensures))

pub sort-requires : goal.sort-requires
sort-requires c =
    let filed = c.file_records-live.ensures in
    let kept = c.keep_fitting-count.ensures in
    let room = c.if-starts-count.false in
    let copied = c.copy_from_slice.ensures.after in (
      record { short = c.requires.is_book.short; keyed = copied_keyed filed kept _ c.args.starts.now _ _ room copied refl },
      omega (arith, copied_count filed kept _ c.args.starts.now _ _ room copied refl, kept_fits filed kept),
    )

pub returns : goal.returns
returns c =
    let count = c.keep_fitting-count.result in
    let starts = c.args.starts.now in
    put_passing c.file_records-live.ensures c.keep_fitting-count.ensures _ starts _ _ c.if-starts-count.false c.copy_from_slice.ensures.after refl _
    (ap (λ (l : List ℕ). l ++ drop count (c.copy_from_slice.new.self ++ drop count starts)) c.sort.ensures)
