-- `sorting::merging::sort_halves`, which calls itself: both parts in order, merged, are the whole in order. Assumes nothing.
use mathlib.Core.Path.{sym, ap, subst, ◌∙◌}
use mathlib.Core.List.{List}
use Prim.Native.Nat.{ℕ, ◌/◌}
use native.Mathlib.Omega.{arith}
use lib.ListN.{length, take, length-drop}
use lib.Seq.{length-take-le}
use Rattle.book_keys.specs.Filing.{AllKeyed}
use Rattle.sorting.specs.Sorting.{goes_before, parts_merged, Rises}
use Rattle.sorting.proofs.Ordered.{goes_transitive, goes_level, goes_asymmetric}
use Rattle.sorting.proofs.Keyed.{keyed_take, keyed_drop, keyed_halves, part_sortable}
use Rattle.sorting.proofs.Halves.{second_part, put_back, halves_long, first_half, halves_merged, few_in_order}
use Rattle.sorting.proofs.Rising.{rises_in_order}
use Rattle.sorting.proofs.merging.+sort_halves.Goals as goal

pub sort_halves-requires : goal.sort_halves-requires
sort_halves-requires t c =
    let l = c.args.starts.now in
    let long = length-take-le (length l / 2) l (omega arith) in (
      omega (arith, long, c.decreases, c.if-starts-gt1.true),
      (part_sortable c.requires.0 (keyed_take _ _ (length l / 2) l c.requires.0.keyed), omega (arith, long, c.requires.1)),
    )

pub sort_halves-requires-then-starts-gt1 : goal.sort_halves-requires-then-starts-gt1
sort_halves-requires-then-starts-gt1 t c =
    let l = c.args.starts.now in
    let less = goes_before c.args.book.now in
    let part = second_part less l (length l / 2) (omega arith) c.sort_halves.ensures in
    let long = ap length part ∙ length-drop (length l / 2) l in
    let keyed = keyed_drop _ _ (length l / 2) l c.requires.0.keyed in (
      omega (arith, long, c.decreases, c.if-starts-gt1.true),
      (
        part_sortable c.requires.0 (subst (AllKeyed c.args.book.now c.args.keys.now) (sym part) keyed),
        omega (arith, long, c.requires.1, c.sort_halves.auto.room),
      ),
    )

pub join-requires : goal.join-requires
join-requires t c =
    let l = c.args.starts.now in
    let less = goes_before c.args.book.now in
    let back = put_back less l (length l / 2) (omega arith) c.sort_halves.ensures c.sort_halves-then-starts-gt1.ensures in
    let long = ap length back ∙ halves_long less l (length l / 2) (omega arith) in
    let keyed = keyed_halves c.args.book.now c.args.keys.now less (length l / 2) l c.requires.0.keyed in (
      record {
        mergeable = record {
          sortable = part_sortable c.requires.0 (subst (AllKeyed c.args.book.now c.args.keys.now) (sym back) keyed);
          parted = omega (arith, long);
        };
        first_there = omega (arith, c.if-starts-gt1.true);
        second_there = omega (arith, long, c.if-starts-gt1.true);
        rises =
            subst (Rises less) (sym (ap (take (length l / 2)) back ∙ first_half less l (length l / 2) (omega arith)))
            (rises_in_order less (goes_asymmetric c.args.book.now) (goes_level c.args.book.now) (take (length l / 2) l));
      },
      omega (arith, long, c.requires.1, c.sort_halves.auto.room, c.sort_halves-then-starts-gt1.auto.room),
    )

pub returns-then-starts-gt1 : goal.returns-then-starts-gt1
returns-then-starts-gt1 t c =
    let l = c.args.starts.now in
    let less = goes_before c.args.book.now in
    let back = put_back less l (length l / 2) (omega arith) c.sort_halves.ensures c.sort_halves-then-starts-gt1.ensures in
    c.join.ensures ∙ ap (λ (x : List ℕ). parts_merged c.args.book.now x (length l / 2)) back
    ∙ halves_merged less l (length l / 2) (omega arith) (goes_transitive c.args.book.now) (goes_level c.args.book.now)

pub returns-else-starts-gt1 : goal.returns-else-starts-gt1
returns-else-starts-gt1 t c = few_in_order (goes_before c.args.book.now) c.args.starts.now (omega arith)
