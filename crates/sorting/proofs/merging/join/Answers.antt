-- `sorting::merging::join` meets its contract: what is copied back is the front of `room`, which is the merging of both parts; or they are in order as they
-- stand. Assumes nothing.
use mathlib.Core.Path.{◌≡◌, sym, ap, ◌∙◌}
use native.Mathlib.Omega.{arith}
use lib.ListN.{length, take, drop}
use lib.Seq.{length-take-le}
use Rattle.memory.proofs.Stores.{sets_whole}
use Rattle.book_keys.proofs.Live.{keyed_at}
use Rattle.sorting.specs.Sorting.{goes_before}
use Rattle.sorting.proofs.Halves.{front_merged}
use Rattle.sorting.proofs.Ordered.{goes_asymmetric, goes_level}
use Rattle.sorting.proofs.Rising.{parts_as_stand}
use Rattle.sorting.proofs.merging.join.Goals as goal

pub goes_before-requires : goal.goes_before-requires
goes_before-requires c =
    let r = c.requires.0 in
    let starts = c.args.starts.now in
    let keyed = r.mergeable.sortable.keyed in
    (r.mergeable.sortable.short, keyed_at _ _ starts _ keyed r.second_there, keyed_at _ _ starts _ keyed (omega (arith, r.second_there)))

pub returns-else-goes_before : goal.returns-else-goes_before
returns-else-goes_before c =
    let r = c.requires.0 in
    let bytes = c.args.book.now in
    parts_as_stand (goes_before bytes) (goes_asymmetric bytes) (goes_level bytes) c.args.starts.now c.args.middle r.first_there r.second_there r.rises
    (sym c.goes_before.ensures ∙ c.if-goes_before.false)

pub returns-then-starts-le-FEW : goal.returns-then-starts-le-FEW
returns-then-starts-le-FEW c =
    let l = c.args.starts.now in
    let as_long : length (take (length l) c.merge.new.room) ≡ length l = length-take-le _ _ (omega (arith, c.merge.auto.room, c.requires.1)) in
    c.put_all.ensures ∙ sets_whole _ _ as_long ∙ ap (take (length l)) c.merge.ensures
    ∙ front_merged (goes_before c.args.book.now) l c.args.middle c.requires.0.mergeable.parted (drop (length l) c.args.room.now)
