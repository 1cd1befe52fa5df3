-- `sorting::merging::falls` meets its contract: it is told by the first that does not go before the one it follows.
-- Assumes nothing.
use borrow.Author.Rules.{rules}
use Prim.Native.Nat.{◌-◌}
use Rattle.book_keys.proofs.Live.{keyed_at}
use Rattle.sorting.proofs.merging.falls.Goals as goal

pub goes_before-requires : goal.goes_before-requires
goes_before-requires c =
    let keyed = c.requires.keyed in
    let starts = c.args.starts.now in
    (c.requires.short, keyed_at _ _ starts c.loop-next.next keyed (search rules), keyed_at _ _ starts (c.loop-next.next - 1) keyed (search rules))
