use mathlib.Core.Path.{◌≡◌}
use mathlib.Core.List.{map}
use Prim.Native.Nat.{◌≤◌}
use lib.ListN.{length}
use lib.Seq.{paste}
use Rattle.entries.specs.Book.{byte_of}
use Rattle.book_record.proofs.put_word.Given as goal

abbrev pub invariant-loop-next : goal.invariant-loop-next
invariant-loop-next l = (l.next ≤ length l.word) × (l.book ≡ paste l.initial.book l.from (map byte_of l.word) l.next) × (length l.book ≡ length l.initial.book)
