-- `book_record::put_record` meets its contract: the head and the word are written one behind the other.
-- Assumes nothing.
use mathlib.Core.Path.{ap, ◌∙◌}
use mathlib.Core.List.{List, map}
use Prim.Native.Nat.{ℕ, ◌+◌, ◌≤◌}
use native.Mathlib.Omega.{arith}
use lib.ListN.{length}
use lib.Seq.{paste}
use Rattle.entries.specs.Limits.{head_size}
use Rattle.entries.specs.Book.{byte_of}
use Rattle.book_record.proofs.Words.{written}
use Rattle.book_record.proofs.put_record.Goals as goal

pub put_head-requires : goal.put_head-requires
put_head-requires c =
    let room : c.args.start + head_size + length c.args.word.now ≤ length c.args.book.now =
    let w = c.requires.0 in omega (arith, w.room) in
    (c.requires.0.short, omega (arith, room), c.requires.1.readable.admissible.short)

pub overflow_add-start : goal.overflow_add-start
overflow_add-start c =
    let room : c.args.start + head_size + length c.args.word.now ≤ length c.args.book.now =
    let w = c.requires.0 in omega (arith, w.room) in
    omega (arith, room, c.requires.0.short)

pub put_word-requires : goal.put_word-requires
put_word-requires c =
    let room : c.args.start + head_size + length c.args.word.now ≤ length c.args.book.now =
    let w = c.requires.0 in omega (arith, w.room) in
    (omega (arith, room), c.requires.1)

pub returns : goal.returns
returns c =
    let room : c.args.start + head_size + length c.args.word.now ≤ length c.args.book.now =
    let w = c.requires.0 in omega (arith, w.room) in
    let a = c.args in
    c.put_word.ensures
    ∙ ap (λ (d : List ℕ). paste d (a.start + head_size) (map byte_of a.word.now) (length a.word.now)) c.put_head.ensures
    ∙ written a.book.now a.word.now a.start a.stock room
