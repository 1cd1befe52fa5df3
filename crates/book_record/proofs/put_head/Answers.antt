-- `book_record::put_head` meets its contract: seven stores, one behind the other.
-- Assumes nothing.
use mathlib.Core.Path.{◌∙◌}
use mathlib.Core.List.{[], ◌∷◌, ◌++◌}
use Prim.Native.Nat.{◌+◌}
use native.Mathlib.Omega.{arith}
use lib.ListN.{take, drop, length-set}
use Rattle.entries.specs.Limits.{head_size}
use Rattle.book_record.specs.Head.{with_head}
use Rattle.book_record.proofs.Words.{head_stores}
use Rattle.book_record.proofs.put_head.Goals as goal

pub bounds-book-at-2 : goal.bounds-book-at-2
bounds-book-at-2 c = simp length-set (omega arith)

pub bounds-book-at-3 : goal.bounds-book-at-3
bounds-book-at-3 c = simp length-set (omega arith)

pub bounds-book-at-4 : goal.bounds-book-at-4
bounds-book-at-4 c = simp length-set (omega arith)

pub bounds-book-at-5 : goal.bounds-book-at-5
bounds-book-at-5 c = simp length-set (omega arith)

pub bounds-book-at-6 : goal.bounds-book-at-6
bounds-book-at-6 c = simp length-set (omega arith)

pub bounds-book-at-7 : goal.bounds-book-at-7
bounds-book-at-7 c = simp length-set (omega arith)

pub shape_of-book : goal.shape_of-book
shape_of-book c = simp length-set

pub returns : goal.returns
unfolding with_head
returns c =
    let a = c.args in
    let b = a.book.now in
    head_stores b a.at 0x4D 0x57 _ _ _ _ _ c.requires.1
    ∙ (λ i. take a.at b
    ++ ((0x4D ∷ 0x57 ∷ a.count ∷ c.stock_byte.ensures i ∷ c.stock_byte-2.ensures i ∷ c.stock_byte-3.ensures i ∷ c.stock_byte-4.ensures i ∷ [])
    ++ drop (a.at + head_size) b))
