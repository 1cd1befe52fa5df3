-- `book_record::put_word` meets its contract. The invariant: the bytes of the values passed are written. The measure is what is left.
-- Assumes nothing.
use mathlib.Core.Path.{◌≡◌, refl, sym, ap, ◌∙◌}
use mathlib.Core.List.{List, map}
use Prim.Native.Nat.{ℕ, ◌+◌}
use native.Mathlib.Numerals.{add-one}
use native.Mathlib.Omega.{arith}
use lib.ListN.{length, set, length-map, length-set}
use lib.Seq.{paste, paste-zero, paste-suc}
use Rattle.entries.specs.Book.{byte_of}
use Rattle.entries.proofs.Bytes.{readable_within}
use Rattle.book_record.proofs.Words.{map_byte_at}
use Rattle.book_record.proofs.put_word.Goals as goal

pub loop-next-init : goal.loop-next-init
loop-next-init c = (omega arith, paste-zero _ c.args.from (map byte_of c.args.word.now), refl)

pub value_byte-requires : goal.value_byte-requires
value_byte-requires c = readable_within c.args.word.now c.requires.1.readable c.loop-next.next c.loop-next-test.true

pub bounds-book-from : goal.bounds-book-from
bounds-book-from c = omega (arith, c.loop-next.invariant.2, c.requires.0)

pub loop-next-preserved : goal.loop-next-preserved
loop-next-preserved c =
    let l = c.loop-next in
    let b = c.args.book.now in
    let w = c.args.word.now in
    let from = c.args.from in
    let bytes : List ℕ = map byte_of w in
    let long : length bytes ≡ length w = length-map w byte_of in (
      omega arith,
      ap (λ (x : List ℕ). set x (from + l.next) c.value_byte.result) l.invariant.1
          ∙ ap (set (paste b from bytes l.next) (from + l.next)) (c.value_byte.ensures ∙ sym (map_byte_at w l.next c.loop-next-test.true))
          ∙ paste-suc b from bytes l.next 0 (omega (arith, c.requires.0)) (omega arith) ∙ ap (paste b from bytes) (sym (add-one l.next)),
      length-set l.book (from + l.next) c.value_byte.result ∙ l.invariant.2,
    )

pub shape_of-book : goal.shape_of-book
shape_of-book c = c.loop-next.invariant.2

pub returns : goal.returns
returns c =
    let l = c.loop-next in
    let s = c.args in
    let e : l.next ≡ length s.word.now = omega arith in
    l.invariant.1 ∙ ap (paste s.book.now s.from (map byte_of s.word.now)) e
