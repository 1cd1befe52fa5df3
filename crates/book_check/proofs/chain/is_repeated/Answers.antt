-- `book_check::chain::is_repeated` meets its contract. The invariant: of every chained list of entries, the walk has passed no live record with
-- the word. The measure is the place.
-- Assumes nothing.
use mathlib.Core.Path.{sym, subst, ◌∙◌}
use Prim.Native.Nat.{ℕ, ◌-◌}
use native.Mathlib.Omega.{arith}
use Rattle.entries.specs.Entries.{word_at}
use Rattle.entries.proofs.Records.{framed_is}
use Rattle.book_check.proofs.Chains.{Walked, stand_at, walk_start, walk_next, walk_end, holds_at, compared}
use Rattle.book_check.proofs.chain.is_repeated.Goals as goal

pub loop-place-init : goal.loop-place-init
loop-place-init c = λ es ch. walk_start _ _ es _ _ _ _ ch c.requires.bucket_small c.from-place.ensures

pub word_of-requires : goal.word_of-requires
word_of-requires c = (c.requires.short, framed_is _ _ (stand_at c.requires c.loop-place.invariant c.loop-place-test.true).frame)

pub returns-then-eq : goal.returns-then-eq
returns-then-eq c =
    λ es ch.
    sym
    (holds_at c.args.book.now c.args.at es (c.loop-place.place - 1) (word_at c.args.book.now c.args.at) ch.drawn ((c.loop-place.invariant es ch).live c.loop-place-test.true)
    (compared c.args.book.now (c.loop-place.place - 1) c.args.at c.word_of.ensures c.word_of-word.ensures c.eq.ensures ∙ c.if-eq.true))

pub offset_bounds-links-start : goal.offset_bounds-links-start
offset_bounds-links-start c =
    let s = stand_at c.requires c.loop-place.invariant c.loop-place-test.true in
    omega (arith, s.frame.room, c.requires.short)

pub bounds-links-start : goal.bounds-links-start
bounds-links-start c =
    let s = stand_at c.requires c.loop-place.invariant c.loop-place-test.true in
    omega (arith, s.frame.room, c.requires.short)

pub loop-place-preserved : goal.loop-place-preserved
loop-place-preserved c =
    let other = compared c.args.book.now (c.loop-place.place - 1) c.args.at c.word_of.ensures c.word_of-word.ensures c.eq.ensures ∙ c.if-eq.false in
    λ es ch. (walk_next _ _ es _ _ _ _ _ ch (c.loop-place.invariant es ch) c.loop-place-test.true other c.from-place-in-loop-place.ensures).0

pub loop-place-smaller : goal.loop-place-smaller
loop-place-smaller c =
    let other = compared c.args.book.now (c.loop-place.place - 1) c.args.at c.word_of.ensures c.word_of-word.ensures c.eq.ensures ∙ c.if-eq.false in
    let r = c.requires in
    (walk_next _ _ r.list _ _ _ _ _ r.chained (c.loop-place.invariant r.list r.chained) c.loop-place-test.true other c.from-place-in-loop-place.ensures).1

pub returns : goal.returns
returns c =
    λ es ch.
    sym
    (walk_end _ _ es _ ch.drawn
    (subst (λ (h : ℕ). Walked c.args.book.now c.args.at es h c.loop-place.place) c.requires.bucket_is (c.loop-place.invariant es ch)) c.loop-place-test.false)
