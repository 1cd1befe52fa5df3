-- `typed_places::place_in_word` meets its contract. The loop's invariant: what stands so many further on from here is what is asked for.
-- Assumes nothing.
use Rattle.std.proofs.Common.{◌≡◌, ◌∙◌, ap, ℕ, suc, ◌+◌, ◌-◌, slice_get, take, length, arith}
use Rattle.std.proofs.lemmas.Grind.{common_steps}
use Rattle.std.proofs.lemmas.Option.{gets}
use Rattle.typed_places.proofs.Seeking.{seen, seen_first, seen_next, seen_now, seen_none}
use Rattle.typed_places.proofs.place_in_word.Goals as goal

pub loop-init : goal.loop-init
loop-init c =
    let s = c.args in
    let all : s.place - 0 ≡ s.place = omega arith in
    ap (seen s.word.now 0) all ∙ seen_first s.word.now s.place

pub returns-then-word-at : goal.returns-then-word-at
returns-then-word-at c = seen_none c.args.word.now c.loop.at (c.args.place - c.loop.counter) c.if-word-at.true ∙ c.loop.invariant

pub loop-preserved : goal.loop-preserved
loop-preserved c =
    let s = c.args in
    let left : ℕ = s.place - (c.loop.counter + 1) in
    let more : suc left ≡ s.place - c.loop.counter = omega arith in
    ap (λ (k : ℕ). seen s.word.now k left) c.next_kept-at.ensures
    ∙ seen_next s.word.now _ c.requires c.sorted_places-places.ensures c.loop.at left c.if-word-at.false
    ∙ ap (seen s.word.now c.loop.at) more
    ∙ c.loop.invariant

pub returns : goal.returns
returns c =
    let s = c.args in
    let none : 0 ≡ s.place - c.loop.counter = omega arith in
    let places = c.sorted_places-places.result in
    let found : c.copied.result ≡ slice_get (take (length s.word.now) places) c.loop.at = grind (arith, common_steps, gets) in
    found ∙ seen_now s.word.now places c.requires c.sorted_places-places.ensures c.loop.at ∙ ap (seen s.word.now c.loop.at) none ∙ c.loop.invariant
