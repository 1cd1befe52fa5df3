-- `ranking::rank` meets its contract: the record at `number` of those in word order, or the live count where there is none.
-- Assumes nothing.
use Rattle.std.proofs.Common.{ap, ◌∙◌, ℕ, replicate, arith}
use lib.ListN.{length-replicate}
use Rattle.refusals.specs.Outcome.{outcome_of}
use Rattle.entries.specs.Entries.{entry_at}
use Rattle.entries.specs.Outcome.{finds}
use Rattle.book_keys.specs.Filing.{most_live}
use Rattle.ranking.proofs.Answers.{live_room, too_high, found_there, start_within}
use Rattle.ranking.proofs.rank.Goals as goal

pub returns-then-opening-number : goal.returns-then-opening-number
returns-then-opening-number c =
    let r = c.in_ok-opening.ensures in
    too_high r.opened r.answer c.args.number (omega (arith, c.if-opening-number.true))

pub offset_bounds-starts-number : goal.offset_bounds-starts-number
offset_bounds-starts-number c =
    let r = c.in_ok-opening.ensures in
    omega (arith, live_room r.opened r.answer, c.if-opening-number.false, length-replicate {A = ℕ} most_live 0)

pub bounds-starts-number : goal.bounds-starts-number
bounds-starts-number c =
    let r = c.in_ok-opening.ensures in
    omega (arith, live_room r.opened r.answer, c.if-opening-number.false, length-replicate {A = ℕ} most_live 0)

pub stock_at-stock-requires : goal.stock_at-stock-requires
stock_at-stock-requires c =
    let r = c.in_ok-opening.ensures in (
      r.opened.is_book.short,
      rw c.from-start.ensures
          (start_within r.opened r.answer (replicate most_live 0) _ (outcome_of c.sort_records.result) c.sort_records.ensures c.args.number c.if-opening-number.false
          (live_room r.opened r.answer)),
    )

pub returns : goal.returns
returns c =
    let r = c.in_ok-opening.ensures in
    let a = c.args in
    let place = c.from-start.ensures in
    let stock = c.stock_at-stock.ensures ∙ ap (λ (s : ℕ). (entry_at a.book.now s).stock) place in
    (λ i. finds (place i) (stock i))
    ∙ found_there r.opened r.answer (replicate most_live 0) _ (outcome_of c.sort_records.result) c.sort_records.ensures a.number
    c.if-opening-number.false (live_room r.opened r.answer)
