-- `recogniser::answer::answer_where` meets its contract: each answer is what the machine's row at that place shows.
-- Assumes nothing.
use Rattle.std.proofs.Common.{length, arith}
use Rattle.recogniser.proofs.Answered.{answer_foreign, answer_no_continuation, answer_unfinished, answer_syllables}
use Rattle.recogniser.proofs.answer.answer_where.Goals as goal

pub returns-in-Some : goal.returns-in-Some
returns-in-Some c =
    let s = c.args in
    let f = c.in-Some.ensures in
    answer_foreign s.word.now s.at s.waits s.count c.requires c.in-Some.place f.1 f.0

pub returns-in-None : goal.returns-in-None
returns-in-None c =
    let s = c.args in
    let f = c.in-None.ensures in
    answer_no_continuation s.word.now s.at s.waits s.count c.requires (length s.word.now) f c.if-at-word.true (omega arith)

pub returns-then-waits : goal.returns-then-waits
returns-then-waits c =
    answer_unfinished c.args.word.now c.args.at c.args.waits c.args.count c.requires c.if-at-word.false c.if-waits.true

pub returns : goal.returns
returns c =
    answer_syllables c.args.word.now c.args.at c.args.waits c.args.count c.requires c.if-at-word.false c.if-waits.false
