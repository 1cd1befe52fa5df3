-- `spelling::spell` meets its contract: the reading's syllables are those of the row that gives the word, and the two sizes say which case of `SpellRight` holds.
-- Assumes nothing.
use borrow.Author.Rules.{rules}
use lib.Seq.{take_all}
use Rattle.spelling.specs.Spell.{word_refused}
use Rattle.spelling.specs.Put.{Room}
use Rattle.spelling.proofs.Fronts.{room_front}
use Rattle.spelling.proofs.Answers.{syllables_few, spell_values_short, spell_starts_short, spell_room, spell_done}
use Rattle.spelling.proofs.spell.Goals as goal

pub measure-size-requires : goal.measure-size-requires
measure-size-requires c = search (rules, syllables_few) depth 14

pub returns-then-values-size : goal.returns-then-values-size
returns-then-values-size c = search (rules, spell_values_short) depth 14

pub returns-then-starts-count : goal.returns-then-starts-count
returns-then-starts-count c = search (rules, spell_starts_short) depth 14

pub put-requires : goal.put-requires
put-requires c =
    let room : Room c.row-syllables.result.now c.args.values.now c.args.starts.now = search (rules, spell_room) depth 14 in
    search (rules, room, room_front)

pub returns : goal.returns
returns c = search (rules, spell_done, take_all) depth 14

pub returns-in_err-reading : goal.returns-in_err-reading
returns-in_err-reading c = search (rules, word_refused) depth 14
