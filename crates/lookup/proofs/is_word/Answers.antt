-- `lookup::is_word` meets its contract: the lengths are compared, and then each byte's value with that of the word.
-- Assumes nothing.
use Rattle.std.proofs.Common.{rules, sym, ◌∙◌}
use Rattle.std.proofs.lemmas.Iterator.{YieldsList-from_slice, YieldsList-from_zip}
use Rattle.std.proofs.lemmas.Iterator.Search.{all_from_yields_List}
use borrow.Author.Tests.{tests}
use Rattle.lookup.proofs.Words.{is_value, each_same, other_length}
use Rattle.lookup.proofs.is_word.Goals as goal

pub returns-then-bytes-word : goal.returns-then-bytes-word
returns-then-bytes-word c = sym (other_length c.args.bytes.now c.args.word.now c.if-bytes-word.true)

pub returns : goal.returns
returns c =
    all_from_yields_List is_value c.all.new.self _ _ c.all.ensures.ran
    (YieldsList-from_zip (YieldsList-from_slice c.args.bytes.now cc) (YieldsList-from_slice c.args.word.now cc)) (λ x b q k. search (rules, tests))
    ∙ each_same c.args.bytes.now c.args.word.now c.if-bytes-word.false
