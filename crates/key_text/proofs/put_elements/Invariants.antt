use lib.ListN.{length}
use Rattle.key_text.specs.Elements.{text_at}
use Rattle.key_text.proofs.Hyphens.{Further}
use Rattle.key_text.proofs.put_elements.Given as goal

abbrev pub invariant-loop-number : goal.invariant-loop-number
invariant-loop-number g l =
    let t = g.T.Element in
    Further (text_at t.text l.elements) l.between t.size (length l.elements) l.fn.out l.at l.out l.next l.number
