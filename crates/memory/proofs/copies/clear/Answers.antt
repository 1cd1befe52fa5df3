-- `memory::copies::clear` meets its contract: the part that is filled is a list of as many zeros.
-- Assumes nothing.
use Rattle.std.proofs.Common.{arith, ◌+◌, ◌-◌, ◌≡◌, length, take, drop, replicate, ℕ, ap, ◌∙◌, length-drop}
use lib.ListN.{length-replicate}
use lib.Seq.{length-take-le}
use Rattle.memory.proofs.Stores.{sets_part}
use Rattle.memory.proofs.copies.clear.Goals as goal

pub returns : goal.returns
returns c =
    let a = c.args in
    let b = a.bytes.now in
    let part : a.from + a.count - a.from ≡ a.count = omega arith in
    let long : length (take (a.from + a.count - a.from) (drop a.from b)) ≡ a.count =
    length-take-le _ (drop a.from b) (omega (arith, length-drop a.from b)) ∙ part in
    sets_part _ (replicate a.count 0) b a.from _ (c.fill.ensures.after (λ _ e. e) ∙ ap (λ (n : ℕ). replicate n 0) long)
    (omega (arith, length-replicate {A = ℕ} a.count 0)) (omega arith)
