-- `typed_places::insert_place` meets its contract: a place goes behind those whose values rank below its own.
-- Assumes nothing.
use Rattle.std.proofs.Common.{◌≡◌, ◌∙◌, ap, nat_lt, arith, rules}
use Rattle.storage.specs.Stored.{rank}
use Rattle.storage.proofs.Ranks.{behind_rank}
use Rattle.typed_places.specs.Typed.{typed_at}
use Rattle.typed_places.proofs.insert_place.Goals as goal

pub returns : goal.returns
returns c =
    let word = c.args.word.now in
    c.insert_ranked.ensures (typed_at word)
    (λ y r p. let e : r ≡ rank (typed_at word y) = search rules in behind_rank _ _ ∙ rw (e, c.rank-own.ensures, c.typed_at.ensures) (ap (nat_lt _) (omega arith)))
