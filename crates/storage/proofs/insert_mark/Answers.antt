-- `storage::insert_mark` meets its contract: a mark goes behind those that rank below it, and what is no mark ranks above all.
-- Assumes nothing.
use Rattle.std.proofs.Common.{◌≡◌, ◌∙◌, refl, rules}
use Rattle.storage.specs.Stored.{itself, rank}
use Rattle.storage.proofs.Ranks.{behind_mark}
use Rattle.storage.proofs.insert_mark.Goals as goal

pub returns : goal.returns
returns c =
    c.insert_ranked.ensures itself
    (λ y r p. let e : r ≡ rank y = search rules in behind_mark _ _ c.requires.is_mark ∙ rw (e, c.rank.ensures) refl)
