-- `recogniser::foreign::is_foreign` meets its contract: a value is admitted unless its kind is foreign.
-- Assumes nothing.
use Rattle.std.proofs.Common.{◌≡◌, Bool, true, false, not, refl, ap, sym, ◌∙◌}
use Rattle.letters.proofs.Counted.{unadmitted_foreign, foreign_unadmitted}
use Rattle.letters.specs.Letters.{is_admitted}
use Rattle.recogniser.specs.Concluded.{is_foreign}
use Rattle.recogniser.proofs.foreign.is_foreign.Goals as goal

-- the test fails, since it can't pass
unless : (b : Bool) → (b ≡ false → ⊥) → false ≡ not b
unless true n = refl
unless false n = absurd (n refl)

pub returns-in-Foreign : goal.returns-in-Foreign
unfolding is_foreign
returns-in-Foreign c = ap not (sym (foreign_unadmitted c.args.x (sym c.kind_of.ensures ∙ c.in-Foreign.is)))

pub returns-in_default : goal.returns-in_default
unfolding is_foreign
returns-in_default c =
    unless (is_admitted c.args.x) (λ (e : is_admitted c.args.x ≡ false). c.in_default.not-Foreign (c.kind_of.ensures ∙ unadmitted_foreign c.args.x e))
