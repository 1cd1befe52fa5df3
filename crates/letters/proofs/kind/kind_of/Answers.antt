-- `letters::kind::kind_of` meets its contract: all values of an arm have its kind, and a value of the chart that no arm has is not admitted.
-- Assumes nothing.
use mathlib.Core.Path.{◌≡◌, refl, sym}
use mathlib.Core.Bool.{Bool, not, ◌||◌}
use mathlib.Core.List.{List, [], reverse}
use Prim.Native.Nat.{ℕ, ◌<◌}
use native.Mathlib.Decide.{dec_lt}
use native.Mathlib.Omega.{arith}
use lib.ListN.{get_or}
use Rattle.letters.specs.Choice.{pick}
use Rattle.letters.specs.Letters.{kind_of, is_admitted}
use Rattle.letters.specs.declared.kind.Kind.TheVariants.{Foreign}
use Rattle.letters.proofs.Arms.{arms_of, same_at, in_arms, InNone, in_none}
use Rattle.letters.proofs.Counted.{on_chart, unadmitted_foreign, below_foreign, above_foreign}
use Rattle.letters.proofs.Tests.{or_not}
use Rattle.letters.proofs.kind.kind_of.Lts as lts
use Rattle.letters.proofs.kind.kind_of.Goals as goal

-- the values of an arm
abbrev arm : ℕ → List ℕ
arm number = get_or (arms_of lts.body) number []

-- an arm has the value, or it is not admitted
covered : ℕ → Bool
covered x = in_arms (reverse (arms_of lts.body)) x || not (is_admitted x)

none_foreign : (x : ℕ) → InNone (reverse (arms_of lts.body)) x → kind_of x ≡ Foreign
unfolding covered
none_foreign x n = go (dec_lt x 0x1000) (dec_lt 0x104F x)
  where
    go : Dec (x < 0x1000) → Dec (0x104F < x) → kind_of x ≡ Foreign
    go (yes l) d = below_foreign x l
    go (no l) (yes h) = above_foreign x h
    go (no l) (no h) =
        unadmitted_foreign x
        (or_not (in_arms (reverse (arms_of lts.body)) x) (is_admitted x) (on_chart covered tt x (omega arith) (omega arith)) (in_none (reverse (arms_of lts.body)) x n))

pub returns-in-4096 : goal.returns-in-4096
unfolding pick
returns-in-4096 c = same_at kind_of _ (arm 0) refl c.args.x c.in-4096.is

pub returns-in-4097 : goal.returns-in-4097
unfolding pick
returns-in-4097 c = same_at kind_of _ (arm 1) refl c.args.x c.in-4097.is

pub returns-in-4112 : goal.returns-in-4112
unfolding pick
returns-in-4112 c = same_at kind_of _ (arm 2) refl c.args.x c.in-4112.is

pub returns-in-4113 : goal.returns-in-4113
unfolding pick
returns-in-4113 c = same_at kind_of _ (arm 3) refl c.args.x c.in-4113.is

pub returns-in-4128 : goal.returns-in-4128
unfolding pick
returns-in-4128 c = same_at kind_of _ (arm 4) refl c.args.x c.in-4128.is

pub returns-in-4129 : goal.returns-in-4129
unfolding pick
returns-in-4129 c = same_at kind_of _ (arm 5) refl c.args.x c.in-4129.is

pub returns-in-4132 : goal.returns-in-4132
unfolding pick
returns-in-4132 c = same_at kind_of _ (arm 6) refl c.args.x c.in-4132.is

pub returns-in-4131 : goal.returns-in-4131
unfolding pick
returns-in-4131 c = same_at kind_of _ (arm 7) refl c.args.x c.in-4131.is

pub returns-in-4140 : goal.returns-in-4140
unfolding pick
returns-in-4140 c = same_at kind_of _ (arm 8) refl c.args.x c.in-4140.is

pub returns-in-4139 : goal.returns-in-4139
unfolding pick
returns-in-4139 c = same_at kind_of _ (arm 9) refl c.args.x c.in-4139.is

pub returns-in-4152 : goal.returns-in-4152
unfolding pick
returns-in-4152 c = same_at kind_of _ (arm 10) refl c.args.x c.in-4152.is

pub returns-in-4151 : goal.returns-in-4151
unfolding pick
returns-in-4151 c = same_at kind_of _ (arm 11) refl c.args.x c.in-4151.is

pub returns-in-4153 : goal.returns-in-4153
unfolding pick
returns-in-4153 c = same_at kind_of _ (arm 12) refl c.args.x c.in-4153.is

pub returns-in-4154 : goal.returns-in-4154
unfolding pick
returns-in-4154 c = same_at kind_of _ (arm 13) refl c.args.x c.in-4154.is

pub returns-in-4156 : goal.returns-in-4156
unfolding pick
returns-in-4156 c = same_at kind_of _ (arm 14) refl c.args.x c.in-4156.is

pub returns-in-4155 : goal.returns-in-4155
unfolding pick
returns-in-4155 c = same_at kind_of _ (arm 15) refl c.args.x c.in-4155.is

pub returns-in-4159 : goal.returns-in-4159
unfolding pick
returns-in-4159 c = same_at kind_of _ (arm 16) refl c.args.x c.in-4159.is

pub returns-in-4160 : goal.returns-in-4160
unfolding pick
returns-in-4160 c = same_at kind_of _ (arm 17) refl c.args.x c.in-4160.is

pub returns-in-4161 : goal.returns-in-4161
unfolding pick
returns-in-4161 c = same_at kind_of _ (arm 18) refl c.args.x c.in-4161.is

pub returns-in-4170 : goal.returns-in-4170
unfolding pick
returns-in-4170 c = same_at kind_of _ (arm 19) refl c.args.x c.in-4170.is

pub returns-in-4171 : goal.returns-in-4171
unfolding pick
returns-in-4171 c = same_at kind_of _ (arm 20) refl c.args.x c.in-4171.is

pub returns-in-4172 : goal.returns-in-4172
unfolding pick
returns-in-4172 c = same_at kind_of _ (arm 21) refl c.args.x c.in-4172.is

pub returns-in-4173 : goal.returns-in-4173
unfolding pick
returns-in-4173 c = same_at kind_of _ (arm 22) refl c.args.x c.in-4173.is

pub returns-in_default : goal.returns-in_default
returns-in_default c = sym (none_foreign c.args.x c.in_default.in_default-own.rest)
