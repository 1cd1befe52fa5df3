-- `transitions::classes::class_of` meets its contract: all values of an arm have its class, and a value of the chart that no arm has is foreign.
-- Assumes nothing.
use mathlib.Core.Path.{refl, sym}
use mathlib.Core.List.{List, [], reverse}
use Prim.Native.Nat.{ℕ}
use lib.ListN.{get_or}
use Rattle.letters.specs.Choice.{pick}
use Rattle.letters.proofs.Arms.{arms_of, same_at}
use Rattle.transitions.specs.Tables.{class_of}
use Rattle.transitions.proofs.Entered.{none_foreign}
use Rattle.transitions.proofs.classes.class_of.Lts as lts
use Rattle.transitions.proofs.classes.class_of.Goals as goal

-- the values of an arm
abbrev arm : ℕ → List ℕ
arm number = get_or (arms_of lts.body) number []

pub returns-in-4096 : goal.returns-in-4096
unfolding pick class_of
returns-in-4096 c = same_at class_of _ (arm 0) refl c.args.x c.in-4096.is

pub returns-in-4097 : goal.returns-in-4097
unfolding pick class_of
returns-in-4097 c = same_at class_of _ (arm 1) refl c.args.x c.in-4097.is

pub returns-in-4112 : goal.returns-in-4112
unfolding pick class_of
returns-in-4112 c = same_at class_of _ (arm 2) refl c.args.x c.in-4112.is

pub returns-in-4113 : goal.returns-in-4113
unfolding pick class_of
returns-in-4113 c = same_at class_of _ (arm 3) refl c.args.x c.in-4113.is

pub returns-in-4128 : goal.returns-in-4128
unfolding pick class_of
returns-in-4128 c = same_at class_of _ (arm 4) refl c.args.x c.in-4128.is

pub returns-in-4100 : goal.returns-in-4100
unfolding pick class_of
returns-in-4100 c = same_at class_of _ (arm 5) refl c.args.x c.in-4100.is

pub returns-in-4129 : goal.returns-in-4129
unfolding pick class_of
returns-in-4129 c = same_at class_of _ (arm 6) refl c.args.x c.in-4129.is

pub returns-in-4131 : goal.returns-in-4131
unfolding pick class_of
returns-in-4131 c = same_at class_of _ (arm 7) refl c.args.x c.in-4131.is

pub returns-in-4132 : goal.returns-in-4132
unfolding pick class_of
returns-in-4132 c = same_at class_of _ (arm 8) refl c.args.x c.in-4132.is

pub returns-in-4139 : goal.returns-in-4139
unfolding pick class_of
returns-in-4139 c = same_at class_of _ (arm 9) refl c.args.x c.in-4139.is

pub returns-in-4140 : goal.returns-in-4140
unfolding pick class_of
returns-in-4140 c = same_at class_of _ (arm 10) refl c.args.x c.in-4140.is

pub returns-in-4141 : goal.returns-in-4141
unfolding pick class_of
returns-in-4141 c = same_at class_of _ (arm 11) refl c.args.x c.in-4141.is

pub returns-in-4142 : goal.returns-in-4142
unfolding pick class_of
returns-in-4142 c = same_at class_of _ (arm 12) refl c.args.x c.in-4142.is

pub returns-in-4143 : goal.returns-in-4143
unfolding pick class_of
returns-in-4143 c = same_at class_of _ (arm 13) refl c.args.x c.in-4143.is

pub returns-in-4144 : goal.returns-in-4144
unfolding pick class_of
returns-in-4144 c = same_at class_of _ (arm 14) refl c.args.x c.in-4144.is

pub returns-in-4145 : goal.returns-in-4145
unfolding pick class_of
returns-in-4145 c = same_at class_of _ (arm 15) refl c.args.x c.in-4145.is

pub returns-in-4146 : goal.returns-in-4146
unfolding pick class_of
returns-in-4146 c = same_at class_of _ (arm 16) refl c.args.x c.in-4146.is

pub returns-in-4150 : goal.returns-in-4150
unfolding pick class_of
returns-in-4150 c = same_at class_of _ (arm 17) refl c.args.x c.in-4150.is

pub returns-in-4151 : goal.returns-in-4151
unfolding pick class_of
returns-in-4151 c = same_at class_of _ (arm 18) refl c.args.x c.in-4151.is

pub returns-in-4152 : goal.returns-in-4152
unfolding pick class_of
returns-in-4152 c = same_at class_of _ (arm 19) refl c.args.x c.in-4152.is

pub returns-in-4153 : goal.returns-in-4153
unfolding pick class_of
returns-in-4153 c = same_at class_of _ (arm 20) refl c.args.x c.in-4153.is

pub returns-in-4154 : goal.returns-in-4154
unfolding pick class_of
returns-in-4154 c = same_at class_of _ (arm 21) refl c.args.x c.in-4154.is

pub returns-in-4155 : goal.returns-in-4155
unfolding pick class_of
returns-in-4155 c = same_at class_of _ (arm 22) refl c.args.x c.in-4155.is

pub returns-in-4156 : goal.returns-in-4156
unfolding pick class_of
returns-in-4156 c = same_at class_of _ (arm 23) refl c.args.x c.in-4156.is

pub returns-in-4157 : goal.returns-in-4157
unfolding pick class_of
returns-in-4157 c = same_at class_of _ (arm 24) refl c.args.x c.in-4157.is

pub returns-in-4158 : goal.returns-in-4158
unfolding pick class_of
returns-in-4158 c = same_at class_of _ (arm 25) refl c.args.x c.in-4158.is

pub returns-in-4159 : goal.returns-in-4159
unfolding pick class_of
returns-in-4159 c = same_at class_of _ (arm 26) refl c.args.x c.in-4159.is

pub returns-in-4160 : goal.returns-in-4160
unfolding pick class_of
returns-in-4160 c = same_at class_of _ (arm 27) refl c.args.x c.in-4160.is

pub returns-in-4161 : goal.returns-in-4161
unfolding pick class_of
returns-in-4161 c = same_at class_of _ (arm 28) refl c.args.x c.in-4161.is

pub returns-in-4174 : goal.returns-in-4174
unfolding pick class_of
returns-in-4174 c = same_at class_of _ (arm 29) refl c.args.x c.in-4174.is

pub returns-in_default : goal.returns-in_default
returns-in_default c = sym (none_foreign (reverse (arms_of lts.body)) tt c.args.x c.in_default.in_default-own.rest)
