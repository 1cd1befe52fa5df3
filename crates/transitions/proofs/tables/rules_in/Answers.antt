-- `transitions::tables::rules_in` meets its contract: each arm is what its class does, as antt computes it.
-- Assumes nothing.
use mathlib.Core.Path.{refl, sym}
use mathlib.Core.List.{reverse}
use Rattle.letters.specs.Choice.{pick}
use Rattle.letters.proofs.Arms.{arms_of}
use Rattle.formula.specs.Syllable.{carries_marks, carries_final}
use Rattle.transitions.specs.Tables.{rules_in}
use Rattle.transitions.proofs.Entered.{no_rules}
use Rattle.transitions.proofs.tables.rules_in.Lts as lts
use Rattle.transitions.proofs.tables.rules_in.Goals as goal

pub returns-in-0 : goal.returns-in-0
unfolding rules_in pick carries_marks carries_final
returns-in-0 c = rw c.in-0.is refl

pub returns-in-1 : goal.returns-in-1
unfolding rules_in pick carries_marks carries_final
returns-in-1 c = rw c.in-1.is refl

pub returns-in-2 : goal.returns-in-2
unfolding rules_in pick carries_marks carries_final
returns-in-2 c = rw c.in-2.is refl

pub returns-in-3 : goal.returns-in-3
unfolding rules_in pick carries_marks carries_final
returns-in-3 c = rw c.in-3.is refl

pub returns-in-4 : goal.returns-in-4
unfolding rules_in pick carries_marks carries_final
returns-in-4 c = rw c.in-4.is refl

pub returns-in-5 : goal.returns-in-5
unfolding rules_in pick carries_marks carries_final
returns-in-5 c = rw c.in-5.is refl

pub returns-in-6 : goal.returns-in-6
unfolding rules_in pick carries_marks carries_final
returns-in-6 c = rw c.in-6.is refl

pub returns-in-7 : goal.returns-in-7
unfolding rules_in pick carries_marks carries_final
returns-in-7 c = rw c.in-7.is refl

pub returns-in-8 : goal.returns-in-8
unfolding rules_in pick carries_marks carries_final
returns-in-8 c = rw c.in-8.is refl

pub returns-in-9 : goal.returns-in-9
unfolding rules_in pick carries_marks carries_final
returns-in-9 c = rw c.in-9.is refl

pub returns-in-10 : goal.returns-in-10
unfolding rules_in pick carries_marks carries_final
returns-in-10 c = rw c.in-10.is refl

pub returns-in-11 : goal.returns-in-11
unfolding rules_in pick carries_marks carries_final
returns-in-11 c = rw c.in-11.is refl

pub returns-in-12 : goal.returns-in-12
unfolding rules_in pick carries_marks carries_final
returns-in-12 c = rw c.in-12.is refl

pub returns-in-13 : goal.returns-in-13
unfolding rules_in pick carries_marks carries_final
returns-in-13 c = rw c.in-13.is refl

pub returns-in-14 : goal.returns-in-14
unfolding rules_in pick carries_marks carries_final
returns-in-14 c = rw c.in-14.is refl

pub returns-in-15 : goal.returns-in-15
unfolding rules_in pick carries_marks carries_final
returns-in-15 c = rw c.in-15.is refl

pub returns-in-16 : goal.returns-in-16
unfolding rules_in pick carries_marks carries_final
returns-in-16 c = rw c.in-16.is refl

pub returns-in-17 : goal.returns-in-17
unfolding rules_in pick carries_marks carries_final
returns-in-17 c = rw c.in-17.is refl

pub returns-in-18 : goal.returns-in-18
unfolding rules_in pick carries_marks carries_final
returns-in-18 c = rw c.in-18.is refl

pub returns-in-19 : goal.returns-in-19
unfolding rules_in pick carries_marks carries_final
returns-in-19 c = rw c.in-19.is refl

pub returns-in-20 : goal.returns-in-20
unfolding rules_in pick carries_marks carries_final
returns-in-20 c = rw c.in-20.is refl

pub returns-in-21 : goal.returns-in-21
unfolding rules_in pick carries_marks carries_final
returns-in-21 c = rw c.in-21.is refl

pub returns-in-22 : goal.returns-in-22
unfolding rules_in pick carries_marks carries_final
returns-in-22 c = rw c.in-22.is refl

pub returns-in-23 : goal.returns-in-23
unfolding rules_in pick carries_marks carries_final
returns-in-23 c = rw c.in-23.is refl

pub returns-in_default : goal.returns-in_default
returns-in_default c = sym (no_rules (reverse (arms_of lts.body)) tt c.args.class c.in_default.in_default-own.rest)
