use mathlib.Core.List.{List}
use Rattle.entries.specs.Entries.{Entry}
use Rattle.book_check.specs.Chain.{Chained}
use Rattle.book_check.proofs.Chains.{Walked}
use Rattle.book_check.proofs.chain.is_repeated.Given as goal

abbrev pub invariant-loop-place : goal.invariant-loop-place
invariant-loop-place l = (entries : List Entry) → Chained l.book l.at entries l.heads l.links → Walked l.book l.at entries l.bucket l.place

abbrev pub decreases-loop-place : goal.decreases-loop-place
decreases-loop-place l = l.place
