-- `storage::put_front` meets its contract: one test of ranks tells whether the value goes behind the first, and any other than 1025 stands before it as it is.
-- Assumes nothing.
use Prim.Native.Nat.{◌%◌, ◌<◌}
use native.Mathlib.Omega.{arith}
use lib.ListN.{drop}
use Rattle.storage.specs.Stored.{rank}
use Rattle.storage.proofs.Holding.{behind_first, mark_put, value_put}
use Rattle.storage.proofs.put_front.Goals as goal

pub insert_mark-requires : goal.insert_mark-requires
insert_mark-requires c =
    let behind : c.args.front.rank < rank c.args.x % 16 =
    rw c.rank-own.ensures at c.if-front-own.true in
    record {
      table = c.requires.table;
      long = c.requires.room.long;
      within = omega (arith, c.requires.room.some, c.requires.room.within);
      is_mark = (behind_first c.args.x (drop c.args.front.place c.args.values.now) (rw c.requires.ranked at behind)).0;
    }

pub returns-then-front-own : goal.returns-then-front-own
returns-then-front-own c =
    let behind : c.args.front.rank < rank c.args.x % 16 =
    rw c.rank-own.ensures at c.if-front-own.true in
    mark_put _ _ _ _ _ c.requires.room c.requires.ranked behind c.insert_mark.ensures

pub returns-then-x-eq-VOWEL_U : goal.returns-then-x-eq-VOWEL_U
returns-then-x-eq-VOWEL_U c = rw c.if-x-eq-VOWEL_U.true c.put_vowel.ensures

pub returns : goal.returns
returns c =
    value_put _ _ _ _ _ c.requires.room c.rank-own.ensures c.requires.ranked (rw c.rank-own.ensures at c.if-front-own.false) c.if-x-eq-VOWEL_U.false
