-- `planning::plan_record` meets its contract: the record fits behind the last one, or only behind the live ones, or nowhere.
-- Assumes nothing.
use mathlib.Core.Path.{ap, ◌∙◌}
use Prim.Native.Nat.{◌≤◌}
use native.Mathlib.Omega.{arith}
use lib.ListN.{length}
use Rattle.refusals.specs.Outcome.{refuses}
use Rattle.entries.specs.Outcome.{tidies_and_puts}
use Rattle.entries.proofs.Walk.{free_within}
use Rattle.planning.proofs.Behind.{live_within}
use Rattle.planning.proofs.Plans.{fits_tidied, full}
use Rattle.planning.proofs.plan_record.Goals as goal

pub overflow_sub-book : goal.overflow_sub-book
overflow_sub-book c = omega (arith, free_within _ _ c.requires.0)

pub overflow_sub-book-2 : goal.overflow_sub-book-2
overflow_sub-book-2 c =
    let length_within : c.args.length ≤ length c.args.book.now =
    let o = c.requires.0 in
    omega (arith, c.requires.1 o.list o.is_book, live_within o o.list o.is_book, free_within _ _ o) in
    length_within

pub returns-then-book-length : goal.returns-then-book-length
returns-then-book-length c =
    let length_within : c.args.length ≤ length c.args.book.now =
    let o = c.requires.0 in
    omega (arith, c.requires.1 o.list o.is_book, live_within o o.list o.is_book, free_within _ _ o) in
    let w = length_within in
    record {
      answer = λ list k.
          let e = c.requires.1 list k in
          ap (refuses 14) e ∙ full list c.args.free (length c.args.book.now) c.args.size (live_within c.requires.0 list k) (omega (arith, c.if-book-length.true));
      within = tt;
    }

pub returns : goal.returns
returns c =
    let length_within : c.args.length ≤ length c.args.book.now =
    let o = c.requires.0 in
    omega (arith, c.requires.1 o.list o.is_book, live_within o o.list o.is_book, free_within _ _ o) in
    let b = c.args.book.now in
    let o = c.requires.0 in
    let w = length_within in
    record {
      answer = λ list k.
          let e = c.requires.1 list k in
          ap tidies_and_puts e
          ∙ fits_tidied list c.args.free (length b) c.args.size (live_within c.requires.0 list k) (omega (arith, free_within _ _ o)) (omega (arith, c.if-book-length.false));
      within = (o, record { short = o.is_book.short; room = omega (arith, c.if-book-length.false) });
    }
