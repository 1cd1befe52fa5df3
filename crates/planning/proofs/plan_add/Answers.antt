-- `planning::plan_add` meets its contract: where the word is not live, the record goes where there is room for it.
-- Assumes nothing.
use Rattle.std.proofs.Common.{ap, sym, subst, ◌∙◌, ◌+◌, length, Ok}
use Rattle.entries.specs.Limits.{head_size}
use Rattle.entries.specs.Entries.{Entries, entries}
use Rattle.entries.proofs.Agree.{opened_is}
use Rattle.lookup.specs.Look.{LookWithin}
use Rattle.planning.proofs.Plans.{add_by, placed_in, add_by_lem, length_told}
use Rattle.planning.proofs.plan_add.Goals as goal

pub plan_record-requires : goal.plan_record-requires
plan_record-requires c =
    let s = c.args in (
      subst (LookWithin s.book.now) c.in-Missing.is c.in_ok-found.ensures.within,
      λ list is. length_told s.book.now s.word.now list is _ _ (ap Ok (sym c.in-Missing.is) ∙ c.in_ok-found.ensures.answer),
    )

pub returns-in-Missing : goal.returns-in-Missing
returns-in-Missing c =
    let s = c.args in
    let b = s.book.now in
    let o = subst (LookWithin b) c.in-Missing.is c.in_ok-found.ensures.within in
    let r = c.plan_record.ensures in
    let size = head_size + length s.word.now in
    record {
      answer =
          r.answer o.list o.is_book ∙ sym (ap (λ (x : Entries). placed_in x (length b) size) (opened_is b _ o))
          ∙ ap (λ look. add_by look (placed_in (entries b) (length b) size)) (ap Ok (sym c.in-Missing.is) ∙ c.in_ok-found.ensures.answer)
          ∙ add_by_lem (entries b) (length b) s.word.now;
      within = r.within;
    }
