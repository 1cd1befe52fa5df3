-- `wordbook::add` meets its contract: the word's refusal, with no byte changed, or what adding its stored form answers and writes.
-- Assumes nothing.
use Rattle.std.proofs.lemmas.Result.{err_from_is_err_and}
use mathlib.Core.Path.{refl, sym, subst}
use mathlib.Core.List.{List}
use Prim.Native.Nat.{ℕ}
use lib.ListN.{length}
use lib.Seq.{length-take-le}
use Rattle.refusals.specs.Outcome.{outcome_by}
use Rattle.planning.specs.Plan.{added_told}
use Rattle.storage.specs.Stored.{stored_form}
use Rattle.entries.specs.Entries.{entries}
use Rattle.entries.specs.Change.{Storable}
use Rattle.entries.specs.Outcome.{add_of}
use Rattle.book_change.specs.Written.{AddRight}
use Rattle.wordbook.specs.Calls.{CallAnswers, word_refused, word_stored}
use Rattle.wordbook.proofs.Stored.{stored_storable, form_fits, form_front}
use Rattle.wordbook.proofs.add.Goals as goal

pub slice_bounds-values-end : goal.slice_bounds-values-end
slice_bounds-values-end c =
    form_fits c.in_ok-count.ensures

pub slice_bounds-add-end : goal.slice_bounds-add-end
slice_bounds-add-end c =
    sym (length-take-le _ _ (form_fits c.in_ok-count.ensures))

pub add-requires : goal.add-requires
add-requires c =
    let h = c.in_ok-count.ensures in
    subst Storable (sym (form_front h)) (stored_storable _ h.stored)

pub returns-in_err-count : goal.returns-in_err-count
returns-in_err-count c =
    let p = err_from_is_err_and c.from_residual.result c.from_residual.ensures.1 in rw (p.1, p.2) (record { answers = word_refused c.in_err-count.ensures.refused; bytes = refl })

pub returns : goal.returns
returns c =
    let s = c.args in
    let h = c.in_ok-count.ensures in
    let outcome = outcome_by added_told c.add.result in
    let r : AddRight (stored_form s.word.now) s.stock s.book.now c.add.new.book outcome =
    subst (λ (w : List ℕ). AddRight w s.stock s.book.now c.add.new.book outcome) (form_front h) c.add.ensures in
    record {
      answers = subst (CallAnswers s.word.now (add_of (entries s.book.now) (length s.book.now) (stored_form s.word.now))) (sym r.answer) (word_stored h.stored);
      bytes = r.bytes;
    }
