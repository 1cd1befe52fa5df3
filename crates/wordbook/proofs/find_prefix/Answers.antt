-- `wordbook::find_prefix` meets its contract: the query's refusal, with nothing written, or what the book answers to its stored form.
-- Assumes nothing.
use Rattle.std.proofs.lemmas.Result.{err_from_is_err_and}
use mathlib.Core.Path.{refl, sym, subst}
use mathlib.Core.List.{List}
use Prim.Native.Nat.{ℕ}
use lib.Seq.{length-take-le}
use Rattle.recogniser.specs.Answer.{Readable}
use Rattle.refusals.specs.Outcome.{outcome_of}
use Rattle.refusals.specs.Output.{refused}
use Rattle.book_keys.specs.Filing.{row_of}
use Rattle.prefix_search.specs.Prefix.{PrefixRight}
use Rattle.wordbook.specs.Prefix.{query_refused}
use Rattle.wordbook.proofs.Stored.{stored_storable, form_fits, form_front}
use Rattle.wordbook.proofs.Prefix.{queried}
use Rattle.wordbook.proofs.find_prefix.Goals as goal

pub slice_bounds-values-end : goal.slice_bounds-values-end
slice_bounds-values-end c =
    form_fits c.in_ok-count.ensures

pub slice_bounds-find_prefix-end : goal.slice_bounds-find_prefix-end
slice_bounds-find_prefix-end c =
    sym (length-take-le _ _ (form_fits c.in_ok-count.ensures))

pub find_prefix-requires : goal.find_prefix-requires
find_prefix-requires c =
    let h = c.in_ok-count.ensures in
    subst Readable (sym (form_front h)) (stored_storable _ h.stored).readable

pub returns-in_err-count : goal.returns-in_err-count
returns-in_err-count c =
    let p = err_from_is_err_and c.from_residual.result c.from_residual.ensures.1 in rw (p.1, p.2) (refused (query_refused c.in_err-count.ensures.refused) refl)

pub returns : goal.returns
returns c =
    let s = c.args in
    let h = c.in_ok-count.ensures in
    let outcome = outcome_of c.find_prefix.result in
    queried s.book.now s.query.now s.starts.now _ outcome h.stored
    (subst (λ (w : List ℕ). PrefixRight s.book.now (row_of w) s.starts.now c.find_prefix.new.starts outcome) (form_front h)
    c.find_prefix.ensures)
