-- What rank and order answer, from what opening the buffer and sorting its records gave.
-- Assumes nothing.
use mathlib.Core.Path.{◌≡◌, refl, sym, ap, subst, ◌∙◌}
use mathlib.Core.Logic.{inl, inr}
use mathlib.Core.List.{List, [], ◌∷◌, ◌++◌}
use mathlib.Core.Option.{Option}
use Prim.Native.Nat.{ℕ, ◌+◌, ◌≤◌, ◌<◌}
use native.Mathlib.Omega.{arith}
use lib.ListN.{length, get_or, take, drop, replicate, length-append, length-replicate}
use lib.Seq.{take_at}
use Rattle.refusals.specs.Outcome.{Outcome, refuses}
use Rattle.refusals.specs.Output.{Puts, refused, too_short}
use Rattle.refusals.proofs.Putting.{puts_writes, puts_room}
use Rattle.entries.specs.Limits.{head_size}
use Rattle.entries.specs.Entries.{Entry, entry_at, Entries, entries}
use Rattle.entries.specs.Book.{size, end_of, GoodAfter, Opened}
use Rattle.entries.specs.Map.{live_count}
use Rattle.entries.specs.Outcome.{finds}
use Rattle.entries.proofs.Records.{end_length}
use Rattle.entries.proofs.Agree.{opened_is}
use Rattle.entries.proofs.Walk.{free_within}
use Rattle.book_check.specs.Opening.{opening_of, NoBook}
use Rattle.refusals.specs.Refusal.{number_of, place_of}
use Rattle.std.specs.Prelude.{Result, Ok}
use Rattle.refusals.specs.declared.Refusal.{Refusal}
use Rattle.book_check.specs.declared.open.Opening.{Opening}
use Rattle.book_keys.specs.Filing.{most_live}
use Rattle.book_keys.proofs.Live.{live_few}
use Rattle.book_fitting.specs.Fitting.{fits_key}
use Rattle.sorting.specs.Passing.{PutsPassing}
use Rattle.ranking.specs.Rank.{rank_of_entry, rank_of, starts_in_order, Among}
use Rattle.ranking.specs.Whole.{NotABook, not_a_book, BookOf, OrderRight}
use Rattle.ranking.proofs.InOrder.{all_in_order, starts_count, entry_there, none_there}
use Rattle.ranking.proofs.Laws.{rank_below}

-- an entry's record ends where that of the last does, or before
pub among_within : (at : ℕ) (seen list : List Entry) → GoodAfter at seen list → (e : Entry) → Among e list → e.start + size e ≤ end_of at list
among_within at seen [] g e m = absurd m
among_within at seen (x ∷ list) g e (inl p) =
    let n : e.start + size e ≡ x.start + size x = ap (λ (y : Entry). y.start + size y) p in
    omega (arith, g.0, end_length (at + size x) list)
among_within at seen (x ∷ list) g e (inr m) = among_within (at + size x) (seen ++ (x ∷ [])) list g.3 e m

-- a buffer that is no book
pub no_book : {bytes : List ℕ} {refusal : Refusal} (starts : List ℕ) → NoBook bytes refusal → OrderRight bytes starts starts (refuses (number_of refusal) (place_of refusal))
no_book {bytes} starts n = subst (λ (r : Refusal). OrderRight bytes starts starts (refuses (number_of r) (place_of r))) (sym n.is) (refused (not_a_book n.no_book) refl)

-- a book, opened, with the number of its live records
module _ {bytes : List ℕ} {opening : Opening} (o : Opened bytes opening.free) (answer : Ok opening ≡ opening_of (entries bytes)) where
  abbrev live : ℕ
  live = opening.live

  abbrev free : ℕ
  free = opening.free

  pub live_is : live ≡ live_count o.list
  live_is =
      let e : ◌≡◌ {A = Result Opening Refusal} (Ok opening) (Ok (record { live = live_count o.list; free = free })) = answer ∙ ap opening_of (opened_is bytes free o) in
      let same : ◌≡◌ {A = Opening} opening (record { live = live_count o.list; free = free }) = cc in
      ap (λ (x : Opening). x.live) same

  -- a list of as many as a book can have has room for their starts
  pub live_room : live ≤ length {A = ℕ} (replicate most_live 0)
  live_room = omega (arith, live_is, live_few _ o.list o.is_book, length-replicate {A = ℕ} most_live 0)

  pub too_high : (number : ℕ) → live ≤ number → refuses 15 live ≡ rank_of (entries bytes) number
  too_high number h =
      ap (refuses 15) live_is
      ∙ sym
      (ap (λ (e : Entries). rank_of e number) (opened_is bytes free o)
      ∙ ap (λ (x : Option Entry). rank_of_entry x (live_count o.list)) (none_there bytes o.list o.is_book number (omega (arith, live_is))))

  book_of : BookOf bytes o.list
  book_of = record { free = free; is = opened_is bytes free o }

  in_order_count : length (starts_in_order o.list) ≡ live
  in_order_count = starts_count bytes o.list o.is_book ∙ sym live_is

  -- the records are sorted into a list that has room for them
  module _ (starts after : List ℕ) (outcome : Outcome) (s : PutsPassing bytes (fits_key []) starts after outcome) (number : ℕ) (h : number < live)
      (room : live ≤ length starts) where
    written : after ≡ starts_in_order o.list ++ drop live starts
    written =
        puts_room (starts_in_order o.list) starts after outcome
        (subst (λ (l : List ℕ). Puts l starts after outcome) (all_in_order o.list) (s o.list o.is_book)) (omega (arith, in_order_count))
        ∙ ap (λ (n : ℕ). starts_in_order o.list ++ drop n starts) in_order_count

    pub found_there : finds (get_or after number 0) (entry_at bytes (get_or after number 0)).stock ≡ rank_of (entries bytes) number
    found_there =
        let long : live ≤ length after = omega (arith, ap length written, length-append (starts_in_order o.list) (drop live starts), in_order_count) in
        let front = ap (take live) written ∙ take_at (starts_in_order o.list) (drop live starts) live in_order_count in
        sym
        (ap (λ (e : Entries). rank_of e number) (opened_is bytes free o)
        ∙ ap (λ (x : Option Entry). rank_of_entry x (live_count o.list))
        (entry_there bytes o.list o.is_book number after live live_is long front (omega (arith, live_is))))

    pub start_within : get_or after number 0 + head_size ≤ length bytes
    start_within =
        let r = rank_below bytes o.list o.is_book number (omega (arith, live_is)) in
        let same : finds (get_or after number 0) (entry_at bytes (get_or after number 0)).stock ≡ finds r.entry.start r.entry.stock = found_there ∙ r.found in
        let start : get_or after number 0 ≡ r.entry.start = cc in
        omega (arith, among_within 0 [] o.list o.is_book.good r.entry r.among, o.end, free_within bytes free o)

  pub order_too_short : (starts : List ℕ) → length starts < live → OrderRight bytes starts starts (refuses 5 live)
  order_too_short starts h =
      subst (λ (n : ℕ). OrderRight bytes starts starts (refuses 5 n)) in_order_count
      (too_short {thing = o.list} book_of (omega (arith, in_order_count)) refl)

  pub order_put : (starts after : List ℕ) (outcome : Outcome) → PutsPassing bytes (fits_key []) starts after outcome → OrderRight bytes starts after outcome
  order_put starts after outcome s =
      puts_writes (NotABook bytes) (BookOf bytes) starts_in_order starts after o.list book_of _ (all_in_order o.list) outcome (s o.list o.is_book)
