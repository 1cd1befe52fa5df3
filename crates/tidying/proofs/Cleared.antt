-- The rest is filled with zeros: where the live records stand at the front, the buffer is then tidied. Assumes nothing.
use mathlib.Core.Path.{◌≡◌, sym, ap, ◌∙◌}
use mathlib.Core.List.{List, ◌++◌, append_assoc}
use Prim.Native.Nat.{ℕ, ◌+◌, ◌-◌, ◌≤◌}
use native.Mathlib.Omega.{arith}
use lib.ListN.{length, drop, length-append, length-replicate, replicate-append-replicate}
use lib.Seq.{sets, sets-eq, drop_at}
use Rattle.refusals.specs.Outcome.{accepts}
use Rattle.entries.specs.Book.{zeros, records, Opened}
use Rattle.entries.specs.Map.{live_ones}
use Rattle.entries.specs.Tidy.{live_length, records_tidied}
use Rattle.entries.proofs.Records.{end_length}
use Rattle.entries.proofs.Agree.{opened_is}
use Rattle.entries.proofs.Walk.{free_within}
use Rattle.entries.proofs.Tidied.{tidied_is}
use Rattle.tidying.specs.Tidy.{tidy_of, TidyRight, Closed}

module _ (b a : List ℕ) (free kept : ℕ) (o : Opened b free) (c : Closed b a free kept) where
  pub clear_fits : kept + (free - kept) ≤ length a
  clear_fits = omega (arith, c.within, c.long, free_within b free o)

  -- the free bytes are zeros
  free_zeros : drop free a ≡ zeros o.is_book.pad
  free_zeros =
      c.rest ∙ ap (drop free) o.is_book.written
      ∙ drop_at (records o.list) (zeros o.is_book.pad) free (let e : length (records o.list) ≡ free = omega (arith, end_length 0 o.list, o.end) in e)

  cleared : sets a kept (zeros (free - kept)) ≡ records_tidied o.list (length b)
  cleared =
      let gap : ℕ = free - kept in
      let front : List ℕ = records (live_ones o.list) in
      let long : length (zeros gap) ≡ gap = length-replicate {A = ℕ} gap 0 in
      let end : kept + length (zeros gap) ≡ free = omega (arith, c.within) in
      let pad : gap + o.is_book.pad ≡ length b - live_length o.list =
      omega (arith, c.within, c.counted o.list o.is_book, o.end, end_length 0 o.list, ap length o.is_book.written, length-append (records o.list) (zeros o.is_book.pad), length-replicate {A = ℕ} o.is_book.pad 0) in
      sets-eq (zeros gap) a kept (omega (arith, clear_fits))
      ∙ (λ i. (c.moved o.list o.is_book i ++ zeros gap) ++ drop (end i) a) ∙ ap (λ (l : List ℕ). (front ++ zeros gap) ++ l) free_zeros
      ∙ append_assoc front (zeros gap) (zeros o.is_book.pad)
      ∙ ap (λ (l : List ℕ). front ++ l) (replicate-append-replicate gap o.is_book.pad 0 ∙ ap zeros pad)

  pub cleared_right : (after : List ℕ) → after ≡ sets a kept (zeros (free - kept)) → TidyRight b after (accepts kept)
  cleared_right after e =
      record {
        answer = ap accepts (c.counted o.list o.is_book) ∙ sym (ap tidy_of (opened_is b free o));
        bytes = e ∙ cleared ∙ sym (tidied_is b o.list o.is_book);
      }
