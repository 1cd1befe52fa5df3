-- A chunk goes by as its lines are passed: what the next line needs holds whenever the output was written, and what was printed follows the bytes.
-- Assumes nothing.
use mathlib.Core.Path.{◌≡◌, refl, ap, sym, ◌∙◌}
use mathlib.Core.List.{List, [], ◌++◌, append_assoc, append-nil}
use Prim.Native.Nat.{ℕ, suc, ◌+◌, ◌*◌, ◌-◌, ◌≤◌, ◌<◌, ◌^◌}
use native.Mathlib.Nat.{suc-mul, mul-le-mul_right}
use native.Mathlib.Omega.{arith}
use lib.ListN.{length, take, drop, take-append-drop, length-append}
use lib.Seq.{slice, take_all, take-take, length-take-le}
use Rattle.line_splitting.specs.Taken.{held_limit, none, Ready}
use Rattle.line_splitting.specs.Following.{Follows, Passes}
use Rattle.line_splitting.specs.declared.Progress.{Progress}
use Rattle.line_splitting.proofs.Taking.{prints_append}
use Rattle.line_splitting.proofs.Following.{ended_none, ended_append, follows_count}
use Rattle.listing.specs.Running.{ChunkReady, Answered, Onward, Short, EndReady}
use Rattle.listing.specs.declared.running.OpenLine.{OpenLine}

-- a chunk's beginning
abbrev pub opening : OpenLine → Progress
opening current = record { at = 0; held = current.held; number = current.number; used = 0 }

-- the line that is open at a place of a chunk
abbrev pub open_at : Progress → OpenLine
open_at reached = record { held = reached.held; number = reached.number }

answered_none : {Answers : List ℕ → List ℕ → Type 0} {bytes text pending : List ℕ} {current : OpenLine} → Follows Answers bytes pending current.held current.number text
    → Answered Answers bytes [] text current pending current 0
answered_none {Answers} {bytes} {text} f = record {
  ended = record { text = []; prints = rw (ended_none bytes) none; count = refl };
  follows = rw (append-nil bytes, append-nil text) f;
}

take_further : (l : List ℕ) (from to : ℕ) → from ≤ to → take from l ++ slice from to l ≡ take to l
take_further l from to h = ap (λ (m : List ℕ). m ++ drop from (take to l)) (sym (take-take from to l h)) ∙ take-append-drop from (take to l)

-- one more part of a chunk, from an empty output on: what is ready then is printed for the lines that end in it
answered_more : {Answers : List ℕ → List ℕ → Type 0} {bytes text chunk pending pending_now out Pending_next out_next : List ℕ} {current : OpenLine} {reached next : Progress} {taken : ℕ} (size : ℕ)
    → reached.at ≤ next.at → reached.used ≡ 0 → size ≡ taken + next.used → Follows Answers bytes pending current.held current.number text
    → Answered Answers bytes (take reached.at chunk) text current pending_now (open_at reached) taken
    → Passes Answers chunk pending_now out reached Pending_next out_next next
    → Answered Answers bytes (take next.at chunk) text current Pending_next (open_at next) size
answered_more {bytes = bytes} {text} {chunk} {reached = reached} {next} size h empty total f a passes =
    let goes = passes.goes _ _ a.follows in
    let piece = slice reached.at next.at chunk in
    let whole : take reached.at chunk ++ piece ≡ take next.at chunk = take_further chunk reached.at next.at h in
    record {
      ended = record {
        text = a.ended.text ++ goes.more;
        prints =
            rw (← whole, ended_append bytes (take reached.at chunk) piece)
            (prints_append (reached.number + 1) (omega (arith, follows_count (take reached.at chunk) f a.follows)) a.ended.prints goes.prints);
        count = rw length-append (omega (arith, total, a.ended.count, goes.put.next, empty));
      };
      follows = rw (append_assoc bytes _ _, append_assoc text _ _, whole) at goes.follows;
    }

-- a place further on, with no more bytes than the output holds
counted_more : (at next taken used size : ℕ) → at < next → taken ≤ at * size → used ≤ size → taken + used ≤ next * size
counted_more at next taken used size h k l =
    let more : suc at * size ≤ next * size = mul-le-mul_right size (omega arith) in
    omega (arith, suc-mul at size)

-- how far a chunk is, and how many bytes the writes took: no more than the output holds, for each byte that was passed
pub record Passing (Answers : List ℕ → List ℕ → Type 0) (chunk : List ℕ) (pending : List ℕ) (out : List ℕ) (start : Progress) (pending_now : List ℕ) (out_now : List ℕ) (reached : Progress) (taken : ℕ) : Type 0 where
  pub within : reached.at ≤ length chunk
  pub held : reached.held ≤ held_limit
  pub empty : reached.used ≡ 0
  pub fewer : reached.number ≤ start.number + reached.at
  pub counted : taken ≤ reached.at * length out
  pub same_pending : length pending_now ≡ length pending
  pub same_out : length out_now ≡ length out
  pub answered : (bytes text : List ℕ) → Follows Answers bytes pending start.held start.number text
      → Answered Answers bytes (take reached.at chunk) text (open_at start) pending_now (open_at reached) taken

pub passing_none : {Answers : List ℕ → List ℕ → Type 0} {chunk pending out : List ℕ} {current : OpenLine} → ChunkReady chunk pending out current
    → Passing Answers chunk pending out (opening current) pending out (opening current) 0
passing_none {Answers} {chunk} {pending} {out} {current} ready = record {
  within = omega arith;
  held = ready.held;
  empty = refl;
  fewer = omega arith;
  counted = omega arith;
  same_pending = refl;
  same_out = refl;
  answered = λ bytes text f. answered_none f;
}

module _ {Answers : List ℕ → List ℕ → Type 0} {chunk pending out pending_now out_now : List ℕ} {current : OpenLine} {reached : Progress} {taken : ℕ}
    (ready : ChunkReady chunk pending out current) (p : Passing Answers chunk pending out (opening current) pending_now out_now reached taken) where
  pub passing_ready : Ready chunk pending_now out_now reached
  passing_ready = record {
    place = p.within;
    fits = omega (arith, p.same_pending, ready.fits);
    held = p.held;
    room = omega (arith, p.empty, p.same_out, ready.room);
    numbers = omega (arith, p.fewer, ready.numbers);
  }

  -- lines are passed, and some of what is ready is written
  module _ {Pending_next out_next : List ℕ} {next : Progress} (passes : Passes Answers chunk pending_now out_now reached Pending_next out_next next)
      (inside : reached.at < length chunk) (written : ℕ) where
    passing_counted : written ≤ next.used → taken + written ≤ next.at * length out
    passing_counted some =
        counted_more reached.at next.at taken written (length out) (passes.further inside) p.counted (omega (arith, passes.room, p.same_out))

    pub passing_fits : written ≤ next.used → taken + written < 2 ^ 64
    passing_fits some =
        let most : next.at * length out ≤ length chunk * length out = mul-le-mul_right (length out) passes.within in
        omega (arith, passing_counted some, ready.countable)

    passing_answered : (size : ℕ) → size ≡ taken + next.used → (bytes text : List ℕ) → Follows Answers bytes pending current.held current.number text
        → Answered Answers bytes (take next.at chunk) text current Pending_next (open_at next) size
    passing_answered size total bytes text f =
        let further : reached.at < next.at = passes.further inside in
        answered_more size (omega arith) p.empty total f (p.answered bytes text f) passes

    -- all of it
    pub passing_more : (used : ℕ) → written ≡ next.used → length Pending_next ≡ length pending_now → length out_next ≡ length out_now → used ≡ 0
        → Passing Answers chunk pending out (opening current) Pending_next out_next (record { at = next.at; held = next.held; number = next.number; used = used })
        (taken + written)
    passing_more used all same_pending same_out empty =
        let further : reached.at < next.at = passes.further inside in
        record {
          within = passes.within;
          held = passes.fits;
          empty = empty;
          fewer = omega (arith, passes.fewer, p.fewer);
          counted = passing_counted (omega arith);
          same_pending = same_pending ∙ p.same_pending;
          same_out = same_out ∙ p.same_out;
          answered = passing_answered (taken + written) (omega arith);
        }

    -- all but so many bytes
    pub passing_short : (missing : ℕ) → 0 < missing → written + missing ≡ next.used → Short Answers chunk pending current (taken + written) missing
    passing_short missing some parts = record {
      place = next.at;
      within = passes.within;
      some = some;
      answered = λ bytes text f. (passing_answered (taken + written + missing) (omega arith) bytes text f).ended;
    }

  pub passing_whole : length chunk ≤ reached.at → Onward Answers chunk pending current pending_now (open_at reached) taken
  passing_whole over = record {
    held = p.held;
    numbers = omega (arith, p.fewer, p.within);
    answered = λ bytes text f. rw (take_all reached.at chunk over) at (p.answered bytes text f);
  }

-- the bytes of a buffer of the code
abbrev buffer_size : ℕ
buffer_size = 65536

-- between two reads: each of the calls that are left brings no more lines than a chunk has bytes, and what was printed follows the bytes so far
pub record Going (Answers : List ℕ → List ℕ → Type 0) (chunk : List ℕ) (pending : List ℕ) (out : List ℕ) (current : OpenLine) (calls : ℕ) : Type 0 where
  pub chunk_size : buffer_size ≡ length chunk
  pub pending_size : held_limit ≡ length pending
  pub out_size : buffer_size ≡ length out
  pub held : current.held ≤ held_limit
  pub numbers : current.number + buffer_size * calls < 2 ^ 63
  pub bytes : List ℕ
  pub text : List ℕ
  pub follows : Follows Answers bytes pending current.held current.number text

module _ {Answers : List ℕ → List ℕ → Type 0} {chunk pending out : List ℕ} {current : OpenLine} {calls : ℕ} (going : Going Answers chunk pending out current calls) where
  pub going_end : EndReady pending out current
  going_end = record {
    fits = omega (arith, going.held, going.pending_size);
    room = omega (arith, going.out_size);
    numbers = omega (arith, going.numbers);
  }

  module _ (chunk_next : List ℕ) (count : ℕ) (same : length chunk_next ≡ length chunk) (within : count ≤ length chunk_next) where
    pub going_ready : ChunkReady (take count chunk_next) pending out current
    going_ready = record {
      fits = omega (arith, going.pending_size);
      held = going.held;
      room = omega (arith, going.out_size);
      numbers = omega (arith, length-take-le count chunk_next within, going.chunk_size, going.numbers);
      countable = rw (← going.out_size) (omega (arith, length-take-le count chunk_next within, going.chunk_size));
    }

    pub going_on : {Pending_next out_next : List ℕ} {next : OpenLine} {taken : ℕ} → 0 < calls → Onward Answers (take count chunk_next) pending current Pending_next next taken
        → length Pending_next ≡ length pending → length out_next ≡ length out → Going Answers chunk_next Pending_next out_next next (calls - 1)
    going_on {Pending_next} {out_next} {next} {taken} left onward same_pending same_out =
        let answered = onward.answered going.bytes going.text going.follows in
        record {
          chunk_size = going.chunk_size ∙ sym same;
          pending_size = going.pending_size ∙ sym same_pending;
          out_size = going.out_size ∙ sym same_out;
          held = onward.held;
          numbers = omega (arith, onward.numbers, length-take-le count chunk_next within, going.chunk_size, going.numbers);
          bytes = going.bytes ++ take count chunk_next;
          text = going.text ++ answered.ended.text;
          follows = answered.follows;
        }
