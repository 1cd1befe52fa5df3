-- Lines that are taken one after the other: what is printed and what is held follow the cut of the bytes.
-- Assumes nothing.
use mathlib.Core.Path.{◌≡◌, refl, ap, sym, subst, ◌∙◌}
use mathlib.Core.List.{List, [], ◌∷◌, ◌++◌, append_assoc, append-nil}
use Prim.Native.Nat.{ℕ, ◌+◌, ◌-◌, ◌≤◌, ◌<◌}
use native.Mathlib.Nat.{add-zero}
use native.Mathlib.Decide.{dec_lt}
use native.Mathlib.Omega.{arith}
use lib.ListN.{length, take, drop, length-append, length-take, length-drop, take-append-drop}
use lib.Seq.{sets-eq, slice, slice_empty, take_all, take-take, take-add, length-take-le, drop_at, drop-drop, drop-append-le, drop-length}
use borrow.Rule.Slice.PartMut.{mid_of, put_mid, Post-is}
use Rattle.memory.specs.Put.{Put, Written}
use Rattle.line_printing.specs.Printed.{Keeps, LinePut, printed, printed_limit}
use Rattle.line_splitting.specs.Taken.{held_limit, Held, Holds, EndFound, Prints, none, more, Ready, Printed, Taken}
use Rattle.line_splitting.specs.declared.Progress.{Progress}
use Rattle.memory.proofs.Putting.{put_nothing, put_after}
use Rattle.line_splitting.proofs.Cutting.{joined, cut_append, still, cut_none, plain_ends}

pub prints_append : {Answers : List ℕ → List ℕ → Type 0} {number : ℕ} {lines further : List (List ℕ)} {text rest : List ℕ} (next : ℕ) → next ≡ number + length lines
    → Prints Answers number lines text → Prints Answers next further rest → Prints Answers number (lines ++ further) (text ++ rest)
prints_append {Answers} {number} {lines} {further} {text} {rest} next e none q = subst (λ (n : ℕ). Prints Answers n further rest) (e ∙ add-zero number) q
prints_append {Answers} {number} {lines} {further} {text} {rest} next e (more one right p) q =
    rw append_assoc (more one right (prints_append next (omega arith) p q))

pub slice_join : (l : List ℕ) (a b c : ℕ) → a ≤ b → b ≤ c → c ≤ length l → slice a c l ≡ slice a b l ++ slice b c l
slice_join l a b c h k w =
    ap (drop a) (sym (take-append-drop b (take c l)))
    ∙ drop-append-le a (take b (take c l)) (drop b (take c l)) (rw (length-take, length-take) (omega arith))
    ∙ ap (λ (m : List ℕ). drop a m ++ drop b (take c l)) (take-take b c l k)

-- a part that ends at a place, as code makes it
pub part_slice : (l : List ℕ) (from end : ℕ) → from ≤ end → end ≤ length l → mid_of from (end - from) l ≡ slice from end l
part_slice l from end h k =
    let e : end ≡ from + (end - from) = omega arith in
    sym (ap (λ (n : ℕ). drop from (take n l)) e ∙ ap (drop from) (take-add from (end - from) l) ∙ drop_at (take from l) (take (end - from) (drop from l)) from (length-take-le from l (omega arith)))

module _ (out : List ℕ) (used : ℕ) (text after : List ℕ) (count : ℕ) (h : used ≤ length out) (same : length after ≡ length (mid_of used (length out - used) out)) (w : Written (mid_of used (length out - used) out) text after count) where
  rest_is : mid_of used (length out - used) out ≡ drop used out
  rest_is = take_all (length out - used) (drop used out) (rw length-drop (omega arith))

  pub part_fits : used + count ≤ length out
  part_fits =
      let size : length after ≡ length text + length (drop count (mid_of used (length out - used) out)) = ap length w.written ∙ length-append text _ in
      omega (arith, same, size, w.count, ap length rest_is, length-drop used out)

  -- what is written at the front of the part that begins at a place is written at that place
  pub part_put : Put out used text (put_mid used (length out - used) out after) (used + count)
  part_put =
      let counted : length text ≡ count = sym w.count in
      record {
        written =
            ap (λ (rest : List ℕ). take used out ++ (after ++ rest)) (Post-is used (length out) out h ∙ drop-length out)
            ∙ ap (λ (rest : List ℕ). take used out ++ rest) (append-nil after ∙ w.written ∙ ap (λ (rest : List ℕ). text ++ drop count rest) rest_is ∙ ap (λ (rest : List ℕ). text ++ rest) (drop-drop count used out))
            ∙ sym (append_assoc (take used out) text (drop (used + count) out))
            ∙ ap (λ (n : ℕ). take used out ++ text ++ drop (used + n) out) w.count
            ∙ sym (sets-eq text out used (rw counted part_fits));
        next = ap (λ (n : ℕ). used + n) w.count;
      }

-- one line, of which the first bytes were answered
pub prints_one : (Answers : List ℕ → List ℕ → Type 0) → Keeps Answers → (number : ℕ) (line pending : List ℕ) (held : ℕ) (text : List ℕ) → Held pending held line → Answers (take held pending) text
    → Prints Answers number (line ∷ []) (printed number text)
prints_one Answers kept number line pending held text h right =
    subst (Prints Answers number (line ∷ [])) (append-nil (printed number text))
    (more text (kept held_limit (omega arith) line text (rw h.bytes at right)) none)

-- lines between two places, and lines from there on
pub printed_more : {Answers : List ℕ → List ℕ → Type 0} {line chunk out pending_after out_after pending_last out_last : List ℕ} {start middle last : Progress}
    → start.at ≤ middle.at → middle.at ≤ last.at → last.at ≤ length chunk → (p : Printed Answers line chunk out start pending_after out_after middle)
    → Printed Answers p.cut.open_line chunk out_after middle pending_last out_last last → Printed Answers line chunk out start pending_last out_last last
printed_more {Answers} {line} {chunk} {out} {pending_after} {out_after} {pending_last} {out_last} {start} {middle} {last} h k w p q = record {
  text = p.text ++ q.text;
  cut = joined p.cut q.cut;
  follows =
      rw (slice_join chunk start.at middle.at last.at h k w, cut_append, p.follows, q.follows) refl;
  prints = prints_append (middle.number + 1) (omega (arith, p.number)) p.prints q.prints;
  put = put_after p.put q.put;
  number = rw length-append (omega (arith, p.number, q.number));
  held = q.held;
}

-- a chunk that ends within a line: all of it is held
pub taken_open : (Answers : List ℕ → List ℕ → Type 0) (chunk pending out : List ℕ) (progress : Progress) (pending_after : List ℕ) (end held : ℕ) → Ready chunk pending out progress
    → EndFound chunk progress.at end → Holds pending progress.held (mid_of progress.at (end - progress.at) chunk) pending_after held → end ≡ length chunk
    → Taken Answers chunk pending out progress pending_after out (record { at = end; held = held; number = progress.number; used = progress.used })
taken_open Answers chunk pending out progress pending_after end held ready found holds whole = record {
  forward = found.forward;
  further = λ h. omega arith;
  within = found.within;
  fits = holds.fits;
  room = omega (arith, ready.room);
  fewer = omega (arith, found.forward);
  printed = λ line l. record {
    text = [];
    cut = still (line ++ slice progress.at end chunk);
    follows = found.none line;
    prints = none;
    put = put_nothing out progress.used;
    number = omega arith;
    held = rw (part_slice chunk progress.at end found.forward found.within) at (holds.held line l);
  };
}

-- a line that ends in the chunk: it is printed, and the next one is open
pub taken_ended : (Answers : List ℕ → List ℕ → Type 0) → Keeps Answers → (chunk pending out : List ℕ) (progress : Progress) (pending_after rest : List ℕ) (end held count : ℕ) → Ready chunk pending out progress
    → EndFound chunk progress.at end → Holds pending progress.held (mid_of progress.at (end - progress.at) chunk) pending_after held → end < length chunk
    → length rest ≡ length (mid_of progress.used (length out - progress.used) out)
    → LinePut Answers (mid_of progress.used (length out - progress.used) out) (progress.number + 1) (take held pending_after) rest count
    → Taken Answers chunk pending out progress pending_after (put_mid progress.used (length out - progress.used) out rest)
    (record { at = end + 1; held = 0; number = progress.number + 1; used = progress.used + count })
taken_ended Answers kept chunk pending out progress pending_after rest end held count ready found holds inside same line_put = record {
  forward = omega (arith, found.forward);
  further = λ h. omega (arith, found.forward);
  within = omega arith;
  fits = omega arith;
  room = part_fits out progress.used _ rest count (omega (arith, ready.room)) same line_put.written;
  fewer = omega (arith, found.forward);
  printed = λ line l. record {
    text = printed (progress.number + 1) line_put.text;
    cut = record { ended = (line ++ slice progress.at end chunk) ∷ []; open_line = [] };
    follows = plain_ends chunk progress.at end found.forward inside found.none (found.there inside) line;
    prints =
        prints_one Answers kept (progress.number + 1) (line ++ slice progress.at end chunk) pending_after held line_put.text
        (rw (part_slice chunk progress.at end found.forward found.within) at (holds.held line l)) line_put.right;
    put = part_put out progress.used _ rest count (omega (arith, ready.room)) same line_put.written;
    number = omega arith;
    held = record { count = refl; bytes = refl };
  };
}

-- how far the loop over a chunk is
pub record Along (Answers : List ℕ → List ℕ → Type 0) (chunk : List ℕ) (pending : List ℕ) (out : List ℕ) (start : Progress) (pending_after : List ℕ) (out_after : List ℕ) (reached : Progress) : Type 0 where
  pub forward : start.at ≤ reached.at
  pub within : reached.at ≤ length chunk
  pub fits : reached.held ≤ held_limit
  pub room : reached.used ≤ length out
  pub fewer : reached.number + start.at ≤ start.number + reached.at
  pub moved : reached.at ≡ start.at → reached.used ≡ start.used
  pub same_pending : length pending_after ≡ length pending
  pub same_out : length out_after ≡ length out
  pub along : (line : List ℕ) → Held pending start.held line → Printed Answers line chunk out start pending_after out_after reached

pub along_none : (Answers : List ℕ → List ℕ → Type 0) (chunk pending out : List ℕ) (start : Progress) → Ready chunk pending out start → Along Answers chunk pending out start pending out start
along_none Answers chunk pending out start ready = record {
  forward = omega arith;
  within = ready.place;
  fits = ready.held;
  room = omega (arith, ready.room);
  fewer = omega arith;
  moved = λ e. refl;
  same_pending = refl;
  same_out = refl;
  along = λ line l. record {
    text = [];
    cut = still line;
    follows = rw slice_empty (cut_none line);
    prints = none;
    put = put_nothing out start.used;
    number = omega arith;
    held = l;
  };
}

module _ {Answers : List ℕ → List ℕ → Type 0} {chunk pending out pending_after out_after : List ℕ} {start reached : Progress} (ready : Ready chunk pending out start) (a : Along Answers chunk pending out start pending_after out_after reached) where
  pub along_ready : reached.used + printed_limit ≤ length out_after → Ready chunk pending_after out_after reached
  along_ready room = record {
    place = a.within;
    fits = omega (arith, a.same_pending, ready.fits);
    held = a.fits;
    room = room;
    numbers = omega (arith, ready.numbers, a.fewer, a.forward);
  }

  pub along_more : {pending_last out_last : List ℕ} {last : Progress} → reached.at < length chunk → Taken Answers chunk pending_after out_after reached pending_last out_last last
      → length pending_last ≡ length pending_after → length out_last ≡ length out_after → Along Answers chunk pending out start pending_last out_last last
  along_more {pending_last} {out_last} {last} inside taken same_pending same_out =
      let further : reached.at < last.at = taken.further inside in
      record {
        forward = omega (arith, a.forward);
        within = taken.within;
        fits = taken.fits;
        room = omega (arith, taken.room, a.same_out);
        fewer = omega (arith, taken.fewer, a.fewer);
        moved = λ e. let z : ⊥ = omega (arith, a.forward) in absurd z;
        same_pending = same_pending ∙ a.same_pending;
        same_out = same_out ∙ a.same_out;
        along = λ line l.
            let before = a.along line l in
            printed_more a.forward taken.forward taken.within before (taken.printed before.cut.open_line before.held);
      }

  pub along_taken : (reached.at < length chunk → length out_after < reached.used + printed_limit) → Taken Answers chunk pending out start pending_after out_after reached
  along_taken full = record {
    forward = a.forward;
    further = λ h. go (dec_lt start.at reached.at) h;
    within = a.within;
    fits = a.fits;
    room = a.room;
    fewer = a.fewer;
    printed = a.along;
  }
    where
      go : Dec (start.at < reached.at) → start.at < length chunk → start.at < reached.at
      go (yes l) h = l
      go (no l) h =
          let e : reached.at ≡ start.at = omega (arith, a.forward) in
          let z : ⊥ = omega (arith, a.moved e, full (omega arith), a.same_out, ready.room) in
          absurd z
