-- Whatever pieces an input comes in, what is printed is that of its lines: each piece goes on where the one before stopped.
-- Assumes nothing.
use mathlib.Core.Path.{◌≡◌, refl, ap, sym, subst⁻¹, ◌∙◌}
use mathlib.Core.List.{List, [], ◌++◌}
use Prim.Native.Nat.{ℕ, ◌+◌}
use native.Mathlib.Omega.{arith}
use lib.ListN.{length, length-append}
use lib.Seq.{slice}
use Rattle.line_splitting.specs.Lines.{Cut, cut_from}
use Rattle.line_splitting.specs.Taken.{Prints, none, Taken}
use Rattle.line_splitting.specs.Following.{ended_in, Follows, Goes, Passes}
use Rattle.line_splitting.specs.declared.Progress.{Progress}
use Rattle.line_splitting.proofs.Cutting.{joined, cut_append, cut_none}
use Rattle.line_splitting.proofs.Taking.{prints_append}

-- before the first byte
pub follows_none : (Answers : List ℕ → List ℕ → Type 0) (pending : List ℕ) → Follows Answers [] pending 0 0 []
follows_none Answers pending = record {
  prints = rw (cut_none []) none;
  count = rw (cut_none []) refl;
  open_line = rw (cut_none []) (record { count = refl; bytes = refl });
}

-- no line ends in no bytes
pub ended_none : (bytes : List ℕ) → ended_in bytes [] ≡ []
ended_none bytes = ap (λ (cut : Cut). cut.ended) (cut_none (cut_from [] bytes).open_line)

-- the lines that end in a piece, and then in the next
pub ended_append : (bytes first second : List ℕ) → ended_in bytes (first ++ second) ≡ ended_in bytes first ++ ended_in (bytes ++ first) second
ended_append bytes first second =
    ap (λ (cut : Cut). cut.ended) (cut_append (cut_from [] bytes).open_line first second)
    ∙ ap (λ (cut : Cut). ended_in bytes first ++ (cut_from cut.open_line second).ended) (sym (cut_append [] bytes first))

-- the last line that ended has the number of the one before a piece and as many more as end in it
pub follows_count : {Answers : List ℕ → List ℕ → Type 0} {bytes text pending text_after pending_after : List ℕ} {held number held_after number_after : ℕ} (piece : List ℕ)
    → Follows Answers bytes pending held number text → Follows Answers (bytes ++ piece) pending_after held_after number_after text_after
    → number_after ≡ number + length (ended_in bytes piece)
follows_count {bytes = bytes} piece f g =
    g.count
    ∙ ap (λ (cut : Cut). length cut.ended) (cut_append [] bytes piece)
    ∙ length-append (cut_from [] bytes).ended (ended_in bytes piece)
    ∙ ap (λ (n : ℕ). n + length (ended_in bytes piece)) (sym f.count)

-- a piece whose lines were taken
pub follows_more : {Answers : List ℕ → List ℕ → Type 0} {bytes text chunk pending out pending_after out_after : List ℕ} {progress after : Progress}
    → Follows Answers bytes pending progress.held progress.number text → Taken Answers chunk pending out progress pending_after out_after after
    → Goes Answers bytes (slice progress.at after.at chunk) text out progress pending_after out_after after
follows_more {Answers} {bytes} {text} {chunk} {pending} {out} {pending_after} {out_after} {progress} {after} f taken =
    let p = taken.printed (cut_from [] bytes).open_line f.open_line in
    let e : cut_from [] (bytes ++ slice progress.at after.at chunk) ≡ joined (cut_from [] bytes) p.cut = cut_append [] bytes (slice progress.at after.at chunk) ∙ ap (joined (cut_from [] bytes)) p.follows in
    record {
      more = p.text;
      prints = subst⁻¹ (λ (cut : Cut). Prints Answers (progress.number + 1) cut.ended p.text) p.follows p.prints;
      put = p.put;
      follows = record {
        prints = rw e (prints_append (progress.number + 1) (omega (arith, f.count)) f.prints p.prints);
        count = rw (e, length-append) (omega (arith, f.count, p.number));
        open_line = rw e p.held;
      };
    }

pub taken_passes : {Answers : List ℕ → List ℕ → Type 0} {chunk pending out pending_after out_after : List ℕ} {progress after : Progress} → Taken Answers chunk pending out progress pending_after out_after after
    → Passes Answers chunk pending out progress pending_after out_after after
taken_passes {Answers} {chunk} {pending} {out} {pending_after} {out_after} {progress} {after} taken = record {
  further = taken.further;
  within = taken.within;
  fits = taken.fits;
  room = taken.room;
  fewer = taken.fewer;
  goes = λ bytes text f. follows_more f taken;
}
