-- A pass over a word that is a row of syllables was one to its end: it has counted the row's syllables, and packed each.
-- Assumes nothing.
use mathlib.Core.Path.{◌≡◌, sym, subst, ◌∙◌}
use mathlib.Core.List.{List}
use Prim.Native.Nat.{ℕ}
use Rattle.std.specs.declared.result.Result.TheVariants.{Ok}
use Rattle.recogniser.specs.Answer.{Reads}
use Rattle.scanning.specs.declared.Scan.{Scan}
use Rattle.scanning.specs.Scanned.{Scanned}
use Rattle.scanning.proofs.Stopped.{kept_count, syllables_right}
use Rattle.reading.specs.Reading.{ReadRight, Passed}
use Rattle.reading.specs.declared.row.Reading.{Reading}

pub passed : (word : List ℕ) (scan : Scan) → Scanned word scan → (n : ℕ) → Reads word n → Passed word scan
passed word scan s n r =
    let counted : scan.count ≡ n = s.stopped.walked.count_is ∙ kept_count word scan.at scan.state scan.count s.stopped n r in
    record { reads = subst (Reads word) (sym counted) r; scanned = s }

pub pass_read : (word : List ℕ) (scan : Scan) → Passed word scan → (reading : Reading) → reading.count ≡ scan.count → reading.syllables ≡ scan.syllables
    → ReadRight word (Ok reading)
pass_read word scan p reading e f =
    record {
      answers = subst (Reads word) (sym e) p.reads;
      syllables =
          rw (e, f)
          (syllables_right word scan.at scan.state scan.count p.scanned.stopped scan.count p.reads scan.syllables p.scanned.whole);
    }
