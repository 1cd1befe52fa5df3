-- The answer where a pass has stopped is right: what the machine kept is the word's row, or shows that there is none.
-- Assumes nothing.
use mathlib.Core.Path.{◌≡◌, refl, subst, sym, ◌∙◌}
use mathlib.Core.Bool.{Bool, true, false, not}
use mathlib.Core.List.{List, [], append-nil, reverse}
use mathlib.Core.Option.{some}
use Prim.Native.Nat.{ℕ, ◌≤◌, ◌<◌}
use native.Mathlib.Decide.{dec_lt}
use native.Mathlib.Omega.{arith}
use lib.Dec.{T}
use lib.ListN.{length, get_or, take, length-take, length-reverse}
use lib.Seq.{take_all, get_or-take}
use Rattle.letters.specs.Letters.{is_admitted}
use Rattle.formula.proofs.Lists.{every_at}
use Rattle.formula.specs.Syllable.{is_closed}
use Rattle.formula.specs.Row.{Row, Gives, Viable}
use Rattle.rows.specs.Machine.{end_of, run}
use Rattle.rows.proofs.Sound.{sound}
use Rattle.rows.proofs.Admitted.{run_admitted}
use Rattle.rows.proofs.Viable.{read_back, only_row, unfinished, alive, stops, longest}
use Rattle.std.specs.Result.{is_ok}
use Rattle.std.specs.declared.result.Result.{Result}
use Rattle.std.specs.declared.result.Result.TheVariants.{Ok, Err}
use Rattle.refusals.specs.declared.Refusal.{Refusal}
use Rattle.refusals.specs.Refusal.{number_of, place_of}
use Rattle.refusals.specs.Outcome.{outcome_of}
use Rattle.recogniser.specs.Answer.{Answers, RowTest, AdmissibleWithin, Admissible, RefusedWithin, RefusedWith, too_long, foreign, no_continuation, unfinished as open_end, ReadsWithin, Reads, ReadableWithin, Readable}
use Rattle.recogniser.specs.Concluded.{AdmittedTo, Halted}

-- whether a test of the row's last final passes
untrue : (b : Bool) → true ≡ not b → T b → ⊥
untrue true e t = subst T e tt
untrue false e t = t

true_of : (b : Bool) → false ≡ not b → T b
true_of true e = tt
true_of false e = subst T (sym e) tt

module _ (word : List ℕ) (at : ℕ) (waits : Bool) (count : ℕ) (s : Halted word at waits count) where
  -- the values before the place where the pass stopped
  passed : (k : ℕ) → k < at → T (is_admitted (get_or word k 0))
  passed k h =
      subst (λ (x : ℕ). T (is_admitted x)) (get_or-take at word k 0 h)
      (every_at is_admitted (take at word) (run_admitted (take at word) [] s.kept s.came) k (let i = s.within in omega (arith, length-take at word)))

  -- and those up to the first foreign one
  admitted_before : (place : ℕ) → AdmittedTo word at place → (k : ℕ) → k < place → T (is_admitted (get_or word k 0))
  admitted_before place f k h = go (dec_lt k at)
    where
      go : Dec (k < at) → T (is_admitted (get_or word k 0))
      go (yes i) = passed k i
      go (no i) = f.before k (omega arith) h

  pub answer_foreign : (place : ℕ) → AdmittedTo word at place → place < length word → RefusedWith word 2 place
  answer_foreign place f h =
      foreign (record { short = s.short; within = h; foreign = f.foreign h; before = admitted_before place f })

  pub answer_no_continuation : (place : ℕ) → AdmittedTo word at place → at < length word → length word ≤ place → RefusedWith word 3 at
  answer_no_continuation place f h i =
      no_continuation (record { short = s.short; admitted = λ k j. admitted_before place f k (omega arith) })
      (λ v. stops word at s.kept h s.came (s.refused h) (length word) h (subst Viable (sym (take_all (length word) word (omega arith))) v))
      (longest word at s.kept h s.came (s.refused h))

  module _ (end : length word ≤ at) where
    whole : take at word ≡ word
    whole = take_all at word end

    came_whole : run word [] ≡ some s.kept
    came_whole = subst (λ (w : List ℕ). run w [] ≡ some s.kept) whole s.came

    all_admitted : Admissible word
    all_admitted = record { short = s.short; admitted = λ k h. passed k (omega arith) }

    at_end_lem : at ≡ length word
    at_end_lem = let i = s.within in omega arith

    pub answer_unfinished : waits ≡ true → RefusedWith word 4 at
    answer_unfinished e =
        subst (RefusedWith word 4) (sym at_end_lem)
        (open_end all_admitted
        (unfinished word s.kept came_whole (untrue (is_closed (end_of s.kept)) (sym e ∙ s.waits_is))) (alive word s.kept came_whole))

    gives_kept : waits ≡ false → Gives (reverse s.kept) word
    gives_kept e = sound word s.kept came_whole (true_of (is_closed (end_of s.kept)) (sym e ∙ s.waits_is))

    pub answer_syllables : waits ≡ false → Reads word count
    answer_syllables e =
        record {
          admissible = all_admitted;
          row = reverse s.kept;
          gives = gives_kept e;
          only = λ other g. only_row other (reverse s.kept) word g (gives_kept e);
          count = length-reverse s.kept ∙ sym s.count_is;
        }

-- a row that gives the word shows that it is viable
pub row_viable : (row : Row) (word : List ℕ) → Gives row word → Viable word
row_viable row word g = record { continuation = []; by = row; gives = record { is_row = g.is_row; joined = g.joined ∙ sym (append-nil word) } }

-- the values of a row are admitted, so a word within the limit that a row gives is read as the row
pub row_reads : {most : ℕ} (row : Row) (word : List ℕ) → Gives row word → length word ≤ most → ReadsWithin most word (length row)
row_reads row word g short =
    record {
      admissible = record { short = short; admitted = every_at is_admitted word (run_admitted word [] (reverse row) (read_back row word g)) };
      row = row;
      gives = g;
      only = λ other h. only_row other row word h g;
      count = refl;
    }

-- a word that is read is a row, of however many syllables
pub reads_readable : {most : ℕ} (word : List ℕ) (n : ℕ) → ReadsWithin most word n → ReadableWithin most word
reads_readable word n r = record { admissible = r.admissible; row = r.row; gives = r.gives; only = r.only }

-- a refused word of admitted values within the limit is given by no row
pub refused_no_row : {most : ℕ} (word : List ℕ) (number place : ℕ) → RefusedWithin most word number place → AdmissibleWithin most word → (row : Row)
    → Gives row word → ⊥
refused_no_row word number place (too_long h) a row g = let s = a.short in omega arith
refused_no_row word number place (foreign f) a row g = f.foreign (a.admitted place f.within)
refused_no_row word number place (no_continuation b n l) a row g = n (row_viable row word g)
refused_no_row word number place (open_end b n v) a row g = n row g

pub refused_unreadable : (word : List ℕ) (number place : ℕ) → RefusedWith word number place → Readable word → ⊥
refused_unreadable word number place w r = refused_no_row word number place w r.admissible r.row r.gives

-- so the test for rows is whether the answer is no refusal
pub test_right : (word : List ℕ) (answer : Result ℕ Refusal) → Answers word (outcome_of answer) → RowTest word (is_ok answer)
test_right word (Ok n) r = reads_readable word n r
test_right word (Err refusal) w = refused_unreadable word (number_of refusal) (place_of refusal) w
