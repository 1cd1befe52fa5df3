-- The promise of decoding is met by one answer only: a line has one decoding, and it is too long or not.
-- Assumes nothing.
use mathlib.Core.Path.{◌≡◌, refl, sym, ap, ◌∙◌}
use mathlib.Core.List.{List}
use Prim.Native.Nat.{ℕ}
use native.Mathlib.Omega.{arith}
use lib.ListN.{length}
use Rattle.formula.specs.Held.{word_of}
use Rattle.formula.specs.declared.Word.{Word}
use Rattle.refusals.specs.Outcome.{Outcome, accepts, accepts_both, absent, refuses, outcome_by}
use Rattle.refusals.proofs.Laws.{number_place_injective}
use Rattle.refusals.proofs.Determined.{Same}
use Rattle.lines.specs.Line.{Decodes, LineRefused, too_long, faulty_three, LineAnswers, word_told, word_in, DecodeRight}
use Rattle.refusals.specs.declared.Refusal.{Refusal}
use Rattle.std.specs.declared.result.Result.{Result}
use Rattle.std.specs.declared.result.Result.TheVariants.{Ok, Err}

module _ (line : List ℕ) where
  pub decodes_alike : (v w : List ℕ) → Decodes line v → Decodes line w → v ≡ w
  decodes_alike v w a b = let e = sym a.into ∙ b.into in cc

  pub line_refused_alike : (n p m q : ℕ) → LineRefused line n p → LineRefused line m q → refuses n p ≡ refuses m q
  line_refused_alike n p m q (too_long h) (too_long k) = refl
  line_refused_alike n p m q (too_long h) (faulty_three k f) = let z : ⊥ = omega arith in absurd z
  line_refused_alike n p m q (faulty_three h e) (too_long k) = let z : ⊥ = omega arith in absurd z
  line_refused_alike n p m q (faulty_three h e) (faulty_three k f) = let g = sym e ∙ f in cc

  pub decoded_not_refused : (word : List ℕ) (n p : ℕ) → Decodes line word → LineRefused line n p → ⊥
  decoded_not_refused word n p a (too_long k) = let h = a.short in omega arith
  decoded_not_refused word n p a (faulty_three k f) = let e = sym a.into ∙ f in let z : ◌≡◌ {A = ℕ} 0 1 = cc in omega arith

  -- two outcomes of decoding the line are the same, and so is the word beside them
  pub line_answers_alike : (o r : Outcome) (v w : Word) → LineAnswers line o v → LineAnswers line r w → Same o r v w
  line_answers_alike (accepts n) (accepts m) v w a b =
      let e = decodes_alike a.word b.word a.decodes b.decodes in
      record { outcome = ap accepts (a.count ∙ ap length e ∙ sym b.count); output = a.is ∙ ap word_of e ∙ sym b.is }
  line_answers_alike (accepts n) (accepts_both m k) v w a b = absurd b
  line_answers_alike (accepts n) absent v w a b = absurd b
  line_answers_alike (accepts n) (refuses m q) v w a b = absurd (decoded_not_refused a.word m q a.decodes b.0)
  line_answers_alike (accepts_both n k) r v w a b = absurd a
  line_answers_alike absent r v w a b = absurd a
  line_answers_alike (refuses n p) (accepts m) v w a b = absurd (decoded_not_refused b.word n p b.decodes a.0)
  line_answers_alike (refuses n p) (accepts_both m k) v w a b = absurd b
  line_answers_alike (refuses n p) absent v w a b = absurd b
  line_answers_alike (refuses n p) (refuses m q) v w a b =
      record { outcome = line_refused_alike n p m q a.0 b.0; output = a.1 ∙ sym b.1 }

  -- two answers that meet the promise of decoding are equal
  pub decode_determined : (a b : Result Word Refusal) → DecodeRight line a → DecodeRight line b → a ≡ b
  decode_determined a b r s = same a b (line_answers_alike (outcome_by word_told a) (outcome_by word_told b) (word_in a) (word_in b) r s)
    where
      same : (a b : Result Word Refusal) → Same (outcome_by word_told a) (outcome_by word_told b) (word_in a) (word_in b) → a ≡ b
      same (Ok v) (Ok w) e = ap Ok e.output
      same (Ok v) (Err q) e = let z = e.outcome in cc
      same (Err p) (Ok w) e = let z = e.outcome in cc
      same (Err p) (Err q) e = let z = e.outcome in ap Err (number_place_injective p q (cc) (cc))
