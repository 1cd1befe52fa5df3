-- The promise of the answer for a word determines it: the conditions of the refusals shut each other out, and each fixes its place.
-- Assumes nothing.
use mathlib.Core.Path.{◌≡◌, refl, ap, sym, ◌∙◌}
use mathlib.Core.List.{List}
use Prim.Native.Nat.{ℕ, ◌<◌}
use native.Mathlib.Decide.{dec_lt}
use native.Mathlib.Omega.{arith}
use lib.ListN.{length}
use Rattle.formula.specs.Limits.{limit}
use Rattle.formula.specs.Row.{LongestViable}
use Rattle.refusals.specs.Outcome.{Outcome, accepts, accepts_both, absent, refuses}
use Rattle.recogniser.specs.Answer.{AdmissibleWithin, FirstForeignWithin, RefusedWithin, too_long, foreign, no_continuation, unfinished, AnswersWithin, Answers}
use Rattle.recogniser.proofs.Answered.{refused_no_row}

-- two places neither of which comes before the other
same_place : (p q : ℕ) → (p < q → ⊥) → (q < p → ⊥) → p ≡ q
same_place p q f g = go (dec_lt p q) (dec_lt q p)
  where
    go : Dec (p < q) → Dec (q < p) → p ≡ q
    go (yes h) d = absurd (f h)
    go (no h) (yes i) = absurd (g i)
    go (no h) (no i) = omega arith

pub longest_place : (word : List ℕ) (p q : ℕ) → LongestViable word p → LongestViable word q → p ≡ q
longest_place word p q a b = same_place p q (λ h. a.longest q h b.within b.viable) (λ h. b.longest p h a.within a.viable)

module _ {most : ℕ} (word : List ℕ) where
  foreign_place : (p q : ℕ) → FirstForeignWithin most word p → FirstForeignWithin most word q → p ≡ q
  foreign_place p q a b = same_place p q (λ h. a.foreign (b.before p h)) (λ h. b.foreign (a.before q h))

  pub admissible_no_foreign : (p : ℕ) → AdmissibleWithin most word → FirstForeignWithin most word p → ⊥
  admissible_no_foreign p a f = f.foreign (a.admitted p f.within)

  pub refused_alike : (n p m q : ℕ) → RefusedWithin most word n p → RefusedWithin most word m q → refuses n p ≡ refuses m q
  refused_alike n p m q (too_long h) (too_long i) = refl
  refused_alike n p m q (too_long h) (foreign f) = let s = f.short in let z : ⊥ = omega arith in absurd z
  refused_alike n p m q (too_long h) (no_continuation a v l) = let s = a.short in let z : ⊥ = omega arith in absurd z
  refused_alike n p m q (too_long h) (unfinished a r v) = let s = a.short in let z : ⊥ = omega arith in absurd z
  refused_alike n p m q (foreign f) (too_long i) = let s = f.short in let z : ⊥ = omega arith in absurd z
  refused_alike n p m q (foreign f) (foreign g) = ap (refuses 2) (foreign_place p q f g)
  refused_alike n p m q (foreign f) (no_continuation a v l) = absurd (admissible_no_foreign p a f)
  refused_alike n p m q (foreign f) (unfinished a r v) = absurd (admissible_no_foreign p a f)
  refused_alike n p m q (no_continuation a v l) (too_long i) = let s = a.short in let z : ⊥ = omega arith in absurd z
  refused_alike n p m q (no_continuation a v l) (foreign g) = absurd (admissible_no_foreign q a g)
  refused_alike n p m q (no_continuation a v l) (no_continuation b w k) = ap (refuses 3) (longest_place word p q l k)
  refused_alike n p m q (no_continuation a v l) (unfinished b r w) = absurd (v w)
  refused_alike n p m q (unfinished a r v) (too_long i) = let s = a.short in let z : ⊥ = omega arith in absurd z
  refused_alike n p m q (unfinished a r v) (foreign g) = absurd (admissible_no_foreign q a g)
  refused_alike n p m q (unfinished a r v) (no_continuation b w k) = absurd (w v)
  refused_alike n p m q (unfinished a r v) (unfinished b s w) = refl

-- two answers that meet the promise are the same in document 01's terms, whatever the limit
pub answers_alike_within : (most : ℕ) (word : List ℕ) (o r : Outcome) → AnswersWithin most word o → AnswersWithin most word r → o ≡ r
answers_alike_within most word (accepts n) (accepts m) a b = ap accepts (sym a.count ∙ ap length (b.only a.row a.gives) ∙ b.count)
answers_alike_within most word (accepts n) (accepts_both m k) a b = absurd b
answers_alike_within most word (accepts n) absent a b = absurd b
answers_alike_within most word (accepts n) (refuses m q) a b = absurd (refused_no_row word m q b a.admissible a.row a.gives)
answers_alike_within most word (accepts_both n k) r a b = absurd a
answers_alike_within most word absent r a b = absurd a
answers_alike_within most word (refuses n p) (accepts_both m k) a b = absurd b
answers_alike_within most word (refuses n p) absent a b = absurd b
answers_alike_within most word (refuses n p) (accepts m) a b = absurd (refused_no_row word n p a b.admissible b.row b.gives)
answers_alike_within most word (refuses n p) (refuses m q) a b = refused_alike word n p m q a b

pub answers_alike : (word : List ℕ) (o r : Outcome) → Answers word o → Answers word r → o ≡ r
answers_alike word o r a b = answers_alike_within limit word o r a b
