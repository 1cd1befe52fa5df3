-- The promise of spelling out fixes the outcome and both lists: one row gives the word, and the cases shut each other out.
-- Assumes nothing.
use mathlib.Core.Path.{◌≡◌, ap, sym, ◌∙◌}
use mathlib.Core.List.{List}
use Prim.Native.Nat.{ℕ}
use native.Mathlib.Omega.{arith}
use lib.ListN.{length}
use Rattle.formula.specs.Row.{Row}
use Rattle.formula.specs.Spelled.{spelled}
use Rattle.refusals.specs.Outcome.{Outcome, refuses}
use Rattle.refusals.proofs.Determined.{Same}
use Rattle.rows.proofs.Viable.{only_row}
use Rattle.recogniser.specs.Answer.{RefusedWith}
use Rattle.recogniser.proofs.Answered.{refused_no_row}
use Rattle.recogniser.proofs.Determined.{answers_alike}
use Rattle.spelling.specs.Spell.{joined, ReadAs, Lists, lists, SpellRight, spelled_out, word_refused, values_too_short, starts_too_short}

same_lists : (a b : Lists) → a.values ≡ b.values → a.starts ≡ b.starts → a ≡ b
same_lists a b e f = ap (λ (l : List ℕ). lists l a.starts) e ∙ ap (lists b.values) f

module _ (word : List ℕ) where
  same_row : (r s : Row) → ReadAs word r → ReadAs word s → r ≡ s
  same_row r s p q = only_row r s word p.gives q.gives

  refused_not_read : (number place : ℕ) (row : Row) → RefusedWith word number place → ReadAs word row → ⊥
  refused_not_read number place row w p = refused_no_row word number place w p.admissible row p.gives

module _ (word : List ℕ) (before after final : Lists) where
  -- two outcomes of spelling the same word to the same lists are the same, and so is what they leave there
  pub spell_determined : (first second : Outcome) → SpellRight word before after first → SpellRight word before final second → Same first second after final
  spell_determined first second (spelled_out {row = r} p l k e) (spelled_out {row = s} q m j f) =
      let one : r ≡ s = same_row word r s p q in
      record { outcome = rw one; output = same_lists after final (e.values ∙ rw one (sym f.values)) (e.starts ∙ rw one (sym f.starts)) }
  spell_determined first second (spelled_out {row = r} p l k e) (word_refused w f) = absurd (refused_not_read word _ _ r w p)
  spell_determined first second (spelled_out {row = r} p l k e) (values_too_short {row = s} q m f) =
      let one : r ≡ s = same_row word r s p q in
      let z : ⊥ = omega (arith, ap (λ (t : Row). length (joined (spelled t))) one) in
      absurd z
  spell_determined first second (spelled_out {row = r} p l k e) (starts_too_short {row = s} q m j f) =
      let one : r ≡ s = same_row word r s p q in
      let z : ⊥ = omega (arith, ap (λ (t : Row). length (spelled t)) one) in
      absurd z
  spell_determined first second (word_refused w e) (spelled_out {row = s} q m j f) = absurd (refused_not_read word _ _ s w q)
  spell_determined first second (word_refused {number = n} {place = p} w e) (word_refused {number = m} {place = q} v f) =
      record { outcome = answers_alike word (refuses n p) (refuses m q) w v; output = e ∙ sym f }
  spell_determined first second (word_refused w e) (values_too_short {row = s} q m f) = absurd (refused_not_read word _ _ s w q)
  spell_determined first second (word_refused w e) (starts_too_short {row = s} q m j f) = absurd (refused_not_read word _ _ s w q)
  spell_determined first second (values_too_short {row = r} p l e) (spelled_out {row = s} q m j f) =
      let one : r ≡ s = same_row word r s p q in
      let z : ⊥ = omega (arith, ap (λ (t : Row). length (joined (spelled t))) one) in
      absurd z
  spell_determined first second (values_too_short {row = r} p l e) (word_refused w f) = absurd (refused_not_read word _ _ r w p)
  spell_determined first second (values_too_short {row = r} p l e) (values_too_short {row = s} q m f) =
      let one : r ≡ s = same_row word r s p q in
      record { outcome = rw one; output = e ∙ sym f }
  spell_determined first second (values_too_short {row = r} p l e) (starts_too_short {row = s} q m j f) =
      let one : r ≡ s = same_row word r s p q in
      let z : ⊥ = omega (arith, ap (λ (t : Row). length (joined (spelled t))) one) in
      absurd z
  spell_determined first second (starts_too_short {row = r} p l k e) (spelled_out {row = s} q m j f) =
      let one : r ≡ s = same_row word r s p q in
      let z : ⊥ = omega (arith, ap (λ (t : Row). length (spelled t)) one) in
      absurd z
  spell_determined first second (starts_too_short {row = r} p l k e) (word_refused w f) = absurd (refused_not_read word _ _ r w p)
  spell_determined first second (starts_too_short {row = r} p l k e) (values_too_short {row = s} q m f) =
      let one : r ≡ s = same_row word r s p q in
      let z : ⊥ = omega (arith, ap (λ (t : Row). length (joined (spelled t))) one) in
      absurd z
  spell_determined first second (starts_too_short {row = r} p l k e) (starts_too_short {row = s} q m j f) =
      let one : r ≡ s = same_row word r s p q in
      record { outcome = rw one; output = e ∙ sym f }
