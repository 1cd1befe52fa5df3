-- What a scan that has stopped shows: where the word is read, the row's syllables.
-- Assumes nothing.
use mathlib.Core.Path.{◌≡◌, refl, ap, sym, subst, ◌∙◌}
use mathlib.Core.List.{List, [], ◌∷◌, ◌++◌, map, append_assoc, append-nil, reverse, reverse_aux, reverse-reverse}
use mathlib.Core.Option.{some, some-injective}
use Prim.Native.Nat.{ℕ, ◌-◌, ◌≤◌, ◌<◌}
use native.Mathlib.Decide.{dec_lt}
use native.Mathlib.Omega.{arith}
use lib.ListN.{length, replicate, length-reverse}
use lib.Seq.{take_all}
use Rattle.formula.specs.Limits.{limit}
use Rattle.formula.specs.Row.{Row, Gives, Viable}
use Rattle.formula.specs.Packed.{packed}
use Rattle.rows.specs.Machine.{run}
use Rattle.rows.proofs.Viable.{read_back, stops}
use Rattle.recogniser.specs.Answer.{Reads}
use Rattle.recogniser.specs.Walked.{WalkStopped}
use Rattle.recogniser.proofs.Answered.{row_viable}
use Rattle.scanning.specs.Scanned.{kept_packed}

packed_reverse : (a r : Row) → map packed (reverse_aux a r) ≡ kept_packed a ++ map packed r
packed_reverse [] r = refl
packed_reverse (s ∷ a) r = packed_reverse a (s ∷ r) ∙ sym (append_assoc (kept_packed a) (packed s ∷ []) (map packed r))

module _ (word : List ℕ) (at state count : ℕ) (s : WalkStopped word at state count) (n : ℕ) (r : Reads word n) where
  -- a word that is read was read to its end
  read_ends : length word ≤ at
  read_ends = go (dec_lt at (length word))
    where
      go : Dec (at < length word) → length word ≤ at
      go (yes h) =
          absurd
          (stops word at s.walked.kept h s.walked.came (s.refused h) (length word) h
          (subst Viable (sym (take_all (length word) word (omega arith))) (row_viable r.row word r.gives)))
      go (no h) = omega arith

  -- the row that gives it is what is kept there
  pub kept_is : (row : Row) → Gives row word → row ≡ reverse s.walked.kept
  kept_is row g =
      let whole : run word [] ≡ some s.walked.kept =
      subst (λ (w : List ℕ). run w [] ≡ some s.walked.kept) (take_all at word read_ends) s.walked.came in
      sym (reverse-reverse row) ∙ ap reverse (some-injective (reverse row) s.walked.kept (sym (read_back row word g) ∙ whole))

  pub kept_count : length s.walked.kept ≡ n
  kept_count = sym (length-reverse s.walked.kept) ∙ sym (ap length (kept_is r.row r.gives)) ∙ r.count

  pub syllables_right : (syllables : List ℕ) → (length word ≤ at → syllables ≡ kept_packed s.walked.kept ++ replicate (limit - length s.walked.kept) 0)
      → (row : Row) → Gives row word → syllables ≡ map packed row ++ replicate (limit - n) 0
  syllables_right syllables e row g =
      e read_ends ∙ ap (λ (m : ℕ). kept_packed s.walked.kept ++ replicate (limit - m) 0) kept_count
      ∙ ap (λ (l : List ℕ). l ++ replicate (limit - n) 0)
      (sym (ap (map packed) (kept_is row g) ∙ packed_reverse s.walked.kept [] ∙ append-nil (kept_packed s.walked.kept)))
