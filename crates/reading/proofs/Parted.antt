-- The part by number is the row's: a syllable's part lies between the places where it and the next one begin.
-- Assumes nothing.
use mathlib.Core.Path.{◌≡◌, refl, ap, sym, subst, ◌∙◌}
use mathlib.Core.List.{List, [], ◌∷◌, ◌++◌, append_assoc, append-nil, reverse_aux}
use Prim.Native.Nat.{ℕ, zero, suc, ◌+◌, ◌-◌, ◌≤◌, ◌<◌}
use native.Mathlib.Nat.{le_of_suc-le-suc, not-suc-le-zero}
use native.Mathlib.Decide.{dec_lt}
use native.Mathlib.Numerals.{add-one}
use native.Mathlib.Omega.{arith}
use borrow.Author.Tests.{lt-ltb, le-ltb}
use lib.ListN.{length, get_or, take, drop, length-append, get_or-append, get_or-eq_default}
use lib.Seq.{take_at, drop_at}
use Rattle.letters.specs.Choice.{pick}
use Rattle.formula.specs.Syllable.{Final, no_final, final_of, part}
use Rattle.formula.specs.Row.{Row, join_after, parts_after, parts}
use Rattle.std.specs.declared.result.Result.{Result}
use Rattle.std.specs.declared.result.Result.TheVariants.{Ok, Err}
use Rattle.std.specs.declared.option.Option.{Option}
use Rattle.std.specs.declared.option.Option.TheVariants.{Some, None}
use Rattle.std.specs.Result.{result_unwrap_or}
use Rattle.refusals.specs.declared.Refusal.{Refusal}
use Rattle.refusals.specs.Outcome.{outcome_by, tells_if_there}
use Rattle.rows.specs.Machine.{end_of, kept_join}
use Rattle.rows.proofs.Viable.{only_row}
use Rattle.recogniser.specs.Answer.{RefusedWith, Reads}
use Rattle.recogniser.specs.Walked.{WalkStopped}
use Rattle.recogniser.proofs.Answered.{refused_no_row}
use Rattle.reading.specs.Parts.{end_by, HasPart, NoPart, PartRight, PartAnswers, part_told}
use Rattle.reading.specs.declared.parts.Part.{Part}
use Rattle.scanning.specs.Scanned.{kept_starts, StartsOf}
use Rattle.scanning.proofs.Reach.{starts_length}
use Rattle.scanning.proofs.Stopped.{kept_is, kept_count}

-- where the syllables of a row begin, from the place n on
abbrev places_after : Final → ℕ → Row → List ℕ
places_after f n [] = []
places_after f n (s ∷ row) = n ∷ places_after (final_of s) (n + length (part f s)) row

places_kept : (a r : Row) → places_after no_final 0 (reverse_aux a r) ≡ kept_starts a ++ places_after (end_of a) (length (kept_join a)) r
places_kept [] r = refl
places_kept (s ∷ a) r =
    places_kept a (s ∷ r)
    ∙ ap (λ (n : ℕ). kept_starts a ++ (length (kept_join a) ∷ places_after (final_of s) n r)) (sym (length-append (kept_join a) (part (end_of a) s)))
    ∙ sym (append_assoc (kept_starts a) (length (kept_join a) ∷ []) (places_after (final_of s) (length (kept_join (s ∷ a))) r))

-- the part k of a row that begins at n: what stands before it and after it, and its places
record Located (f : Final) (n : ℕ) (row : Row) (k : ℕ) : Type 0 where
  before : List ℕ
  after : List ℕ
  front : before ≡ join_after f (take k row)
  split : join_after f row ≡ before ++ (get_or (parts_after f row) k [] ++ after)
  from : get_or (places_after f n row) k 0 ≡ n + length before
  next : suc k < length row → get_or (places_after f n row) (suc k) 0 ≡ n + length before + length (get_or (parts_after f row) k [])
  last : length row ≤ suc k → after ≡ []

located : (f : Final) (n : ℕ) (row : Row) (k : ℕ) → k < length row → Located f n row k
located f n [] k h = absurd (not-suc-le-zero h)
located f n (s ∷ []) zero h =
    record { before = []; after = []; front = refl; split = refl; from = omega arith; next = λ i. let z : ⊥ = omega arith in absurd z; last = λ _. refl }
located f n (s ∷ t ∷ row) zero h =
    record {
      before = [];
      after = join_after (final_of s) (t ∷ row);
      front = refl;
      split = refl;
      from = omega arith;
      next = λ i. omega arith;
      last = λ i. let z : ⊥ = omega arith in absurd z;
    }
located f n (s ∷ row) (suc k) h =
    let l = located (final_of s) (n + length (part f s)) row k (le_of_suc-le-suc h) in
    record {
      before = part f s ++ l.before;
      after = l.after;
      front = ap (λ (w : List ℕ). part f s ++ w) l.front;
      split =
          ap (λ (w : List ℕ). part f s ++ w) l.split
          ∙ sym (append_assoc (part f s) l.before (get_or (parts_after (final_of s) row) k [] ++ l.after));
      from = let e = l.from in omega (arith, length-append (part f s) l.before);
      next = λ i. let e = l.next (le_of_suc-le-suc i) in omega (arith, length-append (part f s) l.before);
      last = λ i. l.last (le_of_suc-le-suc i);
    }

module _ (word : List ℕ) (at state count : ℕ) (s : WalkStopped word at state count) (starts : List ℕ) (o : StartsOf s.walked.kept starts) (n : ℕ)
    (r : Reads word n) (k : ℕ) (h : k < n) where
  places : places_after no_final 0 r.row ≡ kept_starts s.walked.kept
  places =
      ap (places_after no_final 0) (kept_is word at state count s n r r.row r.gives) ∙ places_kept s.walked.kept []
      ∙ append-nil (kept_starts s.walked.kept)

  start_at : (j : ℕ) → j < n → get_or starts j 0 ≡ get_or (places_after no_final 0 r.row) j 0
  start_at j i =
      ap (λ (l : List ℕ). get_or l j 0) o.is
      ∙ get_or-append (kept_starts s.walked.kept) o.rest 0 j (omega (arith, starts_length s.walked.kept, kept_count word at state count s n r))
      ∙ ap (λ (l : List ℕ). get_or l j 0) (sym places)

  place : Located no_final 0 r.row k
  place = located no_final 0 r.row k (let c = r.count in omega arith)

  from_is : get_or starts k 0 ≡ length place.before
  from_is = let e = place.from in start_at k h ∙ (omega arith)

  word_is : word ≡ place.before ++ (get_or (parts r.row) k [] ++ place.after)
  word_is = sym r.gives.joined ∙ place.split

  length_is : length word ≡ length place.before + (length (get_or (parts r.row) k []) + length place.after)
  length_is =
      ap length word_is ∙ length-append place.before (get_or (parts r.row) k [] ++ place.after)
      ∙ ap (λ (m : ℕ). length place.before + m) (length-append (get_or (parts r.row) k []) place.after)

  end_is : end_by starts n k (length word) ≡ length place.before + length (get_or (parts r.row) k [])
  unfolding end_by pick
  end_is = go (dec_lt (k + 1) n)
    where
      go : Dec (k + 1 < n) → end_by starts n k (length word) ≡ length place.before + length (get_or (parts r.row) k [])
      go (yes i) =
          let c = r.count in
          let e = place.next (omega (arith, add-one k)) in
          rw (lt-ltb (k + 1) n i, add-one k) (start_at (suc k) (omega (arith, add-one k)) ∙ (omega arith))
      go (no i) =
          let c = r.count in
          let e : length place.after ≡ 0 = ap length (place.last (omega (arith, add-one k))) in
          rw (le-ltb (k + 1) n (omega arith)) (let l = length_is in omega arith)

  -- the two places, by what the code found
  module _ (from to : ℕ) (e : from ≡ get_or starts k 0) (d : to ≡ end_by starts n k (length word)) where
    pub from_to : from ≤ to
    from_to = omega (arith, e, d, from_is, end_is)

    pub to_end : to ≤ length word
    to_end = omega (arith, d, end_is, length_is)

    cut : take (to - from) (drop from word) ≡ get_or (parts r.row) k []
    cut =
        ap (λ (w : List ℕ). take (to - from) (drop from w)) word_is
        ∙ ap (take (to - from)) (drop_at place.before (get_or (parts r.row) k [] ++ place.after) from (sym (e ∙ from_is)))
        ∙ take_at (get_or (parts r.row) k []) place.after (to - from) (omega (arith, e, d, from_is, end_is))

    pub part_placed : HasPart word k from (to - from)
    part_placed =
        record {
          admissible = r.admissible;
          row = r.row;
          gives = r.gives;
          below = let c = r.count in omega arith;
          begins = e ∙ from_is ∙ ap length place.front;
          ends = omega (arith, e, d, from_is, end_is);
          within = omega (arith, from_to, to_end);
          is = cut;
        }

pub parts_length : (f : Final) (row : Row) → length (parts_after f row) ≡ length row
parts_length f [] = refl
parts_length f (s ∷ row) = ap suc (parts_length (final_of s) row)

-- the part at its place, a word with no such syllable, and refused words
pub part_right : (word : List ℕ) (k from size : ℕ) → HasPart word k from size → PartRight word k (take size (drop from word))
part_right word k from size p =
    record {
      has = λ _ row g. p.is ∙ ap (λ (w : Row). get_or (parts w) k []) (only_row p.row row word p.gives g);
      refused = λ no. absurd (no p.admissible p.row p.gives);
    }

pub part_beyond : (word : List ℕ) (k : ℕ) → NoPart word k → PartRight word k []
part_beyond word k p =
    record {
      has =
          λ _ row g. let b = p.beyond in
          sym (get_or-eq_default (parts row) [] (omega (arith, ap length (only_row p.row row word p.gives g), parts_length no_final row)));
      refused = λ _. refl;
    }

pub part_refused : (word : List ℕ) (k number place : ℕ) → RefusedWith word number place → PartRight word k []
part_refused word k number place w = record { has = λ a row g. absurd (refused_no_row word number place w a row g); refused = λ _. refl }

module _ (word : List ℕ) (k : ℕ) where
  -- what an answer tells to be there; a refused word has no part
  pub part_there : (answer : Result (Option Part) Refusal) → PartAnswers word k (outcome_by (tells_if_there part_told) answer) → (part : Part)
      → result_unwrap_or answer None ≡ Some part → HasPart word k part.place part.size
  part_there (Ok (Some p)) a part e = subst (λ (found : Option Part). PartAnswers word k (tells_if_there part_told found)) e a
  part_there (Ok None) a part e = let z : ◌≡◌ {A = ℕ} 0 1 = cc in let no : ⊥ = omega arith in absurd no
  part_there (Err refusal) a part e = let z : ◌≡◌ {A = ℕ} 0 1 = cc in let no : ⊥ = omega arith in absurd no

  -- an answer of no part
  pub part_none : (answer : Result (Option Part) Refusal) → PartAnswers word k (outcome_by (tells_if_there part_told) answer)
      → result_unwrap_or answer None ≡ None → PartRight word k []
  part_none (Ok (Some p)) a e = let z : ◌≡◌ {A = ℕ} 0 1 = cc in let no : ⊥ = omega arith in absurd no
  part_none (Ok None) a e = part_beyond word k a
  part_none (Err refusal) a e = part_refused word k _ _ a
