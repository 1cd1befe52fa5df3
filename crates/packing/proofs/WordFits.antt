-- The numbers of every right answer on words fit their bits: places and counts are at most a word's limit, or that of what is written.
-- Assumes nothing.
use mathlib.Core.Path.{◌≡◌, refl, ap}
use mathlib.Core.List.{List, [], ◌∷◌}
use Prim.Native.Nat.{ℕ, suc, ◌≤◌, ◌<◌}
use native.Mathlib.Omega.{arith}
use lib.ListN.{length}
use Rattle.formula.specs.Limits.{limit}
use Rattle.formula.specs.Row.{Row}
use Rattle.formula.specs.Spelled.{spelled}
use Rattle.refusals.specs.Outcome.{Outcome, accepts, accepts_both, absent, refuses}
use Rattle.refusals.specs.Pair.{PairOutcome, tells, first_refuses, second_refuses, PairAnswers}
use Rattle.refusals.specs.Output.{Writes, refused, put, too_short}
use Rattle.rows.proofs.Viable.{only_row}
use Rattle.recogniser.specs.Answer as reading
use Rattle.reading.specs.Parts.{PartAnswers}
use Rattle.recogniser.proofs.Counted.{count_limit}
use Rattle.storage.specs.Stored.{stored_form}
use Rattle.storage.proofs.Outcome.{stored_shorter}
use Rattle.typed_places.proofs.Laws.{typed_within}
use Rattle.normaliser.specs.Admission.{Unadmitted, too_long, foreign}
use Rattle.normaliser.specs.Normal as normal
use Rattle.normaliser.specs.Form.{FormRight}
use Rattle.normaliser.specs.Typed.{TypedAnswers}
use Rattle.writing.specs.Write as writing
use Rattle.spelling.specs.Spell as spelling
use Rattle.spelling.proofs.Longest.{spelled_within}
use Rattle.std.specs.declared.cmp.Ordering.{Ordering}
use Rattle.std.specs.declared.cmp.Ordering.TheVariants.{Less, Equal, Greater}
use Rattle.collation.specs.Comparison.{order_number, Compares, CompareAnswers}
use Rattle.packing.specs.Packing.{answer, Fits}
use Rattle.packing.specs.Answers.{outcome_numbers, pair_numbers}

-- a refusal of what is handed in: its number is neither 0 nor that of nothing there, 128, and its place, in a word or not, fits its bits
pub record Small (number place : ℕ) : Type 0 where
  pub some : 1 ≤ number
  pub few : number < 128
  pub near : place < 0x100000000

pub refused_small : (word : List ℕ) (number place : ℕ) → reading.RefusedWith word number place → Small number place
refused_small word number place (reading.too_long h) = record { some = omega arith; few = omega arith; near = omega arith }
refused_small word number place (reading.foreign f) = record { some = omega arith; few = omega arith; near = let s = f.short in let w = f.within in omega arith }
refused_small word number place (reading.no_continuation a v l) =
    record { some = omega arith; few = omega arith; near = let s = a.short in let w = l.within in omega arith }
refused_small word number place (reading.unfinished a r v) = record { some = omega arith; few = omega arith; near = let s = a.short in omega arith }

pub unadmitted_small : (word : List ℕ) (number place : ℕ) → Unadmitted word number place → Small number place
unadmitted_small word number place (too_long h) = record { some = omega arith; few = omega arith; near = omega arith }
unadmitted_small word number place (foreign f) = record { some = omega arith; few = omega arith; near = let s = f.short in let w = f.within in omega arith }

pub store_refused_small : (word : List ℕ) (number place : ℕ) → normal.StoreRefusedWith word number place → Small number place
store_refused_small word number place (normal.unadmitted u) = unadmitted_small word number place u
store_refused_small word number place (normal.outcome a r) = refused_small (stored_form word) number place r

pub small_fits : (number second place : ℕ) → second < 0x1000000 → Small number place → Fits (answer number second place)
small_fits number second place h s = record { tag = omega arith; second = h; first = omega arith }

pub read_fits : (word : List ℕ) (o : Outcome) → reading.Answers word o → Fits (outcome_numbers o)
read_fits word (accepts n) r = record { tag = omega arith; second = omega arith; first = omega (arith, count_limit word n r) }
read_fits word (accepts_both n m) r = absurd r
read_fits word absent r = absurd r
read_fits word (refuses number place) r = small_fits number 0 place (omega arith) (refused_small word number place r)

-- the numbers of a call that writes to an output, where those of its refusals fit, and what it writes and tells is short
module _ {A : Type 0} (Refuses : ℕ → ℕ → Type 0) (Stands : A → Type 0) (values : A → List ℕ) (told : A → ℕ)
    (refused_fits : (number place : ℕ) → Refuses number place → Fits (outcome_numbers (refuses number place)))
    (few : (thing : A) → Stands thing → (told thing < 0x100000000) × (length (values thing) < 0x100000000)) (before after : List ℕ) where
  pub writes_fits : (o : Outcome) → Writes Refuses Stands values told before after o → Fits (outcome_numbers o)
  writes_fits o (refused r e) = refused_fits _ _ r
  writes_fits o (put s h e) = record { tag = omega arith; second = omega arith; first = (few _ s).0 }
  writes_fits o (too_short s h e) = record { tag = omega arith; second = omega arith; first = (few _ s).1 }

pub word_refused_fits : (word : List ℕ) (number place : ℕ) → reading.RefusedWith word number place → Fits (outcome_numbers (refuses number place))
word_refused_fits word number place r = small_fits number 0 place (omega arith) (refused_small word number place r)

pub store_refused_fits : (word : List ℕ) (number place : ℕ) → normal.StoreRefusedWith word number place → Fits (outcome_numbers (refuses number place))
store_refused_fits word number place r = small_fits number 0 place (omega arith) (store_refused_small word number place r)

pub normalise_fits : (word before after : List ℕ) (o : Outcome) → normal.NormaliseRight word before after o → Fits (outcome_numbers o)
normalise_fits word =
    writes_fits (normal.StoreRefusedWith word) (normal.Stores word) _ _ (store_refused_fits word)
    (λ n s. let short = s.reads.admissible.short in (omega arith, omega arith))

unadmitted_fits : (word : List ℕ) (number place : ℕ) → Unadmitted word number place → Fits (outcome_numbers (refuses number place))
unadmitted_fits word number place u = small_fits number 0 place (omega arith) (unadmitted_small word number place u)

pub form_fits : (word before after : List ℕ) (o : Outcome) → FormRight word before after o → Fits (outcome_numbers o)
form_fits word =
    writes_fits (Unadmitted word) (λ (_ : Unit {0}). reading.Admissible word) _ _ (unadmitted_fits word)
    (λ _ a. let short = a.short in (omega (arith, stored_shorter word), omega (arith, stored_shorter word)))

pub typed_fits : (word : List ℕ) (place : ℕ) (o : Outcome) → TypedAnswers word place o → Fits (outcome_numbers o)
typed_fits word place (accepts p) t =
    let short = t.admissible.short in
    record { tag = omega arith; second = omega arith; first = omega (arith, typed_within word place p t.typed) }
typed_fits word place (accepts_both n m) t = absurd t
typed_fits word place absent t = record { tag = omega arith; second = omega arith; first = omega arith }
typed_fits word place (refuses number p) t = unadmitted_fits word number p t

pub part_fits : (word : List ℕ) (number : ℕ) (o : Outcome) → PartAnswers word number o → Fits (outcome_numbers o)
part_fits word number (accepts size) p = absurd p
part_fits word number (accepts_both place size) p =
    let w = p.within in
    let s = p.admissible.short in
    record { tag = omega arith; second = omega arith; first = omega arith }
part_fits word number absent p = record { tag = omega arith; second = omega arith; first = omega arith }
part_fits word number (refuses refusal place) p = small_fits refusal 0 place (omega arith) (refused_small word refusal place p)

records_refused_fits : (bytes : List ℕ) (number place : ℕ) → writing.RecordsRefused bytes number place → Fits (outcome_numbers (refuses number place))
records_refused_fits bytes number place (writing.no_such_row n) = record { tag = omega arith; second = omega arith; first = omega arith }

pub write_fits : (bytes before after : List ℕ) (o : Outcome) → writing.WriteRight bytes before after o → Fits (outcome_numbers o)
write_fits bytes =
    writes_fits (writing.RecordsRefused bytes) (writing.Recorded bytes) _ _ (records_refused_fits bytes)
    (λ row r. let short = r.short in (omega arith, omega arith))

-- one spelled syllable for each of the row
spelled_length : (row : Row) → length (spelled row) ≡ length row
spelled_length [] = refl
spelled_length (s ∷ row) = ap suc (spelled_length row)

spelled_count : (word : List ℕ) (row : Row) → spelling.ReadAs word row → length (spelled row) ≤ limit
spelled_count word row r =
    let reads : reading.Reads word (length row) =
    record { admissible = r.admissible; row = row; gives = r.gives; only = λ other g. only_row other row word g r.gives; count = refl } in
    omega (arith, spelled_length row, count_limit word (length row) reads)

spelled_size : (word : List ℕ) (row : Row) → spelling.ReadAs word row → length (spelling.joined (spelled row)) ≤ 190
spelled_size word row r = spelled_within row r.gives.is_row (let s = r.admissible.short in omega (arith, ap length r.gives.joined))

pub spell_fits : (word : List ℕ) (before after : spelling.Lists) (o : Outcome) → spelling.SpellRight word before after o
    → Fits (outcome_numbers o)
spell_fits word before after o (spelling.spelled_out r h i w) =
    record { tag = omega arith; second = omega (arith, spelled_count word _ r); first = omega (arith, spelled_size word _ r) }
spell_fits word before after o (spelling.word_refused r e) = small_fits _ 0 _ (omega arith) (refused_small word _ _ r)
spell_fits word before after o (spelling.values_too_short r h e) =
    record { tag = omega arith; second = omega arith; first = omega (arith, spelled_size word _ r) }
spell_fits word before after o (spelling.starts_too_short r h i e) =
    record { tag = omega arith; second = omega arith; first = omega (arith, spelled_count word _ r) }

-- the numbers of a call on two words, where each of its refusals is of a word, and what is told is short
module _ (Passes : List ℕ → ℕ → Type 0) (Refuses : List ℕ → ℕ → ℕ → Type 0) (Tells : List ℕ → List ℕ → ℕ → Type 0)
    (small : (word : List ℕ) (number place : ℕ) → Refuses word number place → Small number place)
    (few : (first second : List ℕ) (n : ℕ) → Tells first second n → n < 0x100000000) (first second : List ℕ) where
  pub pair_fits : (o : PairOutcome) → PairAnswers Passes Refuses Tells first second o → Fits (pair_numbers o)
  pair_fits (tells n) t = record { tag = omega arith; second = omega arith; first = few first second n t }
  pair_fits (first_refuses number place) r = small_fits number 1 place (omega arith) (small first number place r)
  pair_fits (second_refuses number place) r = small_fits number 2 place (omega arith) (small second number place r.second_refused)

order_few : (o : Ordering) → order_number o < 0x100000000
order_few Less = omega arith
order_few Equal = omega arith
order_few Greater = omega arith

pub compare_fits : (one other : List ℕ) (o : PairOutcome) → CompareAnswers one other o → Fits (pair_numbers o)
compare_fits = pair_fits normal.Stores normal.StoreRefusedWith Compares store_refused_small (λ first second n t. omega (arith, t.numbered, order_few t.is))
