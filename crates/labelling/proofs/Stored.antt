-- The rules over a stored form answer for the word: a row is its own stored form, and of the outcomes each is one of a label or a refusal.
-- Assumes nothing.
use mathlib.Core.Path.{◌≡◌, refl, sym, ap, subst, ◌∙◌}
use mathlib.Core.List.{List, ◌++◌}
use Prim.Native.Nat.{ℕ, ◌≤◌, ◌<◌}
use native.Mathlib.Omega.{arith}
use lib.ListN.{length, take, drop}
use Rattle.formula.specs.Limits.{limit}
use Rattle.refusals.specs.Refusal.{number_of, place_of}
use Rattle.refusals.specs.Outcome.{Outcome, accepts, refuses, outcome_of}
use Rattle.refusals.specs.Output.{refused, Puts, whole, no_room}
use Rattle.memory.specs.Put.{Written}
use Rattle.refusals.specs.declared.Refusal.{Refusal}
use Rattle.std.specs.declared.result.Result.{Result}
use Rattle.std.specs.declared.result.Result.TheVariants.{Ok, Err}
use Rattle.refusals.proofs.Putting.{puts_writes}
use Rattle.std.specs.Result.{result_unwrap_or}
use Rattle.recogniser.specs.Answer.{Answers, Reads, Readable}
use Rattle.recogniser.proofs.Answered.{refused_no_row}
use Rattle.normaliser.proofs.Storing.{reads_stores}
use Rattle.storage.specs.Stored.{stored_form}
use Rattle.storage.proofs.Rows.{gives_stored}
use Rattle.normaliser.specs.Normal.{StoreRefusedWith, Stores, NormaliseRight}
use Rattle.label_rules.specs.Rules.{label_of}
use Rattle.label_rules.proofs.Laws.{Ruled, has_sign, has_digit, has_many, meets_all, ruled, accepted_meets}
use Rattle.skeletons.specs.Skeleton.{skeleton_of, skeleton_limit}
use Rattle.skeletons.proofs.Longest.{skeleton_within}
use Rattle.labelling.specs.Labelling.{IsLabel, LabelRefusedWith, no_word, ruled_out, LabelAnswers, skeleton, SkeletonRight}
use Rattle.labelling.specs.Putting.{FormPut, breaks, meets}
use Rattle.labelling.proofs.Fronts.{fronted, only_refused}

pub own_form : (word : List ℕ) (n : ℕ) → Reads word n → word ≡ stored_form word
own_form word n r = sym (gives_stored r.row word r.gives)

-- a stored form of so many syllables to which the rules answer
module _ (word form : List ℕ) (n : ℕ) (s : Stores word n) (e : form ≡ stored_form word) where
  at_form : label_of form n ≡ label_of (stored_form word) n
  at_form = ap (λ (l : List ℕ). label_of l n) e

  pub answers_by : (o : Outcome) → o ≡ label_of form n → LabelAnswers word o
  answers_by o a = subst (LabelAnswers word) (sym (a ∙ at_form)) (go (label_of (stored_form word) n) refl (ruled (stored_form word) n))
    where
      go : (p : Outcome) → label_of (stored_form word) n ≡ p → Ruled (stored_form word) n p → LabelAnswers word p
      go p f (has_sign h) = ruled_out s f
      go p f (has_digit h k) = ruled_out s f
      go p f (has_many h k l) = ruled_out s f
      go p f (meets_all h k l) = record { stores = s; meets = f }

  pub puts_by : (before after : List ℕ) (o : Outcome) → FormPut form n before after o → SkeletonRight word before after o
  puts_by before after o (breaks f same) = refused (ruled_out s (sym at_form ∙ f)) same
  puts_by before after o (meets f p) =
      puts_writes (LabelRefusedWith word) (IsLabel word) (λ (_ : ℕ). skeleton word) before after n (record { stores = s; meets = sym at_form ∙ f })
      (skeleton_of form) (ap skeleton_of e) o p

-- values that were written, and such as have no room
pub written_puts : (values before after : List ℕ) (n : ℕ) → Written before values after n → length values ≤ length before
    → Puts values before after (accepts n)
written_puts values before after n w h =
    subst (λ (k : ℕ). Puts values before after (accepts k)) (sym w.count) (whole h (w.written ∙ ap (λ (k : ℕ). values ++ drop k before) w.count))

pub short_puts : (values before : List ℕ) (n : ℕ) → n ≡ length values → length before < length values → Puts values before before (refuses 5 n)
short_puts values before n e h = subst (λ (k : ℕ). Puts values before before (refuses 5 k)) (sym e) (no_room h refl)

module _ (form : List ℕ) (n : ℕ) where
  -- what is accepted is the number of syllables
  pub accepted_count : (k : ℕ) → label_of form n ≡ accepts k → label_of form n ≡ accepts n
  accepted_count k f = f ∙ ap accepts (accepted_meets form n k f).counted

  pub form_short : Reads form n → label_of form n ≡ accepts n → length (skeleton_of form) ≤ skeleton_limit
  form_short r f =
      let few = (accepted_meets form n n f).few in
      let short = r.admissible.short in
      let g = r.gives in
      subst (λ (l : List ℕ). length (skeleton_of l) ≤ skeleton_limit) g.joined
      (skeleton_within limit r.row g.is_row (omega (arith, ap length g.joined)) (omega (arith, r.count)))

-- so the skeleton of a label is within its limit
pub skeleton_short : (word : List ℕ) (n : ℕ) → IsLabel word n → length (skeleton word) ≤ skeleton_limit
skeleton_short word n l = form_short (stored_form word) n l.stores.reads l.meets

-- a word that is normalised into a list that has room for every word: its stored form stands at the front
pub record Formed (word after : List ℕ) (count : ℕ) : Type 0 where
  pub syllables : ℕ
  pub stores : Stores word syllables
  pub front : take count after ≡ stored_form word
  pub fits : count ≤ length after

module _ (word after : List ℕ) (count : ℕ) (f : Formed word after count) where
  pub formed_readable : Readable (take count after)
  formed_readable =
      let r = f.stores.reads in
      subst Readable (sym f.front) (record { admissible = r.admissible; row = r.row; gives = r.gives; only = r.only })

  -- whatever number of syllables the form is read with
  pub formed_stores : (n : ℕ) → Reads (take count after) n → Stores word n
  formed_stores n r = record { admissible = f.stores.admissible; reads = subst (λ (l : List ℕ). Reads l n) f.front r }

-- a row of syllables is its own stored form
module _ (word : List ℕ) (n : ℕ) (r : Reads word n) where
  pub row_answers : (o : Outcome) → o ≡ label_of word n → LabelAnswers word o
  row_answers = answers_by word word n (reads_stores word n r) (own_form word n r)

  pub row_puts : (before after : List ℕ) (o : Outcome) → FormPut word n before after o → SkeletonRight word before after o
  row_puts = puts_by word word n (reads_stores word n r) (own_form word n r)

-- and any other word is normalised
module _ (word before after : List ℕ) where
  pub formed : (count : ℕ) → NormaliseRight word before after (accepts count) → Formed word after count
  formed count right =
      let f = fronted (StoreRefusedWith word) (Stores word) (stored_form word) before after count right in
      record { syllables = f.thing; stores = f.stands; front = f.front; fits = f.fits }

  -- and where it is refused, it is no word
  pub not_formed : limit ≤ length before → (number place : ℕ) → NormaliseRight word before after (refuses number place) → LabelRefusedWith word number place
  not_formed room number place right =
      no_word
      (only_refused (StoreRefusedWith word) (Stores word) (stored_form word) before after (λ n s. let short = s.reads.admissible.short in omega arith) number
      place right)

module _ (word after : List ℕ) (count : ℕ) (f : Formed word after count) (n : ℕ) (r : Reads (take count after) n) where
  pub form_answers : (o : Outcome) → o ≡ label_of (take count after) n → LabelAnswers word o
  form_answers = answers_by word (take count after) n (formed_stores word after count f n r) f.front

  pub form_puts : (before final : List ℕ) (o : Outcome) → FormPut (take count after) n before final o → SkeletonRight word before final o
  form_puts = puts_by word (take count after) n (formed_stores word after count f n r) f.front

-- a row is read, and never refused
pub row_counted : (row : List ℕ) (answer : Result ℕ Refusal) → Readable row → Answers row (outcome_of answer) → Reads row (result_unwrap_or answer 0)
row_counted row (Ok n) r reads = reads
row_counted row (Err refusal) r w = absurd (refused_no_row row (number_of refusal) (place_of refusal) w r.admissible r.row r.gives)

-- what the rules answer of a row of so many syllables, and whether its skeleton is put
module _ (form : List ℕ) (n : ℕ) (before : List ℕ) where
  pub rules_break : (number place : ℕ) → refuses number place ≡ label_of form n → FormPut form n before before (refuses number place)
  rules_break number place e = breaks (sym e) refl

  module _ (r : Reads form n) (k : ℕ) (e : accepts k ≡ label_of form n) where
    accepted : label_of form n ≡ accepts n
    accepted = accepted_count form n k (sym e)

    pub rules_short : length (skeleton_of form) ≤ skeleton_limit
    rules_short = form_short form n r accepted

    pub form_written : length (skeleton_of form) ≤ length before → (after : List ℕ) (size : ℕ) → Written before (skeleton_of form) after size
        → FormPut form n before after (accepts size)
    form_written h after size w = meets accepted (written_puts (skeleton_of form) before after size w h)

    pub form_unwritten : (size : ℕ) → size ≡ length (skeleton_of form) → length before < length (skeleton_of form)
        → FormPut form n before before (refuses 5 size)
    form_unwritten size same h = meets accepted (short_puts (skeleton_of form) before size same h)
