-- Document 01's calls that write to an output: "Success writes what it needs at the front of an output, the rest untouched", and a refusal
-- "writes nothing". Assumes nothing.
use Rattle.std.specs.Prelude.{◌≡◌, List, ◌++◌, ℕ, ◌≤◌, ◌<◌, length, drop}
use Rattle.refusals.specs.Outcome.{Outcome, accepts, refuses}

-- what is handed in is refused, or it stands for a thing with values and a number: these are written where there is room, and this is told
pub data Writes {A : Type 0} (Refuses : ℕ → ℕ → Type 0) (Stands : A → Type 0) (values : A → List ℕ) (tells : A → ℕ) (before after : List ℕ) : Outcome → Type 0 where
  refused : {number place : ℕ} → Refuses number place → after ≡ before → Writes Refuses Stands values tells before after (refuses number place)
  put : {thing : A} → Stands thing → length (values thing) ≤ length before → after ≡ values thing ++ drop (length (values thing)) before
      → Writes Refuses Stands values tells before after (accepts (tells thing))
  -- 5: "lent output too short"; place: "values or bytes needed"
  too_short : {thing : A} → Stands thing → length before < length (values thing) → after ≡ before
      → Writes Refuses Stands values tells before after (refuses 5 (length (values thing)))

-- values that are written where there is room for them, and how many; an inner contract cites it
pub data Puts (values before after : List ℕ) : Outcome → Type 0 where
  whole : length values ≤ length before → after ≡ values ++ drop (length values) before → Puts values before after (accepts (length values))
  no_room : length before < length values → after ≡ before → Puts values before after (refuses 5 (length values))
