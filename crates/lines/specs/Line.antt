-- Document 01, "Refused because of what is handed in", refusals 1 and 7: the code values of a line of UTF-8 bytes.
-- Assumes nothing.
use Rattle.std.specs.Prelude.{◌≡◌, Bool, ◌&&◌, List, [], ◌∷◌, ◌++◌, ℕ, ◌+◌, ◌-◌, ◌*◌, ◌/◌, ◌%◌, ◌≤◌, ◌<◌, eqb, leb, length}
use Rattle.letters.specs.Choice.{pick}
use Rattle.formula.specs.Limits.{limit, line_limit}
use Rattle.formula.specs.Held.{word_of}
use Rattle.formula.specs.declared.Word.{Word}
use Rattle.refusals.specs.Outcome.{Outcome, accepts, accepts_both, absent, refuses, outcome_by}
use Rattle.refusals.specs.declared.Refusal.{Refusal}
use Rattle.std.specs.declared.result.Result.{Result}
use Rattle.std.specs.declared.result.Result.TheVariants.{Ok, Err}

-- "E1, then 80 or 81, then 80 to BF"
unfoldable pub is_three : ℕ → ℕ → ℕ → Bool
is_three a b c = eqb a 0xE1 && leb 0x80 b && leb b 0x81 && leb 0x80 c && leb c 0xBF

-- "It reads UTF-8 lines": the code value of a three, 1000 and the low six bits of its second and its third byte
abbrev pub value_of : ℕ → ℕ → ℕ
value_of b c = 0x1000 + (b - 0x80) * 0x40 + (c - 0x80)

-- the values of a line, or the "byte place where the first faulty three begins"
pub data Decoding : Type 0 where
  values : List ℕ → Decoding
  faulty : ℕ → Decoding

-- "the first faulty three": values and what follows them, which refuses the line where it is faulty
unfoldable pub after : List ℕ → Decoding → Decoding
after vs (values ws) = values (vs ++ ws)
after vs (faulty p) = faulty p

-- "a line is cut from its start in threes; some three isn't E1, then 80 or 81, then 80 to BF, or is short": the bytes from place p on
abbrev pub decode_from : ℕ → List ℕ → Decoding
decode_from p [] = values []
decode_from p (a ∷ []) = faulty p
decode_from p (a ∷ b ∷ []) = faulty p
decode_from p (a ∷ b ∷ c ∷ line) =
    pick (is_three a b c) (after (value_of b c ∷ []) (decode_from (p + 3) line)) (faulty p)

-- "UTF-8 lines", the other way: the bytes of values from 1000 to 107F, three for each
abbrev pub encode : List ℕ → List ℕ
encode [] = []
encode (v ∷ vs) = 0xE1 ∷ (0x80 + (v - 0x1000) / 0x40) ∷ (0x80 + (v - 0x1000) % 0x40) ∷ encode vs

-- the line is not too long, and these are its values
pub record Decodes (line word : List ℕ) : Type 0 where
  pub short : length line ≤ line_limit
  pub into : decode_from 0 line ≡ values word

-- "Tests run in the order 1, 7": the refusals of a line
pub data LineRefused (line : List ℕ) : ℕ → ℕ → Type 0 where
  -- "a line over 192 bytes"
  too_long : line_limit < length line → LineRefused line 1 limit
  -- "byte place where the first faulty three begins"
  faulty_three : {place : ℕ} → length line ≤ line_limit → decode_from 0 line ≡ faulty place → LineRefused line 7 place

-- the word that a line makes, by value, and how many values it has
pub record LineHolds (line : List ℕ) (n : ℕ) (held : Word) : Type 0 where
  pub word : List ℕ
  pub decodes : Decodes line word
  pub count : n ≡ length word
  pub is : held ≡ word_of word

-- with a refusal, a word of no values
abbrev pub LineAnswers : List ℕ → Outcome → Word → Type 0
LineAnswers line (accepts n) held = LineHolds line n held
LineAnswers line (accepts_both n m) held = ⊥
LineAnswers line absent held = ⊥
LineAnswers line (refuses number place) held = LineRefused line number place × (held ≡ word_of [])

-- what a line that is decoded tells: how many values its word has
abbrev pub word_told : Word → Outcome
word_told held = accepts held.count

-- the word of an answer; with a refusal, a word of no values
abbrev pub word_in : Result Word Refusal → Word
word_in (Ok held) = held
word_in (Err refusal) = word_of []

-- the promise of decoding
abbrev pub DecodeRight : List ℕ → Result Word Refusal → Type 0
DecodeRight line r = LineAnswers line (outcome_by word_told r) (word_in r)
