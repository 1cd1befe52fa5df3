-- The tables of the code: a class for the values that do the same, and for each class what it does to the states, in three numbers.
-- Inner contracts cite it; no public promise does. Assumes nothing.
use Rattle.std.specs.Prelude.{Bool, false, ◌||◌, List, [], ◌∷◌, map, ℕ, ◌+◌, ◌-◌, ◌*◌, ◌/◌, ◌%◌, ◌^◌, eqb, ltb, get_or}
use Rattle.letters.specs.Choice.{pick}
use Rattle.letters.specs.Letters.{kind_of}
use Rattle.letters.specs.declared.kind.Kind.{Kind}
use Rattle.letters.specs.declared.kind.Kind.TheVariants.{Consonant, IndependentVowel, Medial, VowelMark, Tone, Killer, Stacker, GreatSa, Digit, Stop, Sign, Foreign}
use Rattle.states.specs.State.{state_number, states, state_at}
use Rattle.states.specs.Transition.{Transition, refuse, to, same, transition, bit_of}
use Rattle.transitions.specs.declared.tables.Rules.{Rules}

-- how many states three bits each have room for
abbrev pub state_limit : ℕ
state_limit = 21

-- a transition as a byte: 32 times what becomes of the count, 3 where the value is refused, and the state
abbrev pub entry : Transition → ℕ
entry refuse = 96
entry (to d a state) = d * 32 + state_number state

abbrev pub amount_of : Transition → ℕ
amount_of refuse = 0
amount_of (to d a state) = a

-- what the value x does at the state of this number, and what it adds to the packed syllable there
unfoldable pub entry_of : ℕ → ℕ → ℕ
entry_of state x = entry (transition (kind_of x) x (state_at state))

unfoldable pub gain_of : ℕ → ℕ → ℕ
gain_of state x = amount_of (transition (kind_of x) x (state_at state)) * 2 ^ bit_of (kind_of x)

-- a value that is read begins a syllable unless it is one of the marks from 102B to 103E, whatever is read before it
unfoldable pub begins_by : ℕ → Bool
begins_by x = ltb x 0x102B || ltb 0x103E x

-- 4 is the class of the heads that carry a final and no marks, 23 of those that carry nothing
abbrev pub class_in : Kind → ℕ → ℕ
class_in Consonant x = pick (eqb x 0x1004) 1 (pick (eqb x 0x1021) 2 0)
class_in Foreign x = 3
class_in IndependentVowel x = 4
class_in Digit x = 23
class_in Stop x = 23
class_in Sign x = pick (eqb x 0x104E) 4 23
class_in VowelMark x = pick (eqb x 0x1036) 13 (x - 0x102B + 5)
class_in Tone x = x - 0x1037 + 14
class_in Stacker x = 16
class_in Killer x = 17
class_in Medial x = x - 0x103B + 18
class_in GreatSa x = 22

unfoldable pub class_of : ℕ → ℕ
class_of x = class_in (kind_of x) x

-- one value of each class
abbrev pub examples : List ℕ
examples =
    0x1000
    ∷ 0x1004
    ∷ 0x1021
    ∷ 0x1022
    ∷ 0x1023
    ∷ 0x102B
    ∷ 0x102C
    ∷ 0x102D
    ∷ 0x102E
    ∷ 0x102F
    ∷ 0x1030
    ∷ 0x1031
    ∷ 0x1032
    ∷ 0x1036
    ∷ 0x1037
    ∷ 0x1038
    ∷ 0x1039
    ∷ 0x103A
    ∷ 0x103B
    ∷ 0x103C
    ∷ 0x103D
    ∷ 0x103E
    ∷ 0x103F
    ∷ 0x1040
    ∷ []

abbrev pub example_in : ℕ → ℕ
example_in class = get_or examples class 0

-- a transition is one of these
abbrev pub is_in : Transition → List Transition → Bool
is_in t [] = false
is_in t (u ∷ us) = same t u || is_in t us

-- the different transitions of these, without the refusal
abbrev pub outcomes : List Transition → List Transition
outcomes [] = []
outcomes (t ∷ ts) = pick (same t refuse || is_in t (outcomes ts)) (outcomes ts) (t ∷ outcomes ts)

-- the place of a transition among the outcomes, from 1; 0 where it is none of them
abbrev pub chosen_from : ℕ → List Transition → Transition → ℕ
chosen_from n [] t = 0
chosen_from n (u ∷ us) t = pick (same t u) n (chosen_from (n + 1) us t)

-- digits of a number, the first lowest
abbrev pub number_in : ℕ → List ℕ → ℕ
number_in base [] = 0
number_in base (n ∷ ns) = number_in base ns * base + n

-- what the value x does at each state
abbrev pub transitions_at : ℕ → List Transition
transitions_at x = map (transition (kind_of x) x) states

-- three bits a state pick an outcome, 0 none; a byte an outcome, with the refusal first; and a byte an outcome of what it adds, with the bit
-- from which on it is added first
abbrev pub rules_at : ℕ → Rules
rules_at x =
    record {
      picks = number_in 8 (map (chosen_from 1 (outcomes (transitions_at x))) (transitions_at x));
      outcomes = number_in 256 (entry refuse ∷ map entry (outcomes (transitions_at x)));
      amounts = number_in 256 (bit_of (kind_of x) ∷ map amount_of (outcomes (transitions_at x)));
    }

-- the rules of a class are those of its example
unfoldable pub rules_in : ℕ → Rules
rules_in class = rules_at (example_in class)

-- what a value does at each state, as the code looks it up
abbrev pub rules_of : ℕ → Rules
rules_of x = rules_in (class_of x)

-- the outcome that a state picks, its byte, and what it adds to the packed syllable, which has 64 bits
abbrev pub chosen_by : ℕ → Rules → ℕ
chosen_by state rules = rules.picks / 2 ^ (3 * state) % 8

abbrev pub next_by : ℕ → Rules → ℕ
next_by state rules = rules.outcomes / 2 ^ (8 * chosen_by state rules) % 256

abbrev pub gain_by : ℕ → Rules → ℕ
gain_by state rules = (rules.amounts / 2 ^ (8 * chosen_by state rules) % 256) * 2 ^ (rules.amounts % 64) % 0x10000000000000000
