-- What a value does to the state of a reading, to the number of syllables and to the last of them. A device of proofs and of inner contracts:
-- no public promise cites it. Assumes nothing.
use Rattle.std.specs.Prelude.{◌≡◌, Bool, true, false, not, ◌&&◌, ◌||◌, ◌∷◌, ℕ, ◌+◌, ◌-◌, ◌*◌, ◌^◌, T, eqb, leb}
use Rattle.std.proofs.Math.Option.{Option, none, some}
use Rattle.letters.specs.Choice.{pick}
use Rattle.letters.specs.Letters.{within}
use Rattle.letters.specs.Kinds.{by_kind}
use Rattle.letters.specs.Marks.{MedialGroup, Vowel, ToneMark}
use Rattle.letters.specs.Weights.{is_head, is_final_letter, medial_set, vowel_weight, vowel_tall, tone_weight}
use Rattle.letters.specs.declared.kind.Kind.{Kind}
use Rattle.formula.specs.Syllable.{Final, no_final, plain, plain_pair, stacked, kinzi, great_sa, syllable, bare, carries_final}
use Rattle.formula.specs.Record.{link_of}
use Rattle.formula.specs.Row.{Row}
use Rattle.states.specs.State.{State, done, pair_final, plain_final_lem, nga_final, waiting, head_stays, head_second, head_closes, head_nga, after_ya_ra, after_wa, after_ha, with_e, with_e_aa, with_i, with_u, with_vowel, Room, any_final, second_final, no_room, begun_state, state_of, state_number}

-- a value is refused; or what becomes of the number of syllables, 0 for one fewer, 1 for as many, 2 for one more; what is added to the last
-- syllable from a bit on; and the state after it
pub data Transition : Type 0 where
  refuse : Transition
  to : ℕ → ℕ → State → Transition

-- two transitions that are the same, as a test
abbrev pub same : Transition → Transition → Bool
same refuse refuse = true
same refuse (to e b r) = false
same (to d a s) refuse = false
same (to d a s) (to e b r) = eqb d e && (eqb a b && eqb (state_number s) (state_number r))

-- the state is this one; it is one of those from the first to the last
abbrev pub is : State → State → Bool
is one state = eqb (state_number state) (state_number one)

abbrev pub among : State → State → State → Bool
among first last state = within (state_number first) (state_number last) (state_number state)

-- the last syllable may still take a final; it is a head alone
abbrev pub is_open_state : State → Bool
is_open_state state = among head_stays with_vowel state

abbrev pub is_head_state : State → Bool
is_head_state state = among head_stays head_nga state

-- after a stacked final or kinzi the next head is a letter 1000 to 1020
abbrev pub takes_head : ℕ → State → Bool
takes_head x state = not (is waiting state) || is_final_letter x

-- medials stand in the order Y R W H, each once, and not Y with R
abbrev pub takes_medial : ℕ → State → Bool
takes_medial x state = is_head_state state || ((is after_ya_ra state && leb 0x103D x) || (is after_wa state && eqb x 0x103E))

-- what is open takes a tone, and so do one plain final and two
abbrev pub takes_tone_state : State → Bool
takes_tone_state state = is_open_state state || among pair_final nga_final state

-- what is open takes a final, and one plain final takes a second
abbrev pub room_at : State → Room
room_at state = pick (is_open_state state) any_final (pick (among plain_final_lem nga_final state) second_final no_room)

abbrev pub medial_after : ℕ → State
medial_after x = pick (eqb x 0x103E) after_ha (pick (eqb x 0x103D) after_wa after_ya_ra)

-- the member of the set of medials: Y 1, R 2, W 4, H 8
abbrev pub medial_bit : ℕ → ℕ
medial_bit x = pick (eqb x 0x103B) 1 (pick (eqb x 0x103C) 2 (pick (eqb x 0x103D) 4 8))

-- the first mark of a vowel, and the weight of a vowel of that mark alone; a tall AA is 16 more
abbrev pub vowel_begun : ℕ → State
vowel_begun x = pick (eqb x 0x102D) with_i (pick (eqb x 0x102F) with_u (pick (eqb x 0x1031) with_e with_vowel))

abbrev pub tall_mark : ℕ → ℕ
tall_mark x = pick (eqb x 0x102B) 16 0

abbrev pub mark_weight : ℕ → ℕ
mark_weight x = pick (leb x 0x102C) 1 (pick (eqb x 0x1036) 10 (x - 0x102D + 2))

-- a letter, an I, N, P or S begins a syllable
abbrev pub on_head : ℕ → State → Transition
on_head x state = pick (takes_head x state) (to 2 0 (pick (carries_final x) (begun_state (room_at state) x) done)) refuse

abbrev pub on_medial : ℕ → State → Transition
on_medial x state = pick (takes_medial x state) (to 1 (medial_bit x) (medial_after x)) refuse

-- the first mark of a vowel, or the next one of 1031 AA, 102D 102F or 102F 1036, which makes 6 of weight to 8, 2 to 11 or 4 to 12
abbrev pub on_vowel : ℕ → State → Transition
on_vowel x state =
    pick (among head_stays after_ha state) (to 1 (mark_weight x + tall_mark x) (vowel_begun x))
    (pick (is with_e state && leb x 0x102C) (to 1 (2 + tall_mark x) with_e_aa)
    (pick (is with_i state && eqb x 0x102F) (to 1 9 with_vowel) (pick (is with_u state && eqb x 0x1036) (to 1 8 with_vowel) refuse)))

abbrev pub on_tone : ℕ → State → Transition
on_tone x state = pick (takes_tone_state state) (to 1 (x - 0x1036) done) refuse

-- 103A makes the letter a plain final of the syllable before, its first, whose link is 1, or its second, or ends the vowel 1031 AA 103A, which makes
-- 8 of weight to 9: 1 more, which is 4 from the bit of the link on
abbrev pub on_killer : State → Transition
on_killer state =
    pick (is head_closes state) (to 0 1 plain_final_lem)
    (pick (is head_nga state) (to 0 1 nga_final)
    (pick (is head_second state) (to 0 0 pair_final) (pick (is with_e_aa state) (to 1 4 with_vowel) refuse)))

-- 1039 makes the letter a stacked final of the syllable before, whose link is 2, or a plain 1004 kinzi, whose link is 1 more
abbrev pub on_stacker : State → Transition
on_stacker state = pick (is head_closes state) (to 0 2 waiting) (pick (is nga_final state) (to 1 1 waiting) refuse)

-- 103F is the final of an open syllable and the head of its own
abbrev pub on_great_sa : State → Transition
on_great_sa state = pick (is_open_state state) (to 2 0 head_stays) refuse

-- the value x, of this kind
abbrev pub transition : Kind → ℕ → State → Transition
transition kind x state =
    by_kind
    (record {
      head = on_head x state;
      medial = on_medial x state;
      vowel = on_vowel x state;
      tone = on_tone x state;
      killer = on_killer state;
      stacker = on_stacker state;
      great_sa = on_great_sa state;
      foreign = refuse;
    })
    kind

-- the bit of a packed syllable from which on a mark of the kind adds: 8 the set of medials, 22 the link, 24 the vowel, 32 the tone
abbrev pub bit_of : Kind → ℕ
bit_of kind = by_kind (record { head = 0; medial = 8; vowel = 24; tone = 32; killer = 22; stacker = 22; great_sa = 0; foreign = 0 }) kind

-- what a vowel has in its byte of a packed syllable: its weight, and 16 more for a tall AA
abbrev pub vowel_byte : Vowel → ℕ
vowel_byte v = vowel_weight v + 16 * vowel_tall v

-- the letter c joins the final on the left, which becomes the one on the right
pub data Joins (c : ℕ) : Final → Final → Type 0 where
  first_plain : Joins c no_final (plain c)
  first_stacked : Joins c no_final (stacked c)
  second_plain : {b : ℕ} → Joins c (plain b) (plain_pair b c)

-- the value x makes of the row on the left the one on the right, last syllable first, by a transition with d for the count, which adds g to the
-- packed syllable
pub data Makes (x : ℕ) : ℕ → ℕ → Row → Row → Type 0 where
  begins : {g : ℕ} {kept : Row} → T (is_head x) → Makes x 2 g kept (bare x ∷ kept)
  begins_great_sa : {g h : ℕ} {m : MedialGroup} {v : Vowel} {t : ToneMark} {kept : Row} → x ≡ 0x103F
      → Makes x 2 g (syllable h m v no_final t ∷ kept) (bare 0x101E ∷ syllable h m v great_sa t ∷ kept)
  adds_medial : {g h : ℕ} {m n : MedialGroup} {v : Vowel} {f : Final} {t : ToneMark} {kept : Row} → 0x100 * medial_set n ≡ 0x100 * medial_set m + g
      → Makes x 1 g (syllable h m v f t ∷ kept) (syllable h n v f t ∷ kept)
  adds_vowel : {g h : ℕ} {m : MedialGroup} {v u : Vowel} {f : Final} {t : ToneMark} {kept : Row} → 0x1000000 * vowel_byte u ≡ 0x1000000 * vowel_byte v + g
      → Makes x 1 g (syllable h m v f t ∷ kept) (syllable h m u f t ∷ kept)
  adds_tone : {g h : ℕ} {m : MedialGroup} {v : Vowel} {f : Final} {t n : ToneMark} {kept : Row} → 0x100000000 * tone_weight n ≡ 0x100000000 * tone_weight t + g
      → Makes x 1 g (syllable h m v f t ∷ kept) (syllable h m v f n ∷ kept)
  makes_kinzi : {h : ℕ} {m : MedialGroup} {v : Vowel} {t : ToneMark} {kept : Row}
      → Makes x 1 0x400000 (syllable h m v (plain 0x1004) t ∷ kept) (syllable h m v kinzi t ∷ kept)
  closes : {g c h : ℕ} {m : MedialGroup} {v : Vowel} {f made : Final} {t : ToneMark} {kept : Row} → T (is_final_letter c) → Joins c f made
      → 0x400000 * link_of made ≡ 0x400000 * link_of f + g → Makes x 0 g (bare c ∷ syllable h m v f t ∷ kept) (syllable h m v made t ∷ kept)

-- the transition by x, which adds from this bit on, takes the row kept to o
abbrev pub Agrees : ℕ → ℕ → Transition → Row → Option Row → Type 0
Agrees x bit refuse kept o = o ≡ none
Agrees x bit (to d a state) kept o = (b : Row) × (o ≡ some b) × (state ≡ state_of b) × Makes x d (a * 2 ^ bit) kept b
