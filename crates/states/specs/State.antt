-- The state of a reading: all that the next value asks of the row read so far, one of seventeen. A device of proofs and of inner contracts:
-- no public promise cites it. Assumes nothing.
use Rattle.std.specs.Prelude.{true, false, List, [], ◌∷◌, ℕ, eqb, get_or}
use Rattle.letters.specs.Choice.{pick}
use Rattle.letters.specs.Marks.{neither, ya, ra, MedialGroup, group, Vowel, no_vowel, vowel_aa, vowel_i, vowel_ii, vowel_u, vowel_uu, vowel_e, vowel_ai, vowel_e_aa, vowel_e_aa_killer, vowel_am, vowel_i_u, vowel_u_am, ToneMark, no_tone, dot, visarga}
use Rattle.letters.specs.Weights.{is_final_letter}
use Rattle.formula.specs.Syllable.{Final, no_final, plain, plain_pair, stacked, kinzi, great_sa, syllable, carries_marks, carries_final}
use Rattle.formula.specs.Row.{Row}

pub data State : Type 0 where
  -- no syllable, or one that takes nothing more
  done : State
  -- two plain finals; a plain final; the plain final 1004, which may become kinzi; a stacked final or kinzi, which waits for a letter
  pair_final plain_final_lem nga_final waiting : State
  -- a head alone: it stays one; it may become the second final of the syllable before it; the final of the open one before it; it may, and is 1004
  head_stays head_second head_closes head_nga : State
  -- the last medial is Y or R; W; H
  after_ya_ra after_wa after_ha : State
  -- the vowel so far is 1031; 1031 AA; 102D; 102F; one that takes no more marks
  with_e with_e_aa with_i with_u with_vowel : State

-- what the syllable before a head may still take: any final, a second plain one, or none
pub data Room : Type 0 where
  any_final second_final no_room : Room

-- the head h, which carries marks, after a syllable with such room
abbrev pub head_state : Room → ℕ → State
head_state any_final h = pick (is_final_letter h) (pick (eqb h 0x1004) head_nga head_closes) head_stays
head_state second_final h = pick (is_final_letter h) head_second head_stays
head_state no_room h = head_stays

-- a head that carries no marks but a final, an I or 104E, is as one whose vowel takes no more marks
abbrev pub begun_state : Room → ℕ → State
begun_state room h = pick (carries_marks h) (head_state room h) with_vowel

abbrev pub medial_state : MedialGroup → State → State
medial_state (group neither false false) state = state
medial_state (group ya false false) state = after_ya_ra
medial_state (group ra false false) state = after_ya_ra
medial_state (group yr true false) state = after_wa
medial_state (group yr w true) state = after_ha

abbrev pub vowel_state : Vowel → State → State
vowel_state no_vowel state = state
vowel_state (vowel_aa tall) state = with_vowel
vowel_state vowel_i state = with_i
vowel_state vowel_ii state = with_vowel
vowel_state vowel_u state = with_u
vowel_state vowel_uu state = with_vowel
vowel_state vowel_e state = with_e
vowel_state vowel_ai state = with_vowel
vowel_state (vowel_e_aa tall) state = with_e_aa
vowel_state (vowel_e_aa_killer tall) state = with_vowel
vowel_state vowel_am state = with_vowel
vowel_state vowel_i_u state = with_vowel
vowel_state vowel_u_am state = with_vowel

abbrev pub final_state : Final → State → State
final_state no_final state = state
final_state (plain c) state = pick (eqb c 0x1004) nga_final plain_final_lem
final_state (plain_pair c d) state = pair_final
final_state (stacked c) state = waiting
final_state kinzi state = waiting
final_state great_sa state = done

abbrev pub tone_state : ToneMark → State → State
tone_state no_tone state = state
tone_state dot state = done
tone_state visarga state = done

-- what the last syllable may still take, by its final and its tone
abbrev pub room_after : Final → ToneMark → Room
room_after no_final no_tone = any_final
room_after no_final dot = no_room
room_after no_final visarga = no_room
room_after (plain c) no_tone = second_final
room_after (plain c) dot = no_room
room_after (plain c) visarga = no_room
room_after (plain_pair c d) t = no_room
room_after (stacked c) t = no_room
room_after kinzi t = no_room
room_after great_sa t = no_room

abbrev pub room_on_top : Row → Room
room_on_top [] = no_room
room_on_top (syllable h m v f t ∷ kept) = pick (carries_final h) (room_after f t) no_room

-- the state of what is kept, last syllable first
abbrev pub state_of : Row → State
state_of [] = done
state_of (syllable h m v f t ∷ kept) =
    pick (carries_final h) (tone_state t (final_state f (vowel_state v (medial_state m (begun_state (room_on_top kept) h))))) done

-- the states by number
abbrev pub state_number : State → ℕ
state_number done = 0
state_number pair_final = 1
state_number plain_final_lem = 2
state_number nga_final = 3
state_number waiting = 4
state_number head_stays = 5
state_number head_second = 6
state_number head_closes = 7
state_number head_nga = 8
state_number after_ya_ra = 9
state_number after_wa = 10
state_number after_ha = 11
state_number with_e = 12
state_number with_e_aa = 13
state_number with_i = 14
state_number with_u = 15
state_number with_vowel = 16

-- the states in the order of their numbers
abbrev pub states : List State
states =
    done
    ∷ pair_final
    ∷ plain_final_lem
    ∷ nga_final
    ∷ waiting
    ∷ head_stays
    ∷ head_second
    ∷ head_closes
    ∷ head_nga
    ∷ after_ya_ra
    ∷ after_wa
    ∷ after_ha
    ∷ with_e
    ∷ with_e_aa
    ∷ with_i
    ∷ with_u
    ∷ with_vowel
    ∷ []

abbrev pub state_at : ℕ → State
state_at n = get_or states n done

-- how many they are
abbrev pub state_count : ℕ
state_count = 17
