-- The first syllables of a list, spelled: one more of them is one more part behind the values so far, which begins where these end.
-- Assumes nothing.
use mathlib.Core.Path.{◌≡◌, refl, ap, sym, ◌∙◌}
use mathlib.Core.List.{List, [], ◌∷◌, ◌++◌, map-append, append-nil, append_assoc}
use Prim.Native.Nat.{ℕ, suc, ◌+◌, ◌*◌, ◌≤◌, ◌<◌}
use native.Mathlib.Nat.{zero-add}
use native.Mathlib.Numerals.{add-one}
use native.Mathlib.Omega.{arith}
use Rattle.std.specs.List.{sum_by}
use Rattle.std.proofs.lemmas.List.Sums.{sum_by-cons, sum_by-take-le}
use lib.ListN.{length, get_or, take, drop, set, length-append, length-map, length-take, length-drop}
use lib.Seq.{take_all, take-suc, drop-cons, set_at, length-take-le, append_snoc}
use Rattle.formula.specs.Syllable.{no_final, part}
use Rattle.syllable_record.specs.Decode.{syllable_of}
use Rattle.reading.specs.Records.{bytes_by}
use Rattle.syllable_text.specs.Part.{PartSize}
use Rattle.syllable_text.specs.Part.{part_after, PartPut}
use Rattle.syllable_text.proofs.Putting.{put_length, put_behind}
use Rattle.spelling.specs.Spell.{joined, starts_from, spelled_starts, lists}
use Rattle.spelling.specs.Plain.{plain_bytes, spelled_by, spelled_each}
use Rattle.spelling.specs.Put.{SyllableRoom, SyllablePut, Room, SyllablesPut}
use Rattle.spelling.proofs.Plains.{part_spelled, by_small}

-- the first syllables of a list, each spelled
abbrev pub spelled_front : List ℕ → ℕ → List (List ℕ)
spelled_front syllables number = spelled_each (take number syllables)

joined_more : (parts : List (List ℕ)) (more : List ℕ) → joined (parts ++ (more ∷ [])) ≡ joined parts ++ more
joined_more [] more = append-nil more
joined_more (part ∷ parts) more = ap (λ (l : List ℕ). part ++ l) (joined_more parts more) ∙ sym (append_assoc part (joined parts) more)

starts_more : (at : ℕ) (parts : List (List ℕ)) (more : List ℕ) → starts_from at (parts ++ (more ∷ [])) ≡ starts_from at parts ++ ((at + length (joined parts)) ∷ [])
starts_more at [] more = let same : at ≡ at + 0 = omega arith in ap (λ (n : ℕ). n ∷ []) same
starts_more at (part ∷ parts) more =
    let same : at + length part + length (joined parts) ≡ at + length (part ++ joined parts) = omega (arith, length-append part (joined parts)) in
    ap (λ (l : List ℕ). at ∷ l) (starts_more (at + length part) parts more ∙ ap (λ (n : ℕ). starts_from (at + length part) parts ++ (n ∷ [])) same)

pub starts_length : (at : ℕ) (parts : List (List ℕ)) → length (starts_from at parts) ≡ length parts
starts_length at [] = refl
starts_length at (part ∷ parts) = ap suc (starts_length (at + length part) parts)

module _ (syllables : List ℕ) (number : ℕ) where
  front_length : number ≤ length syllables → length (spelled_front syllables number) ≡ number
  front_length held = length-map (take number syllables) spelled_by ∙ length-take-le number syllables held

  module _ (d : ℕ) (next : number < length syllables) where
    front_more : spelled_front syllables (number + 1) ≡ spelled_front syllables number ++ (spelled_by (get_or syllables number d) ∷ [])
    front_more = rw (add-one, take-suc syllables number d) (map-append spelled_by (take number syllables) (get_or syllables number d ∷ []))

    values_more : joined (spelled_front syllables (number + 1)) ≡ joined (spelled_front syllables number) ++ spelled_by (get_or syllables number d)
    values_more = rw front_more (joined_more (spelled_front syllables number) (spelled_by (get_or syllables number d)))

    size_more : length (joined (spelled_front syllables (number + 1))) ≡ length (joined (spelled_front syllables number)) + length (spelled_by (get_or syllables number d))
    size_more = ap length values_more ∙ length-append (joined (spelled_front syllables number)) (spelled_by (get_or syllables number d))

    places_more : spelled_starts (spelled_front syllables (number + 1)) ≡ spelled_starts (spelled_front syllables number) ++ (length (joined (spelled_front syllables number)) ∷ [])
    places_more =
        let same : 0 + length (joined (spelled_front syllables number)) ≡ length (joined (spelled_front syllables number)) = omega arith in
        rw (front_more, starts_more 0 (spelled_front syllables number) (spelled_by (get_or syllables number d)), same)

-- the size of syllables is the sum of their sizes
pub size_sum : (syllables : List ℕ) → length (joined (spelled_each syllables)) ≡ sum_by (λ packed. length (spelled_by packed)) syllables
size_sum [] = refl
size_sum (s ∷ syllables) =
    length-append (spelled_by s) (joined (spelled_each syllables)) ∙ ap (λ (n : ℕ). length (spelled_by s) + n) (size_sum syllables)
    ∙ sym (sum_by-cons (λ packed. length (spelled_by packed)) s syllables)

-- and of one, that of its record's part
pub record_size_is : (packed : ℕ) (bytes : List ℕ) → bytes ≡ plain_bytes (bytes_by packed) → (size : ℕ) → PartSize bytes size → size ≡ length (spelled_by packed)
unfolding spelled_by
record_size_is packed bytes is size s = s.counted ∙ ap (λ (l : List ℕ). length (part no_final (syllable_of l))) is

-- one syllable by its record: there is room for its part, and it is put
module _ (packed number at : ℕ) (values starts bytes : List ℕ) (is : bytes ≡ plain_bytes (bytes_by packed)) where
  pub part_room : SyllableRoom packed number at values starts → at + length (part_after 0 (syllable_of bytes)) ≤ length values
  part_room r = omega (arith, r.values_fit, ap length (part_spelled packed bytes is))

  pub part_put : (after : List ℕ) (behind : ℕ) → PartPut values after at (part_after 0 (syllable_of bytes)) behind
      → SyllablePut packed number at (lists values starts) (lists after (set starts number at)) behind
  part_put after behind p = record { start = refl; values = rw (← part_spelled packed bytes is) p }

-- where there is room for syllables, there is room for the first of them
pub room_front : (syllables values starts : List ℕ) → Room syllables values starts → (few : ℕ) → Room (take few syllables) values starts
room_front syllables values starts r few =
    record {
      short = omega (arith, length-take few syllables, r.short);
      values_fit = omega (arith, size_sum (take few syllables), size_sum syllables, sum_by-take-le (λ packed. length (spelled_by packed)) syllables few, r.values_fit);
      starts_fit = omega (arith, length-take few syllables, r.starts_fit);
    }

-- the pass that writes: both lists have the fronts of the syllables so far
pub record Filled (syllables values starts new_values new_starts : List ℕ) (at number : ℕ) : Type 0 where
  pub within : number ≤ length syllables
  pub values_put : PartPut values new_values 0 (joined (spelled_front syllables number)) at
  pub starts_put : new_starts ≡ spelled_starts (spelled_front syllables number) ++ drop number starts
  pub small : at ≤ 13 * number

pub filled_none : (syllables values starts : List ℕ) → Filled syllables values starts values starts 0 0
filled_none syllables values starts = record {
  within = omega arith;
  values_put = record { put = refl; behind_it = refl };
  starts_put = refl;
  small = omega arith;
}

module _ (syllables values starts new_values new_starts : List ℕ) (at number : ℕ)
    (p : Filled syllables values starts new_values new_starts at number) (r : Room syllables values starts) where
  -- the first syllables have no more values than all
  front_fits : (few : ℕ) → length (joined (spelled_front syllables few)) ≤ length values
  front_fits few = (room_front syllables values starts r few).values_fit

  -- the lists are as long as before
  pub values_length : length new_values ≡ length values
  values_length = put_length values new_values 0 (joined (spelled_front syllables number)) at p.values_put (omega (arith, front_fits number))

  starts_number : length (spelled_starts (spelled_front syllables number)) ≡ number
  starts_number = starts_length 0 (spelled_front syllables number) ∙ front_length syllables number p.within

  pub starts_same : length new_starts ≡ length starts
  starts_same =
      ap length p.starts_put ∙ length-append (spelled_starts (spelled_front syllables number)) (drop number starts)
      ∙ (omega (arith, p.within, r.starts_fit, starts_number, length-drop number starts))

  -- all are written
  pub filled_all : length syllables ≤ number → SyllablesPut syllables (lists values starts) (lists new_values new_starts)
  filled_all end =
      let whole : take number syllables ≡ syllables = take_all number syllables end in
      let same : number ≡ length syllables = omega (arith, p.within) in
      record {
        values = p.values_put.put ∙ rw (zero-add, whole);
        starts = p.starts_put ∙ rw (whole, same);
      }

  module _ (next : number < length syllables) (d : ℕ) where
    fits : length (joined (spelled_front syllables number)) + length (spelled_by (get_or syllables number d)) ≤ length values
    fits = omega (arith, size_more syllables number d next, front_fits (number + 1))

    -- there is room for the next syllable
    pub filled_room : SyllableRoom (get_or syllables number d) number at new_values new_starts
    filled_room =
        record {
          start_fits = omega (arith, r.starts_fit, starts_same);
          values_fit = omega (arith, fits, values_length, p.values_put.behind_it);
          small = omega (arith, p.small, r.short);
        }

    -- one syllable more
    pub filled_more : (last_values last_starts : List ℕ) (behind : ℕ)
        → SyllablePut (get_or syllables number d) number at (lists new_values new_starts) (lists last_values last_starts) behind
        → Filled syllables values starts last_values last_starts behind (number + 1)
    filled_more last_values last_starts behind q =
        let place : at ≡ length (joined (spelled_front syllables number)) = omega (arith, p.values_put.behind_it) in
        record {
          within = omega arith;
          values_put =
              rw (values_more syllables number d next)
              (put_behind values new_values 0 (joined (spelled_front syllables number)) at p.values_put last_values (spelled_by (get_or syllables number d)) behind (omega (arith, fits)) q.values);
          starts_put =
              q.start ∙ ap (λ (l : List ℕ). set l number at) p.starts_put
              ∙ ap (λ (l : List ℕ). set (spelled_starts (spelled_front syllables number) ++ l) number at) (drop-cons starts number 0 (let f = r.starts_fit in omega arith))
              ∙ set_at (spelled_starts (spelled_front syllables number)) (get_or starts number 0) (drop (suc number) starts) at number starts_number
              ∙ rw (places_more syllables number d next, ← place, add-one) (sym (append_snoc (spelled_starts (spelled_front syllables number)) at (drop (suc number) starts)));
          small = omega (arith, p.small, q.values.behind_it, by_small (get_or syllables number d));
        }
