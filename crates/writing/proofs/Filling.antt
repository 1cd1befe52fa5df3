-- The pass that writes: the output begins with the parts of the records so far, and with the parts of what is left they are the whole word.
-- Assumes nothing.
use mathlib.Core.Path.{◌≡◌, refl, ap, sym, ◌∙◌}
use mathlib.Core.List.{List, [], ◌∷◌, ◌++◌, map, append_assoc, append-nil}
use Prim.Native.Nat.{ℕ, zero, suc, ◌+◌, ◌*◌, ◌/◌, ◌%◌, ◌≤◌, ◌<◌}
use native.Mathlib.Nat.{zero-add}
use native.Mathlib.Numerals.{add-one}
use native.Mathlib.Omega.{arith}
use lib.Dec.{T, eqb}
use lib.ListN.{length, get_or, take, drop, length-append, length-drop, drop_of_length-le}
use lib.Seq.{length-take-le, drop-cons}
use Rattle.std.specs.Simd.{first_chunks}
use Rattle.letters.specs.Choice.{pick}
use Rattle.formula.proofs.Lists.{both_left, both_right}
use Rattle.formula.specs.Syllable.{Final, no_final, plain, plain_pair, stacked, kinzi, great_sa, Syllable, syllable, final_of, part}
use Rattle.formula.specs.Row.{join_after, join}
use Rattle.formula.specs.Limits.{record_size}
use Rattle.formula.specs.Record.{link_of, link_place}
use Rattle.syllable_record.specs.Decode.{syllable_of}
use Rattle.syllable_record.specs.Record.{link_admits, is_record, may_follow}
use Rattle.syllable_text.specs.Part.{head_after, part_after, PartPut}
use Rattle.syllable_record.proofs.Decoded.{decoded}
use Rattle.syllable_text.proofs.Putting.{put_length, put_behind}
use Rattle.writing.specs.Records.{records_of, row_of, each_follows, are_records}
use Rattle.writing.specs.Put.{RowFits, RowPut}

-- the part behind a link is the part behind its final
part_after_lem : (f : Final) (s : Syllable) → part_after (link_of f) s ≡ part f s
unfolding part_after head_after pick
part_after_lem no_final (syllable h m v g t) = refl
part_after_lem (plain c) (syllable h m v g t) = refl
part_after_lem (plain_pair c d) (syllable h m v g t) = refl
part_after_lem (stacked c) (syllable h m v g t) = refl
part_after_lem kinzi (syllable h m v g t) = refl
part_after_lem great_sa (syllable h m v g t) = refl

-- the parts of records behind one with the link
abbrev parts_behind : ℕ → List (List ℕ) → List ℕ
parts_behind link [] = []
parts_behind link (next ∷ records) = part_after link (syllable_of next) ++ parts_behind (get_or next link_place 0) records

-- of records that pass the tests, they are the parts of their row
parts_joined : (f : Final) (count : ℕ) (bytes : List ℕ) → count * record_size ≤ length bytes → T (each_follows (link_of f) (first_chunks record_size count bytes))
    → parts_behind (link_of f) (first_chunks record_size count bytes) ≡ join_after f (map syllable_of (first_chunks record_size count bytes))
unfolding may_follow
parts_joined f zero bytes whole t = refl
parts_joined f (suc count) bytes whole t =
    let next = take record_size bytes in
    let rest = first_chunks record_size count (drop record_size bytes) in
    let left = each_follows (get_or next link_place 0) rest in
    let is : T (is_record next) = both_right (link_admits (link_of f) (0x1000 + get_or next 0 0)) (is_record next) (both_left (may_follow (link_of f) next) left t) in
    let linked : link_of (final_of (syllable_of next)) ≡ get_or next link_place 0 = (decoded next (length-take-le record_size bytes (omega arith)) is).linked in
    let behind = parts_joined (final_of (syllable_of next)) count (drop record_size bytes) (omega (arith, length-drop record_size bytes)) (rw linked (both_right (may_follow (link_of f) next) left t)) in
    (λ i. part_after_lem f (syllable_of next) i ++ (rw linked at behind) i)

-- the word of the records is their parts
row_joined : (bytes : List ℕ) → T (are_records 0 bytes) → parts_behind 0 (records_of bytes) ≡ join (row_of bytes)
unfolding are_records records_of row_of
row_joined bytes t =
    parts_joined no_final (length bytes / record_size) bytes (omega arith) (both_right (eqb (length bytes % record_size) 0) (each_follows 0 (records_of bytes)) t)

-- the parts of the first records are no longer than those of all
parts_fewer : (link : ℕ) (records : List (List ℕ)) (few : ℕ) → length (parts_behind link (take few records)) ≤ length (parts_behind link records)
parts_fewer link [] zero = omega arith
parts_fewer link [] (suc few) = omega arith
parts_fewer link (next ∷ records) zero = omega arith
parts_fewer link (next ∷ records) (suc few) =
    omega (
      arith,
      parts_fewer (get_or next link_place 0) records few,
      length-append (part_after link (syllable_of next)) (parts_behind (get_or next link_place 0) (take few records)),
      length-append (part_after link (syllable_of next)) (parts_behind (get_or next link_place 0) records),
    )

-- an output has room for the parts of the records
pub record PartsFit (records : List (List ℕ)) (output : List ℕ) : Type 0 where
  pub room : length (parts_behind 0 records) ≤ length output

-- where there is room for all, there is room for the first of them
pub front_fits : (records : List (List ℕ)) (output : List ℕ) → PartsFit records output → (few : ℕ) → PartsFit (take few records) output
front_fits records output fit few = record { room = omega (arith, fit.room, parts_fewer 0 records few) }

-- at a place of the records: the values so far, at the front of the output, and with the parts from here on they are all parts
pub record Filled (records : List (List ℕ)) (before output : List ℕ) (link count at : ℕ) : Type 0 where
  pub done : List ℕ
  pub put : PartPut before output 0 done count
  pub joined : done ++ parts_behind link (drop at records) ≡ parts_behind 0 records

pub filled_none : (records : List (List ℕ)) (before : List ℕ) → Filled records before before 0 0 0
filled_none records before = record { done = []; put = record { put = refl; behind_it = refl }; joined = refl }

-- the same, where there is room for all parts
pub record FilledWithin (records : List (List ℕ)) (before output : List ℕ) (link count at : ℕ) : Type 0 where
  pub filled : Filled records before output link count at
  pub fit : PartsFit records before

pub within_none : (records : List (List ℕ)) (before : List ℕ) → PartsFit records before → FilledWithin records before before 0 0 0
within_none records before fit = record { filled = filled_none records before; fit = fit }

module _ (bytes before : List ℕ) (fits : RowFits bytes (length before)) (records : List (List ℕ)) (cut : records ≡ records_of bytes) where
  all_parts : parts_behind 0 records ≡ join (row_of bytes)
  all_parts = ap (parts_behind 0) cut ∙ row_joined bytes fits.are_records_lem

  pub parts_fit : PartsFit records before
  parts_fit = record { room = omega (arith, fits.fits, ap length all_parts) }

  -- at the end the values so far are the word
  pub filled_all : (output : List ℕ) (link count at : ℕ) → FilledWithin records before output link count at → length records ≤ at → RowPut bytes before output count
  filled_all output link count at within end =
      let p : Filled records before output link count at = within.filled in
      let all : p.done ≡ join (row_of bytes) =
      sym (append-nil p.done) ∙ ap (λ (rest : List (List ℕ)). p.done ++ parts_behind link rest) (sym (drop_of_length-le records end)) ∙ p.joined ∙ all_parts in
      record {
        put = rw (← all) (p.put.put ∙ rw zero-add);
        counted = omega (arith, p.put.behind_it, ap length all);
      }

module _ (before output : List ℕ) (records : List (List ℕ)) (link count at : ℕ) (within : FilledWithin records before output link count at) where
  so_far : Filled records before output link count at
  so_far = within.filled

  done_fits : length so_far.done ≤ length before
  done_fits = omega (arith, within.fit.room, length-append so_far.done (parts_behind link (drop at records)), ap length so_far.joined)

  -- the output is as long as before
  pub filled_length : length output ≡ length before
  filled_length = put_length before output 0 so_far.done count so_far.put (omega (arith, done_fits))

  module _ (more : at < length records) where
    next : List ℕ
    next = get_or records at []

    rest : List (List ℕ)
    rest = drop (at + 1) records

    joined_next : (so_far.done ++ part_after link (syllable_of next)) ++ parts_behind (get_or next link_place 0) rest ≡ parts_behind 0 records
    unfolding next rest
    joined_next =
        let here : drop at records ≡ next ∷ rest = rw add-one (drop-cons records at [] more) in
        rw append_assoc (ap (λ (left : List (List ℕ)). so_far.done ++ parts_behind link left) (sym here) ∙ so_far.joined)

    -- there is room for the part
    pub filled_room : count + length (part_after link (syllable_of (get_or records at []))) ≤ length output
    unfolding next
    filled_room =
        omega (
          arith,
          within.fit.room,
          filled_length,
          so_far.put.behind_it,
          ap length joined_next,
          length-append (so_far.done ++ part_after link (syllable_of next)) (parts_behind (get_or next link_place 0) rest),
          length-append so_far.done (part_after link (syllable_of next)),
        )

    -- one record more
    pub filled_more : (after : List ℕ) (behind : ℕ) → PartPut output after count (part_after link (syllable_of (get_or records at []))) behind
        → FilledWithin records before after (get_or (get_or records at []) link_place 0) behind (at + 1)
    unfolding next rest
    filled_more after behind q =
        record {
          filled = record {
            done = so_far.done ++ part_after link (syllable_of next);
            put = put_behind before output 0 so_far.done count so_far.put after (part_after link (syllable_of next)) behind (omega (arith, filled_room, filled_length, so_far.put.behind_it)) q;
            joined = joined_next;
          };
          fit = within.fit;
        }
