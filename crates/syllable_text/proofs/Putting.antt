-- A part put to an output piece by piece: what stands there is the pieces so far, one behind the other, and nothing else has changed.
-- Assumes nothing.
use mathlib.Core.Path.{◌≡◌, refl, ap, sym, subst, ◌∙◌}
use mathlib.Core.List.{List, [], ◌∷◌, ◌++◌, append_assoc, append-nil}
use Prim.Native.Nat.{ℕ, suc, ◌+◌, ◌≤◌, ◌<◌}
use native.Mathlib.Numerals.{add-one}
use native.Mathlib.Omega.{arith}
use lib.ListN.{length, take, drop, set, length-append, length-drop}
use lib.Seq.{length-take-le, take_at, drop_at, drop-drop, set_split, append_snoc}
use Rattle.std.specs.List.{concat}
use Rattle.syllable_text.specs.Part.{overwritten, PartPut}

-- values behind values
overwritten_more : (before : List ℕ) (at : ℕ) (values more : List ℕ) → at + length values + length more ≤ length before
    → overwritten (overwritten before at values) (at + length values) more ≡ overwritten before at (values ++ more)
overwritten_more before at values more fits =
    let front : List ℕ = take at before ++ values in
    let front_length : length front ≡ at + length values =
    length-append (take at before) values ∙ ap (λ (n : ℕ). n + length values) (length-take-le at before (omega arith)) in
    let behind : drop (at + length values + length more) (front ++ drop (at + length values) before) ≡ drop (at + length (values ++ more)) before =
    sym (drop-drop (length more) (at + length values) (front ++ drop (at + length values) before))
    ∙ ap (drop (length more)) (drop_at front (drop (at + length values) before) (at + length values) front_length)
    ∙ drop-drop (length more) (at + length values) before
    ∙ ap (λ (n : ℕ). drop n before) (let e : at + length values + length more ≡ at + length (values ++ more) = omega (arith, length-append values more) in e) in
    rw (take_at front (drop (at + length values) before) (at + length values) front_length, behind, append_assoc (take at before) values more)

-- an output is as long as before
overwritten_length : (before : List ℕ) (at : ℕ) (values : List ℕ) → at + length values ≤ length before
    → length (overwritten before at values) ≡ length before
overwritten_length before at values fits =
    omega (
      arith,
      length-append (take at before ++ values) (drop (at + length values) before),
      length-append (take at before) values,
      length-take-le at before (omega arith),
      length-drop (at + length values) before,
    )

pub put_length : (before after : List ℕ) (at : ℕ) (values : List ℕ) (behind : ℕ) → PartPut before after at values behind → at + length values ≤ length before
    → length after ≡ length before
put_length before after at values behind p fits = ap length p.put ∙ overwritten_length before at values fits

-- one value, stored
put_first : (before : List ℕ) (at value : ℕ) → at < length before → PartPut before (set before at value) at (value ∷ []) (at + 1)
put_first before at value inside = record {
  put = rw add-one (set_split before at value inside ∙ sym (append_snoc (take at before) value (drop (suc at) before)));
  behind_it = refl;
}

-- a part behind what is put
pub put_behind : (before between : List ℕ) (at : ℕ) (values : List ℕ) (middle : ℕ) → PartPut before between at values middle
    → (after more : List ℕ) (behind : ℕ) → at + length values + length more ≤ length before → PartPut between after middle more behind
    → PartPut before after at (values ++ more) behind
put_behind before between at values middle p after more behind fits q = record {
  put = q.put ∙ rw (p.put, p.behind_it) (overwritten_more before at values more fits);
  behind_it = omega (arith, q.behind_it, p.behind_it, length-append values more);
}

-- what is put so far, and with the texts that are left it is the part
pub record TextsPut (before output : List ℕ) (at : ℕ) (part : List ℕ) (texts : List (List ℕ)) (behind : ℕ) : Type 0 where
  pub done : List ℕ
  pub put : PartPut before output at done behind
  pub joined : done ++ concat texts ≡ part

module _ (before : List ℕ) (at : ℕ) (part : List ℕ) (fits : at + length part ≤ length before) where
  -- the head is put
  pub texts_none : (head : ℕ) (texts : List (List ℕ)) → head ∷ concat texts ≡ part → TextsPut before (set before at head) at part texts (at + 1)
  texts_none head texts e =
      let inside : at < length before = omega (arith, ap length e) in
      record { done = head ∷ []; put = put_first before at head inside; joined = e }

  module _ (output : List ℕ) (behind : ℕ) where
    -- all are put
    pub texts_all : TextsPut before output at part [] behind → PartPut before output at part behind
    texts_all p = subst (λ (values : List ℕ). PartPut before output at values behind) (sym (append-nil p.done) ∙ p.joined) p.put

    module _ (value : List ℕ) (texts : List (List ℕ)) (p : TextsPut before output at part (value ∷ texts) behind) (text : List ℕ) (is : text ≡ value) where
      joined_next : (p.done ++ text) ++ concat texts ≡ part
      joined_next = rw is (append_assoc p.done value (concat texts) ∙ p.joined)

      room : at + length p.done + length text ≤ length before
      room = omega (arith, fits, ap length joined_next, length-append (p.done ++ text) (concat texts), length-append p.done text)

      -- there is room for the next text
      pub texts_room : behind + length text ≤ length output
      texts_room = omega (arith, room, put_length before output at p.done behind p.put (omega (arith, room)), p.put.behind_it)

      -- one text more
      pub texts_more : (after : List ℕ) (end : ℕ) → PartPut output after behind text end → TextsPut before after at part texts end
      texts_more after end q = record {
        done = p.done ++ text;
        put = put_behind before output at p.done behind p.put after text end room q;
        joined = joined_next;
      }
