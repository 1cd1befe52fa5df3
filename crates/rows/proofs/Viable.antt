-- One row at most gives a word, and a word is viable exactly as long as `run` keeps on: what is kept can always be finished, and a
-- refusal stays a refusal whatever follows. Assumes nothing.
use mathlib.Core.Path.{◌≡◌, ap, subst, sym, ◌∙◌}
use mathlib.Core.List.{List, [], ◌∷◌, ◌++◌, append_assoc, reverse, reverse_aux, reverse-reverse}
use mathlib.Core.Option.{Option, none, some, some-injective, none-ne-some}
use Prim.Native.Nat.{ℕ, suc, ◌≤◌, ◌<◌}
use native.Mathlib.Omega.{arith}
use lib.Dec.{T}
use lib.ListN.{length, get_or, take, drop, take-append-drop}
use lib.Seq.{take-suc, take-take}
use Rattle.formula.specs.Syllable.{Final, no_final, plain, plain_pair, stacked, kinzi, great_sa, carries_marks, carries_final, bare, is_closed}
use Rattle.formula.specs.Row.{Row, is_row_after, join_after, join, IsRow, Gives, Viable, LongestViable}
use Rattle.rows.specs.Machine.{end_of, step, and_then, run}
use Rattle.rows.proofs.Sound.{RunOut, run_out, row_of_lem, join_of}
use Rattle.rows.proofs.Complete.{complete, run_append, first}

-- the row of a word that is one is what is kept
pub read_back : (r : Row) (w : List ℕ) → Gives r w → run w [] ≡ some (reverse r)
read_back r w g = ap (λ (l : List ℕ). run l []) (sym g.joined) ∙ complete r g.is_row

-- joining is injective on rows: only one row gives a word
pub only_row : (r s : Row) (w : List ℕ) → Gives r w → Gives s w → r ≡ s
only_row r s w g h =
    let e : reverse r ≡ reverse s = some-injective (reverse r) (reverse s) (sym (read_back r w g) ∙ read_back s w h) in
    sym (reverse-reverse r) ∙ ap reverse e ∙ reverse-reverse s

pub join_injective : (r s : Row) → IsRow r → IsRow s → join r ≡ join s → r ≡ s
join_injective r s p q e =
    only_row r s (join s) (record { is_row = p; joined = e }) (record { is_row = q; joined = search })

row_closed : (r a : Row) → T (is_row_after (end_of a) r) → T (is_closed (end_of (reverse_aux r a)))
row_closed [] a q = q
row_closed (s ∷ r) a q = row_closed r (s ∷ a) (first (end_of a) s r q).rest

-- what is kept ends in a final that waits: the word is no row
pub unfinished : (w : List ℕ) (a : Row) → run w [] ≡ some a → (T (is_closed (end_of a)) → ⊥) → (r : Row) → Gives r w → ⊥
unfinished w a e n r g =
    let p : reverse r ≡ a = some-injective (reverse r) a (sym (read_back r w g) ∙ e) in
    n (subst (λ (b : Row). T (is_closed (end_of b))) p (row_closed r [] g.is_row))

-- each thing that is kept can be finished
abbrev finish : Final → Row
finish no_final = []
finish (plain c) = []
finish (plain_pair c d) = []
finish (stacked c) = bare 0x1000 ∷ []
finish kinzi = bare 0x1000 ∷ []
finish great_sa = bare 0x101E ∷ []

finished : (f : Final) → T (is_row_after f (finish f))
unfolding carries_marks carries_final
finished no_final = tt
finished (plain c) = tt
finished (plain_pair c d) = tt
finished (stacked c) = tt
finished kinzi = tt
finished great_sa = tt

pub alive : (w : List ℕ) (a : Row) → run w [] ≡ some a → Viable w
alive w a e =
    let q : RunOut [] w (some a) = subst (RunOut [] w) e (run_out w [] tt) in
    let r : Row = finish (end_of a) in
    record {
      continuation = join_after (end_of a) r;
      by = reverse_aux a r;
      gives =
          record {
            is_row = row_of_lem a r q.0 (finished (end_of a));
            joined = join_of a r ∙ ap (λ (l : List ℕ). l ++ join_after (end_of a) r) q.1;
          };
    }

pub dead : (w : List ℕ) → run w [] ≡ none → Viable w → ⊥
dead w e v =
    none-ne-some (reverse v.by)
    (sym (ap (λ (o : Option Row). and_then o (run v.continuation)) e) ∙ sym (run_append w v.continuation [])
    ∙ read_back v.by (w ++ v.continuation) v.gives)

-- a beginning of what is viable is viable
pub viable_shorter : (u t : List ℕ) → Viable (u ++ t) → Viable u
viable_shorter u t v =
    record {
      continuation = t ++ v.continuation;
      by = v.by;
      gives = record { is_row = v.gives.is_row; joined = v.gives.joined ∙ append_assoc u t v.continuation };
    }

pub viable_take : (w : List ℕ) (p q : ℕ) → p ≤ q → Viable (take q w) → Viable (take p w)
viable_take w p q h v =
    viable_shorter (take p w) (drop p (take q w))
    (subst Viable (sym (ap (λ (l : List ℕ). l ++ drop p (take q w)) (sym (take-take p q w h)) ∙ take-append-drop p (take q w))) v)

-- one value more
pub run_suc : (w : List ℕ) (p : ℕ) (a : Row) → p < length w → run (take p w) [] ≡ some a → run (take (suc p) w) [] ≡ and_then (step a (get_or w p 0)) (run [])
run_suc w p a l e =
    ap (λ (u : List ℕ). run u []) (take-suc w p 0 l) ∙ run_append (take p w) (get_or w p 0 ∷ []) []
    ∙ ap (λ (o : Option Row). and_then o (run (get_or w p 0 ∷ []))) e

pub goes_on : (w : List ℕ) (p : ℕ) (a b : Row) → p < length w → run (take p w) [] ≡ some a → step a (get_or w p 0) ≡ some b
    → run (take (suc p) w) [] ≡ some b
goes_on w p a b l e s = run_suc w p a l e ∙ ap (λ (o : Option Row). and_then o (run [])) s

-- the value at p is refused: no longer beginning is viable
pub stops : (w : List ℕ) (p : ℕ) (a : Row) → p < length w → run (take p w) [] ≡ some a → step a (get_or w p 0) ≡ none
    → (q : ℕ) → p < q → Viable (take q w) → ⊥
stops w p a l e s q h v = dead (take (suc p) w) (run_suc w p a l e ∙ ap (λ (o : Option Row). and_then o (run [])) s) (viable_take w (suc p) q h v)

-- so p is the place of the longest
pub longest : (w : List ℕ) (p : ℕ) (a : Row) → p < length w → run (take p w) [] ≡ some a → step a (get_or w p 0) ≡ none → LongestViable w p
longest w p a l e s =
    record {
      within = omega arith;
      viable = alive (take p w) a e;
      longest = λ q h _ v. stops w p a l e s q h v;
    }
