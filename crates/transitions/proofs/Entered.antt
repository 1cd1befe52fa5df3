-- The tables are the transitions: values of one class do the same, which is computed at each value of the chart and each state.
-- Assumes nothing.
use mathlib.Core.Path.{◌≡◌, refl, ap, sym, subst, ◌∙◌}
use mathlib.Core.Bool.{Bool, not, ◌&&◌, ◌||◌}
use mathlib.Core.List.{List, [], ◌∷◌}
use mathlib.Core.Option.{Option, none, some}
use Prim.Native.Nat.{ℕ, zero, suc, ◌+◌, ◌*◌, ◌/◌, ◌%◌, ◌^◌, ◌≤◌, ◌<◌}
use native.Mathlib.Decide.{dec_lt}
use native.Mathlib.Nat.{le_of_suc-le-suc, not-suc-le-zero}
use native.Mathlib.Omega.{arith}
use lib.Dec.{T, eqb, eqb→eq, ltb, ltb→lt}
use lib.ListN.{length, get_or}
use borrow.Author.Tests.{ne_eqb}
use Rattle.letters.specs.Choice.{pick}
use Rattle.letters.specs.Letters.{kind_of, is_admitted}
use Rattle.letters.specs.declared.kind.Kind.{Kind}
use Rattle.letters.specs.declared.kind.Kind.TheVariants.{Foreign}
use Rattle.letters.proofs.Arms.{in_arms, InNone, in_none}
use Rattle.letters.proofs.Counted.{on_chart, by_chart, unadmitted_foreign, below_foreign, above_foreign}
use Rattle.letters.proofs.Table.{up_to, below}
use Rattle.letters.proofs.Tests.{or_second, or_not, same, same_equal}
use Rattle.formula.proofs.Lists.{both_left, both_right}
use Rattle.formula.specs.Syllable.{carries_marks, carries_final}
use Rattle.formula.specs.Row.{Row}
use Rattle.rows.specs.Machine.{end_of, KeptOk, is_not_great_sa, step}
use Rattle.states.specs.State.{State, state_of, state_number, state_at, state_count}
use Rattle.states.specs.Transition.{Transition, refuse, to, transition, bit_of, Makes, Agrees}
use Rattle.states.proofs.Tested.{numbered, state_small}
use Rattle.states.proofs.Lengths.{small_change}
use Rattle.states.proofs.Followed.{followed}
use Rattle.transitions.specs.Tables.{begins_by, entry, amount_of, entry_of, gain_of, class_in, class_of, examples, example_in, rules_at, rules_in, rules_of, next_by, gain_by}

-- what is so of every value of the chart and of all foreign values
chart_or_foreign : (P : ℕ → Type 0) → ((x : ℕ) → 0x1000 ≤ x → x ≤ 0x104F → P x) → ((x : ℕ) → kind_of x ≡ Foreign → P x) → (x : ℕ) → P x
chart_or_foreign P f g x = by_chart x (λ l. g x (below_foreign x l)) (λ h. g x (above_foreign x h)) (f x)

foreign_class : (x : ℕ) → kind_of x ≡ Foreign → class_of x ≡ 3
unfolding class_of
foreign_class x e = ap (λ (k : Kind). class_in k x) e

foreign_entry : (q x : ℕ) → kind_of x ≡ Foreign → entry_of q x ≡ 96
unfolding entry_of
foreign_entry q x e = ap (λ (k : Kind). entry (transition k x (state_at q))) e

-- a value that no arm has is foreign, where the arms have every admitted value
pub none_foreign : (arms : List (List ℕ)) → T (up_to (λ (i : ℕ). in_arms arms (0x1000 + i) || not (is_admitted (0x1000 + i))) 80) → (x : ℕ)
    → InNone arms x → class_of x ≡ 3
none_foreign arms t x n =
    chart_or_foreign (λ (y : ℕ). InNone arms y → class_of y ≡ 3)
    (λ y l h m. foreign_class y
    (unadmitted_foreign y
    (or_not (in_arms arms y) (is_admitted y) (on_chart (λ (z : ℕ). in_arms arms z || not (is_admitted z)) t y l h) (in_none arms y m))))
    (λ y e m. foreign_class y e) x n

beyond : (l : List ℕ) (k : ℕ) → length l ≤ k → get_or l k 0 ≡ 0
beyond [] k h = refl
beyond (y ∷ l) zero h = absurd (not-suc-le-zero h)
beyond (y ∷ l) (suc k) h = beyond l k (le_of_suc-le-suc h)

-- a class that no arm has is none of those that have an example, where the arms have every one of these
no_example : (arms : List (List ℕ)) → T (up_to (in_arms arms) (length examples)) → (class : ℕ) → InNone arms class → example_in class ≡ 0
no_example arms t class n = go (dec_lt class (length examples))
  where
    go : Dec (class < length examples) → example_in class ≡ 0
    go (yes h) = absurd (subst T (in_none arms class n) (below (in_arms arms) (length examples) t class h))
    go (no h) = beyond examples class (omega arith)

no_rules_at : rules_at 0 ≡ record { picks = 0; outcomes = 96; amounts = 0 }
unfolding pick
no_rules_at = refl

pub no_rules : (arms : List (List ℕ)) → T (up_to (in_arms arms) (length examples)) → (class : ℕ) → InNone arms class
    → rules_in class ≡ record { picks = 0; outcomes = 96; amounts = 0 }
unfolding rules_in
no_rules arms t class n = ap rules_at (no_example arms t class n) ∙ no_rules_at

-- the rules of a class say what its example does at each state
abbrev rule_at : ℕ → ℕ → Bool
rule_at class q =
    eqb (next_by q (rules_in class)) (entry_of q (example_in class))
    && (eqb (entry_of q (example_in class)) 96 || eqb (gain_by q (rules_in class)) (gain_of q (example_in class)))

ruled : (class : ℕ) → class < length examples → (q : ℕ) → q < state_count → T (rule_at class q)
unfolding entry_of gain_of rules_in pick carries_marks carries_final
ruled class l q h =
    below (rule_at class) state_count (below (λ (k : ℕ). up_to (rule_at k) state_count) (length examples) tt class l) q h

-- and every value of the class does the same
abbrev alike_at : ℕ → ℕ → Bool
alike_at x q = eqb (entry_of q (example_in (class_of x))) (entry_of q x) && eqb (gain_of q (example_in (class_of x))) (gain_of q x)

alike_test : ℕ → Bool
alike_test x = ltb (class_of x) (length examples) && up_to (alike_at x) state_count

alike : (x : ℕ) → 0x1000 ≤ x → x ≤ 0x104F → (class_of x < length examples) × ((q : ℕ) → q < state_count → T (alike_at x q))
unfolding alike_test entry_of gain_of class_of pick carries_marks carries_final
alike x l h =
    let t : T (alike_test x) = on_chart alike_test tt x l h in (
      ltb→lt (class_of x) (length examples) (both_left (ltb (class_of x) (length examples)) _ t),
      λ q i. below (alike_at x) state_count (both_right (ltb (class_of x) (length examples)) _ t) q i,
    )

-- so of a value of the chart its rules say what it does
module _ (q x : ℕ) (h : q < state_count) (l : 0x1000 ≤ x) (u : x ≤ 0x104F) where
  abbrev example : ℕ
  example = example_in (class_of x)

  rule : T (rule_at (class_of x) q)
  rule = ruled (class_of x) (alike x l u).0 q h

  same_entry : entry_of q example ≡ entry_of q x
  same_entry = eqb→eq _ _ (both_left (eqb (entry_of q example) (entry_of q x)) _ ((alike x l u).1 q h))

  chart_entry : next_by q (rules_of x) ≡ entry_of q x
  chart_entry = eqb→eq _ _ (both_left (eqb (next_by q (rules_of x)) (entry_of q example)) _ rule) ∙ same_entry

  chart_gain : (entry_of q x ≡ 96 → ⊥) → gain_by q (rules_of x) ≡ gain_of q x
  chart_gain n =
      eqb→eq _ _
      (or_second (eqb (entry_of q example) 96) _ (ne_eqb (entry_of q example) 96 (λ e. n (sym same_entry ∙ e)))
      (both_right (eqb (next_by q (rules_of x)) (entry_of q example)) _ rule))
      ∙ eqb→eq _ _ (both_right (eqb (entry_of q example) (entry_of q x)) _ ((alike x l u).1 q h))

foreign_next : (q x : ℕ) → q < state_count → kind_of x ≡ Foreign → next_by q (rules_of x) ≡ entry_of q x
foreign_next q x h e =
    ap (λ (k : ℕ). next_by q (rules_in k)) (foreign_class x e)
    ∙ eqb→eq _ _ (both_left (eqb (next_by q (rules_in 3)) (entry_of q (example_in 3))) _ (ruled 3 (omega arith) q h))
    ∙ foreign_entry q (example_in 3) (unadmitted_foreign (example_in 3) refl) ∙ sym (foreign_entry q x e)

-- what the rules of a value say at a state is what the value does there
pub next_entry : (q x : ℕ) → q < state_count → next_by q (rules_of x) ≡ entry_of q x
next_entry q x h = chart_or_foreign (λ (y : ℕ). next_by q (rules_of y) ≡ entry_of q y) (λ y l u. chart_entry q y h l u) (λ y e. foreign_next q y h e) x

-- and so is what it adds
pub next_gain : (q x : ℕ) → q < state_count → (entry_of q x ≡ 96 → ⊥) → gain_by q (rules_of x) ≡ gain_of q x
next_gain q x h n =
    chart_or_foreign (λ (y : ℕ). (entry_of q y ≡ 96 → ⊥) → gain_by q (rules_of y) ≡ gain_of q y) (λ y l u m. chart_gain q y h l u m)
    (λ y e m. absurd (m (foreign_entry q y e))) x n

-- what a value that is read says by itself: whether it begins a syllable
tells : ℕ → Bool
tells x = up_to (λ (q : ℕ). eqb (entry_of q x) 96 || same (begins_by x) (eqb (entry_of q x / 32) 2)) state_count

tells_tested : (x : ℕ) → 0x1000 ≤ x → x ≤ 0x104F → T (tells x)
unfolding tells entry_of begins_by pick carries_marks carries_final
tells_tested x l h = on_chart tells tt x l h

pub begins_told : (q x : ℕ) → q < state_count → (entry_of q x ≡ 96 → ⊥) → begins_by x ≡ eqb (entry_of q x / 32) 2
unfolding tells
begins_told q x h n =
    chart_or_foreign (λ (y : ℕ). (entry_of q y ≡ 96 → ⊥) → begins_by y ≡ eqb (entry_of q y / 32) 2)
    (λ y l u m. same_equal (begins_by y) (eqb (entry_of q y / 32) 2)
    (or_second (eqb (entry_of q y) 96) _ (ne_eqb (entry_of q y) 96 m) (told_at y l u)))
    (λ y e m. absurd (m (foreign_entry q y e))) x n
  where
    told_at : (y : ℕ) → 0x1000 ≤ y → y ≤ 0x104F → T (eqb (entry_of q y) 96 || same (begins_by y) (eqb (entry_of q y / 32) 2))
    told_at y l u = below (λ (k : ℕ). eqb (entry_of k y) 96 || same (begins_by y) (eqb (entry_of k y / 32) 2)) state_count (tells_tested y l u) q h

-- what an entry that is no refusal says of the machine's step: the row after it, its state and what was made of the row before
pub record Moves (x e gain : ℕ) (kept : Row) (o : Option Row) : Type 0 where
  pub after : Row
  pub stepped : o ≡ some after
  pub state_is : e % 32 ≡ state_number (state_of after)
  pub makes : Makes x (e / 32) gain kept after
  pub begins_is : begins_by x ≡ eqb (e / 32) 2

pub record Enters (x e gain : ℕ) (kept : Row) (o : Option Row) : Type 0 where
  pub refuses : e ≡ 96 → o ≡ none
  pub moves : (e ≡ 96 → ⊥) → Moves x e gain kept o

enters_by : (x : ℕ) (t : Transition) (e gain : ℕ) (kept : Row) (o : Option Row) → e ≡ entry t → gain ≡ amount_of t * 2 ^ bit_of (kind_of x)
    → ((e ≡ 96 → ⊥) → begins_by x ≡ eqb (e / 32) 2) → Agrees x (bit_of (kind_of x)) t kept o → Enters x e gain kept o
enters_by x refuse e gain kept o q g b a = record { refuses = λ _. a; moves = λ n. absurd (n q) }
enters_by x (to d m s) e gain kept o q g b a =
    let l : d ≤ 2 = small_change a.3 in
    let k : state_number s < state_count = state_small s in
    let r : e % 32 ≡ state_number s = omega arith in
    let p : e / 32 ≡ d = omega arith in
    record {
      refuses = λ z. let y : ⊥ = omega arith in absurd y;
      moves = λ n.
          record {
            after = a.0;
            stepped = a.1;
            state_is = r ∙ ap state_number a.2;
            makes = rw (p, g) a.3;
            begins_is = b n;
          };
    }

pub enters : (x : ℕ) (kept : Row) → KeptOk kept → T (is_not_great_sa (end_of kept)) → (state : ℕ) → state ≡ state_number (state_of kept)
    → Enters x (entry_of state x) (gain_of state x) kept (step kept x)
unfolding entry_of gain_of
enters x kept k n state e =
    let s : state_at state ≡ state_of kept = ap state_at e ∙ numbered (state_of kept) in
    enters_by x (transition (kind_of x) x (state_of kept)) (entry_of state x) (gain_of state x) kept (step kept x)
    (ap (λ (t : State). entry (transition (kind_of x) x t)) s)
    (ap (λ (t : State). amount_of (transition (kind_of x) x t) * 2 ^ bit_of (kind_of x)) s)
    (begins_told state x (let h : state_number (state_of kept) < state_count = state_small (state_of kept) in omega arith)) (followed x kept k n)
