-- The two readings of a buffer agree: `entries` finds the entries es exactly where the buffer is the records of es and then zeros.
-- Assumes nothing.
use mathlib.Core.Path.{◌≡◌, refl, sym, ap, subst, ◌∙◌}
use mathlib.Core.Bool.{Bool, true, ◌&&◌}
use mathlib.Core.List.{List, [], ◌∷◌, ◌++◌, append_assoc, append-nil}
use Prim.Native.Nat.{ℕ, zero, suc, ◌+◌, ◌≤◌, ◌<◌}
use native.Mathlib.Nat.{not-suc-le-zero, le_of_suc-le-suc, add-zero}
use native.Mathlib.Omega.{arith}
use borrow.Author.Tests.{eq-eqb, ne_eqb, le-leb, leb-true, eqb-true}
use lib.Dec.{T, eqb, leb}
use lib.ListN.{length, get_or, drop, length-append}
use lib.Seq.{get_or-drop, append_snoc}
use Rattle.letters.specs.Choice.{pick}
use Rattle.letters.proofs.Tests.{is_true, pick_true, pick_false, on_pick}
use Rattle.formula.proofs.Lists.{both, both_left, both_right}
use Rattle.entries.specs.Limits.{book_limit, head_size}
use Rattle.entries.specs.Readable.{is_readable}
use Rattle.entries.specs.Entries.{Entry, word_at, entry_at, is_framed, is_fresh, may_follow, Entries, book, wrong, zero_tail, entries_from, entries, entries_from_within, entries_within, may_follow_within}
use Rattle.entries.specs.Book.{zeros, record_bytes, records, size, end_of, GoodEntry, GoodAfter, IsBook, Opened}
use Rattle.entries.proofs.Tests.{of_readable, to_readable}
use Rattle.entries.proofs.Bytes.{Bytes, readable_within}
use Rattle.entries.proofs.Records.{Framed, framed_true, framed_is, length_word, cut, Read, read_back, records_append, end_append, length_record}

pub good_snoc : (at : ℕ) (seen es : List Entry) (e : Entry) → GoodAfter at seen es → e.start ≡ end_of at es → GoodEntry e → T (is_fresh (seen ++ es) e)
    → GoodAfter at seen (es ++ (e ∷ []))
good_snoc at seen [] e g s ok m = (s, ok, subst (λ (l : List Entry). T (is_fresh l e)) (append-nil seen) m, tt)
good_snoc at seen (x ∷ es) e g s ok m =
    (g.0, g.1, g.2, good_snoc (at + size x) (seen ++ (x ∷ [])) es e g.3 s ok (subst (λ (l : List Entry). T (is_fresh l e)) (sym (append_snoc seen x es)) m))

-- the entries read up to a place
pub record Upto (b : List ℕ) (at : ℕ) (es : List Entry) : Type 0 where
  pub bytes : b ≡ records es ++ drop at b
  pub good : GoodAfter 0 [] es
  pub end : end_of 0 es ≡ at

pub upto_start : (b : List ℕ) → Upto b 0 []
upto_start b = record { bytes = refl; good = tt; end = refl }

-- what stands in a frame, with a readable word, can be held
entry_good : (b : List ℕ) (at : ℕ) → Bytes b → Framed b at → T (is_readable (word_at b at)) → GoodEntry (entry_at b at)
entry_good b at small f t =
    record {
      some = subst (λ (m : ℕ). 1 ≤ m) (sym (length_word b at f.room)) f.some;
      readable = of_readable (word_at b at) t;
      stock = omega (arith, small (at + 3), small (at + 4), small (at + 5), small (at + 6));
    }

follow_readable : (es : List Entry) (e : Entry) → T (may_follow es e) → T (is_readable e.word)
unfolding may_follow_within
follow_readable es e t = both_left (is_readable e.word) _ t

follow_fresh : (es : List Entry) (e : Entry) → T (may_follow es e) → T (is_fresh es e)
unfolding may_follow_within
follow_fresh es e t = both_right (is_readable e.word) _ t

pub may_follow_lem : (es : List Entry) (e : Entry) → GoodEntry e → T (is_fresh es e) → T (may_follow es e)
unfolding may_follow_within
may_follow_lem es e g t = both (is_readable e.word) _ (to_readable e.word g.readable) t

pub upto_next : (b : List ℕ) (at : ℕ) (es : List Entry) → Bytes b → Upto b at es → T (is_framed b at) → T (may_follow es (entry_at b at))
    → Upto b (at + head_size + get_or b (at + 2) 0) (es ++ (entry_at b at ∷ []))
upto_next b at es small u t m =
    let f = framed_true b at t in
    let e = entry_at b at in
    record {
      bytes =
          u.bytes ∙ ap (λ (l : List ℕ). records es ++ l) (cut b at small f)
          ∙ sym (append_assoc (records es) (record_bytes e) (drop (at + head_size + get_or b (at + 2) 0) b))
          ∙ ap (λ (l : List ℕ). records es ++ l ++ drop (at + head_size + get_or b (at + 2) 0) b) (sym (append-nil (record_bytes e)))
          ∙ ap (λ (l : List ℕ). l ++ drop (at + head_size + get_or b (at + 2) 0) b) (sym (records_append es (e ∷ [])));
      good = good_snoc 0 [] es e u.good (sym u.end) (entry_good b at small f (follow_readable es e m)) (follow_fresh es e m);
      end = end_append 0 es e ∙ omega (arith, u.end, length_word b at f.room);
    }

-- a list of entries as the answer says, and whether the rest of the buffer is zeros
abbrev pub Sound : List ℕ → Entries → Type 0
Sound b (book es p) = IsBook b es × (p ≡ end_of 0 es)
Sound b (wrong p) = Unit {0}

sound_pick : (b : List ℕ) (t : Bool) (x y : Entries) → (T t → Sound b x) → Sound b y → Sound b (pick t x y)
sound_pick b t x y f g = on_pick (Sound b) t x y f (λ _. g)

zeros_cons : (x : ℕ) (l : List ℕ) → x ≡ 0 → (b : List ℕ) (pre : List ℕ) → b ≡ pre ++ (x ∷ l) → b ≡ (pre ++ (0 ∷ [])) ++ l
zeros_cons x l e b pre q = q ∙ ap (λ (y : ℕ). pre ++ (y ∷ l)) e ∙ sym (append_snoc pre 0 l)

replicate_snoc : (n : ℕ) → zeros n ++ (0 ∷ []) ≡ zeros (suc n)
replicate_snoc zero = refl
replicate_snoc (suc n) = ap (λ (l : List ℕ). 0 ∷ l) (replicate_snoc n)

-- zeros passed one by one
sound_tail : (b : List ℕ) (es : List Entry) (l : List ℕ) (p n at : ℕ) → length b ≤ book_limit → GoodAfter 0 [] es → at ≡ end_of 0 es
    → b ≡ (records es ++ zeros n) ++ l → Sound b (zero_tail l p (book es at))
unfolding zero_tail
sound_tail b es [] p n at s g e q = (record { short = s; pad = n; written = q ∙ append-nil (records es ++ zeros n); good = g }, e)
sound_tail b es (x ∷ l) p n at s g e q =
    sound_pick b (eqb x 0) _ _
    (λ t. sound_tail b es l (suc p) (suc n) at s g e
    (zeros_cons x l (eqb-true x 0 (is_true (eqb x 0) t)) b (records es ++ zeros n) q
    ∙ ap (λ (m : List ℕ). m ++ l) (append_assoc (records es) (zeros n) (0 ∷ []) ∙ ap (λ (m : List ℕ). records es ++ m) (replicate_snoc n))))
    tt

sound_from : (k : ℕ) (b : List ℕ) (at : ℕ) (es : List Entry) → Bytes b → length b ≤ book_limit → Upto b at es → Sound b (entries_from k b at es)
unfolding entries_from_within
sound_from zero b at es small s u = tt
sound_from (suc k) b at es small s u =
    sound_pick b (eqb (get_or b at 0) 0) _ _
    (λ t. sound_tail b es (drop at b) at 0 at s u.good (sym u.end) (u.bytes ∙ ap (λ (l : List ℕ). l ++ drop at b) (sym (append-nil (records es)))))
    (sound_pick b (is_framed b at && may_follow es (entry_at b at)) _ _
    (λ t. sound_from k b (at + head_size + get_or b (at + 2) 0) (es ++ (entry_at b at ∷ [])) small s
    (upto_next b at es small u (both_left (is_framed b at) _ t) (both_right (is_framed b at) _ t)))
    tt)

-- what `entries` finds is a book, and the place is its end
pub sound : (b : List ℕ) → Bytes b → Sound b (entries b)
unfolding entries_within
sound b small =
    sound_pick b (leb (length b) book_limit) _ _ (λ t. sound_from (suc (length b)) b 0 [] small (leb-true (length b) book_limit (is_true (leb (length b) book_limit) t)) (upto_start b)) tt

pub tail_zeros : (n p : ℕ) (e : Entries) → zero_tail (zeros n) p e ≡ e
unfolding zero_tail pick
tail_zeros zero p e = refl
tail_zeros (suc n) p e = tail_zeros n (suc p) e

-- where the record of a good entry stands, it is read
pub read_good : (b : List ℕ) (at : ℕ) (e : Entry) (rest : List ℕ) → drop at b ≡ record_bytes e ++ rest → e.start ≡ at → GoodEntry e → Read b at e rest
read_good b at e rest q s g =
    read_back b at e rest q s g.some g.readable.admissible.short g.stock (λ k h. (readable_within e.word g.readable k h).0)

pub zeros_first : (b : List ℕ) (at n : ℕ) → drop at b ≡ zeros n → eqb (get_or b at 0) 0 ≡ true
zeros_first b at n q =
    eq-eqb (get_or b at 0) 0 (ap (λ (k : ℕ). get_or b k 0) (sym (add-zero at)) ∙ sym (get_or-drop at b 0 0) ∙ ap (λ (l : List ℕ). get_or l 0 0) q ∙ first n)
  where
    first : (n : ℕ) → get_or (zeros n) 0 0 ≡ 0
    first zero = refl
    first (suc n) = refl

complete_from : (k : ℕ) (b : List ℕ) (at : ℕ) (seen rest : List Entry) (n : ℕ) → drop at b ≡ records rest ++ zeros n → GoodAfter at seen rest → length rest < k
    → entries_from k b at seen ≡ book (seen ++ rest) (end_of at rest)
unfolding entries_from_within
complete_from zero b at seen rest n q g h = absurd (not-suc-le-zero h)
complete_from (suc k) b at seen [] n q g h =
    pick_true (eqb (get_or b at 0) 0) _ _ (zeros_first b at n q) ∙ ap (λ (l : List ℕ). zero_tail l at (book seen at)) q ∙ tail_zeros n at (book seen at)
    ∙ ap (λ (l : List Entry). book l at) (sym (append-nil seen))
complete_from (suc k) b at seen (e ∷ rest) n q g h =
    let r : Read b at e (records rest ++ zeros n) = read_good b at e (records rest ++ zeros n) (q ∙ append_assoc (record_bytes e) (records rest) (zeros n)) g.0 g.1 in
    let next : at + head_size + get_or b (at + 2) 0 ≡ at + size e = omega (arith, r.count) in
    pick_false (eqb (get_or b at 0) 0) _ _ (ne_eqb (get_or b at 0) 0 (λ e. let z : ⊥ = omega (arith, r.frame.first) in z))
    ∙ pick_true (is_framed b at && may_follow seen (entry_at b at)) _ _
    (is_true _
    (both (is_framed b at) _ (framed_is b at r.frame) (subst (λ (x : Entry). T (may_follow seen x)) (sym r.entry) (may_follow_lem seen e g.1 g.2))))
    ∙ ap (λ (x : Entry). entries_from k b (at + head_size + get_or b (at + 2) 0) (seen ++ (x ∷ []))) r.entry
    ∙ ap (λ (p : ℕ). entries_from k b p (seen ++ (e ∷ []))) next
    ∙ complete_from k b (at + size e) (seen ++ (e ∷ [])) rest n (subst (λ (p : ℕ). drop p b ≡ records rest ++ zeros n) next r.left) g.3 (le_of_suc-le-suc h)
    ∙ ap (λ (l : List Entry). book l (end_of (at + size e) rest)) (append_snoc seen e rest)

pub count_records : (es : List Entry) → length es ≤ length (records es)
count_records [] = omega arith
count_records (e ∷ es) = omega (arith, length-append (record_bytes e) (records es), length_record e, count_records es)

-- a book is read as its entries
pub complete : (b : List ℕ) (es : List Entry) → IsBook b es → entries b ≡ book es (end_of 0 es)
unfolding entries_within
complete b es k =
    let l : length es ≤ length b = omega (arith, count_records es, ap length k.written, length-append (records es) (zeros k.pad)) in
    pick_true (leb (length b) book_limit) _ _ (le-leb (length b) book_limit k.short)
    ∙ complete_from (suc (length b)) b 0 [] es k.pad k.written k.good (omega arith)

-- a buffer is a book of at most one list of entries
pub only : (b : List ℕ) (es fs : List Entry) → IsBook b es → IsBook b fs → es ≡ fs
only b es fs k h = list_of (sym (complete b es k) ∙ complete b fs h)
  where
    list_of : book es (end_of 0 es) ≡ book fs (end_of 0 fs) → es ≡ fs
    list_of e = cc

-- so `entries` says what a buffer that is a book holds
pub opened_is : (b : List ℕ) (free : ℕ) (o : Opened b free) → entries b ≡ book o.list free
opened_is b free o = complete b o.list o.is_book ∙ ap (book o.list) (sym o.end)

-- and a buffer that is read as a book is one
pub is_opened : (b : List ℕ) (es : List Entry) (free : ℕ) → Bytes b → entries b ≡ book es free → Opened b free
is_opened b es free small e =
    let s : Sound b (book es free) = subst (Sound b) e (sound b small) in
    record { list = es; is_book = s.0; end = s.1 }
