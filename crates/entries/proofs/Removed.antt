-- Removing a word's record from a book makes the book with that entry removed: one byte of it changes, and no other entry has the word.
-- Assumes nothing.
use mathlib.Core.Path.{◌≡◌, refl, sym, ap, subst, ◌∙◌}
use mathlib.Core.Bool.{Bool, true, false, not, ◌&&◌, ◌||◌}
use mathlib.Core.List.{List, [], ◌∷◌, ◌++◌, map, append_assoc}
use mathlib.Core.Option.{some, none-ne-some}
use Prim.Native.Nat.{ℕ, ◌+◌}
use native.Mathlib.Omega.{arith}
use lib.Dec.{T}
use lib.ListN.{length, set, length-append, length-set}
use lib.Seq.{set_at}
use Rattle.letters.specs.Choice.{pick}
use Rattle.letters.proofs.Tests.{is_false, of_true, or_left, or_right, clash}
use Rattle.formula.proofs.Lists.{both_left, both_right, same_list, same_list_equal}
use Rattle.entries.specs.Entries.{Entry, book, holds, is_fresh, entries}
use Rattle.entries.specs.Book.{zeros, byte_of, mark_of, number_bytes, record_bytes, records, size, end_of, GoodAfter, IsBook, Opened}
use Rattle.entries.specs.Map.{lookup, removed, without}
use Rattle.entries.specs.Change.{with_removed}
use Rattle.entries.proofs.Records.{length_record}
use Rattle.entries.proofs.Agree.{complete}

more_held : (es : List Entry) (w v : List ℕ) → T (holds (without es w) v) → T (holds es v)
unfolding holds without pick
more_held [] w v = λ t. t
more_held (e ∷ es) w v = go (e.live && same_list e.word w) refl (more_held es w v)
  where
    go : (y : Bool) → e.live && same_list e.word w ≡ y → (T (holds (without es w) v) → T (holds es v)) → T (holds (pick y (removed e) e ∷ without es w) v)
        → T ((e.live && same_list e.word v) || holds es v)
    go true q f t = or_right (e.live && same_list e.word v) (holds es v) (f t)
    go false q f t = mono (e.live && same_list e.word v) (holds (without es w) v) (holds es v) f t
      where
        mono : (a b c : Bool) → (T b → T c) → T (a || b) → T (a || c)
        mono true b c f t = tt
        mono false b c f t = f t

without_append : (es : List Entry) (x : Entry) (w : List ℕ) → without (es ++ (x ∷ [])) w ≡ without es w ++ without (x ∷ []) w
unfolding without
without_append [] x w = refl
without_append (e ∷ es) x w = ap (λ (l : List Entry). pick (e.live && same_list e.word w) (removed e) e ∷ l) (without_append es x w)

-- what is fresh after the others is fresh after them with one removed
still_fresh : (es : List Entry) (w : List ℕ) (e : Entry) → T (is_fresh es e) → T (is_fresh (without es w) e)
unfolding is_fresh
still_fresh es w e t = weaker e.live (holds es e.word) (holds (without es w) e.word) (more_held es w e.word) t
  where
    weaker : (l a b : Bool) → (T b → T a) → T (not (l && a)) → T (not (l && b))
    weaker true true true f t = t
    weaker true false true f t = f tt
    weaker true a false f t = tt
    weaker false a b f t = tt

fresh_removed : (es : List Entry) (e : Entry) → T (is_fresh es (removed e))
unfolding is_fresh
fresh_removed es e = tt

pub good_without : (at : ℕ) (seen es : List Entry) (w : List ℕ) → GoodAfter at seen es → GoodAfter at (without seen w) (without es w)
unfolding without pick
good_without at seen [] w g = tt
good_without at seen (e ∷ es) w g =
    go (e.live && same_list e.word w)
    (subst (λ (l : List Entry). GoodAfter (at + size e) l (without es w)) (without_append seen e w) (good_without (at + size e) (seen ++ (e ∷ [])) es w g.3))
  where
    go : (t : Bool) → GoodAfter (at + size e) (without seen w ++ (pick (e.live && same_list e.word w) (removed e) e ∷ [])) (without es w)
        → GoodAfter at (without seen w) (pick (e.live && same_list e.word w) (removed e) e ∷ without es w)
    go t h = two (e.live && same_list e.word w) h
      where
        two : (y : Bool) → GoodAfter (at + size e) (without seen w ++ (pick y (removed e) e ∷ [])) (without es w)
            → GoodAfter at (without seen w) (pick y (removed e) e ∷ without es w)
        two true h =
            (g.0, record { some = g.1.some; readable = g.1.readable; stock = g.1.stock }, fresh_removed (without seen w) e, h)
        two false h = (g.0, g.1, still_fresh seen w e g.2, h)

pub held_last : (seen : List Entry) (e : Entry) (w : List ℕ) → T (e.live && same_list e.word w) → T (holds (seen ++ (e ∷ [])) w)
unfolding holds
held_last [] e w t = or_left (e.live && same_list e.word w) false t
held_last (x ∷ seen) e w t = or_right (x.live && same_list x.word w) (holds (seen ++ (e ∷ [])) w) (held_last seen e w t)

held_more : (seen : List Entry) (e : Entry) (w : List ℕ) → T (holds seen w) → T (holds (seen ++ (e ∷ [])) w)
unfolding holds
held_more [] e w = λ t. absurd t
held_more (x ∷ seen) e w = go (x.live && same_list x.word w) (held_more seen e w)
  where
    go : (a : Bool) → (T (holds seen w) → T (holds (seen ++ (e ∷ [])) w)) → T (a || holds seen w) → T (a || holds (seen ++ (e ∷ [])) w)
    go true f t = tt
    go false f t = f t

-- a word that is held already is in no later live entry
pub only_once : (at : ℕ) (seen es : List Entry) (w : List ℕ) → T (holds seen w) → GoodAfter at seen es → without es w ≡ es
unfolding without pick is_fresh
only_once at seen [] w h g = refl
only_once at seen (e ∷ es) w h g =
    let n : e.live && same_list e.word w ≡ false =
    is_false (e.live && same_list e.word w)
    (λ t. clash e.live (holds seen e.word) (both_left e.live _ t)
    (subst (λ (l : List ℕ). T (holds seen l)) (sym (same_list_equal e.word w (both_right e.live _ t))) h) g.2) in
    (λ i. pick (n i) (removed e) e ∷ only_once (at + size e) (seen ++ (e ∷ [])) es w (held_more seen e w h) g.3 i)

-- removing changes one byte of the records
pub records_removed : (at : ℕ) (seen es : List Entry) (w pre z : List ℕ) (e : Entry) → length pre ≡ at → GoodAfter at seen es → lookup es w ≡ some e
    → set (pre ++ (records es ++ z)) (e.start + 1) 0x2D ≡ pre ++ (records (without es w) ++ z)
unfolding lookup without pick record_bytes
records_removed at seen [] w pre z e l g = λ q. absurd (none-ne-some e q)
records_removed at seen (x ∷ es) w pre z e l g = go (x.live && same_list x.word w) refl
    (records_removed (at + size x) (seen ++ (x ∷ [])) es w (pre ++ record_bytes x) z e (length-append pre (record_bytes x) ∙ (λ i. l i + length_record x i)) g.3)
  where
    go : (y : Bool) → x.live && same_list x.word w ≡ y
        → (lookup es w ≡ some e → set ((pre ++ record_bytes x) ++ (records es ++ z)) (e.start + 1) 0x2D ≡ (pre ++ record_bytes x) ++ (records (without es w) ++ z))
        → pick y (some x) (lookup es w) ≡ some e
        → set (pre ++ (records (x ∷ es) ++ z)) (e.start + 1) 0x2D ≡ pre ++ (records (pick y (removed x) x ∷ without es w) ++ z)
    go false q f r =
        ap (λ (m : List ℕ). set m (e.start + 1) 0x2D) (ap (λ (m : List ℕ). pre ++ m) (append_assoc (record_bytes x) (records es) z) ∙ sym (append_assoc pre (record_bytes x) (records es ++ z)))
        ∙ f r
        ∙ append_assoc pre (record_bytes x) (records (without es w) ++ z)
        ∙ ap (λ (m : List ℕ). pre ++ m) (sym (append_assoc (record_bytes x) (records (without es w)) z))
    go true q f r =
        let same_entry : x ≡ e = cc in
        let t : T (x.live && same_list x.word w) = of_true (x.live && same_list x.word w) q in
        let place : e.start + 1 ≡ length (pre ++ (0x4D ∷ [])) = omega (arith, ap (λ (y : Entry). y.start) same_entry, g.0, l, length-append pre (0x4D ∷ [])) in
        let body : List ℕ = length x.word ∷ number_bytes x.stock (map byte_of x.word) in
        let rest : without es w ≡ es = only_once (at + size x) (seen ++ (x ∷ [])) es w (held_last seen x w t) g.3 in
        ap (λ (k : ℕ). set (pre ++ (records (x ∷ es) ++ z)) k 0x2D) place
        ∙ ap (λ (m : List ℕ). set m (length (pre ++ (0x4D ∷ []))) 0x2D) (sym (append_assoc pre (0x4D ∷ []) (mark_of x.live ∷ (body ++ records es ++ z))))
        ∙ set_at (pre ++ (0x4D ∷ [])) (mark_of x.live) (body ++ records es ++ z) 0x2D (length (pre ++ (0x4D ∷ []))) refl
        ∙ append_assoc pre (0x4D ∷ []) (0x2D ∷ (body ++ records es ++ z))
        ∙ ap (λ (m : List Entry). pre ++ (records (removed x ∷ m) ++ z)) (sym rest)

end_without : (at : ℕ) (es : List Entry) (w : List ℕ) → end_of at (without es w) ≡ end_of at es
unfolding without pick
end_without at [] w = refl
end_without at (e ∷ es) w = go (e.live && same_list e.word w) ∙ end_without (at + size e) es w
  where
    go : (t : Bool) → end_of (at + size (pick t (removed e) e)) (without es w) ≡ end_of (at + size e) (without es w)
    go true = refl
    go false = refl

module _ (b w : List ℕ) (f : ℕ) (e : Entry) (o : Opened b f) (found : lookup o.list w ≡ some e) where
  pub removed_book : IsBook (with_removed b e.start) (without o.list w)
  unfolding without
  removed_book =
      record {
        short = omega (arith, o.is_book.short, length-set b (e.start + 1) 0x2D);
        pad = o.is_book.pad;
        written =
            ap (λ (m : List ℕ). set m (e.start + 1) 0x2D) o.is_book.written
            ∙ records_removed 0 [] o.list w [] (zeros o.is_book.pad) e refl o.is_book.good found;
        good = good_without 0 [] o.list w o.is_book.good;
      }

  -- the entries after remove are those before it, the word's removed; the first free byte stays
  pub removed_entries : entries (with_removed b e.start) ≡ book (without o.list w) f
  removed_entries =
      complete (with_removed b e.start) (without o.list w) removed_book
      ∙ ap (book (without o.list w)) (end_without 0 o.list w ∙ sym o.end)
