-- The book as a map: what a word looks up after one entry more, and after a word's entry is removed.
-- Assumes nothing.
use mathlib.Core.Path.{◌≡◌, refl, sym, ap, subst, ◌∙◌}
use mathlib.Core.Bool.{Bool, true, false, ◌&&◌, ◌||◌}
use mathlib.Core.List.{List, [], ◌∷◌, ◌++◌}
use mathlib.Core.Option.{Option, none, some, none-ne-some}
use Prim.Native.Nat.{ℕ}
use lib.Dec.{T}
use Rattle.letters.specs.Choice.{pick}
use Rattle.letters.proofs.Tests.{is_true, is_false, of_true, pick_true, pick_false}
use Rattle.formula.proofs.Lists.{both_left, both_right, same_list, same_list_equal, same_list_refl}
use Rattle.entries.specs.Entries.{Entry, holds}
use Rattle.entries.specs.Map.{lookup, removed, without, new_entry}

-- the first that there is
abbrev or_else : Option Entry → Option Entry → Option Entry
or_else none b = b
or_else (some a) b = some a

lookup_append : (es fs : List Entry) (v : List ℕ) → lookup (es ++ fs) v ≡ or_else (lookup es v) (lookup fs v)
unfolding lookup pick
lookup_append [] fs v = refl
lookup_append (e ∷ es) fs v = go (e.live && same_list e.word v) (lookup_append es fs v)
  where
    go : (t : Bool) → lookup (es ++ fs) v ≡ or_else (lookup es v) (lookup fs v) → pick t (some e) (lookup (es ++ fs) v) ≡ or_else (pick t (some e) (lookup es v)) (lookup fs v)
    go true h = refl
    go false h = h

-- what is added is found
pub lookup_added : (es : List Entry) (w : List ℕ) (p s : ℕ) → lookup es w ≡ none → lookup (es ++ (new_entry p w s ∷ [])) w ≡ some (new_entry p w s)
unfolding lookup pick
lookup_added es w p s e =
    lookup_append es (new_entry p w s ∷ []) w ∙ ap (λ (o : Option Entry). or_else o (lookup (new_entry p w s ∷ []) w)) e
    ∙ pick_true (same_list w w) (some (new_entry p w s)) none (is_true (same_list w w) (same_list_refl w))

or_else_none : (o : Option Entry) → or_else o none ≡ o
or_else_none none = refl
or_else_none (some a) = refl

-- and every other word as before
pub lookup_others : (es : List Entry) (w v : List ℕ) (p s : ℕ) → (v ≡ w → ⊥) → lookup (es ++ (new_entry p w s ∷ [])) v ≡ lookup es v
unfolding lookup pick
lookup_others es w v p s n =
    lookup_append es (new_entry p w s ∷ []) v
    ∙ ap (or_else (lookup es v)) (pick_false (same_list w v) (some (new_entry p w s)) none (is_false (same_list w v) (λ t. n (sym (same_list_equal w v t)))))
    ∙ or_else_none (lookup es v)

-- what a word looks up is live and has the word
pub lookup_word : (es : List Entry) (w : List ℕ) (e : Entry) → lookup es w ≡ some e → T e.live × (e.word ≡ w)
unfolding lookup pick
lookup_word [] w e = λ q. absurd (none-ne-some e q)
lookup_word (x ∷ es) w e = go (x.live && same_list x.word w) refl (lookup_word es w e)
  where
    go : (t : Bool) → x.live && same_list x.word w ≡ t → (lookup es w ≡ some e → T e.live × (e.word ≡ w))
        → pick t (some x) (lookup es w) ≡ some e → T e.live × (e.word ≡ w)
    go true q f r =
        let same : x ≡ e = cc in
        let t : T (x.live && same_list x.word w) = of_true (x.live && same_list x.word w) q in
        subst (λ (y : Entry). T y.live × (y.word ≡ w)) same (both_left x.live _ t, same_list_equal x.word w (both_right x.live _ t))
    go false q f r = f r

-- what is removed is not found
pub lookup_removed : (es : List Entry) (w : List ℕ) → lookup (without es w) w ≡ none
unfolding lookup without pick
lookup_removed [] w = refl
lookup_removed (e ∷ es) w = go (e.live && same_list e.word w) refl (lookup_removed es w)
  where
    go : (t : Bool) → e.live && same_list e.word w ≡ t → lookup (without es w) w ≡ none → lookup (pick t (removed e) e ∷ without es w) w ≡ none
    go true q h = h
    go false q h = pick_false (e.live && same_list e.word w) (some e) (lookup (without es w) w) q ∙ h

-- and every other word as before
pub lookup_kept : (es : List Entry) (w v : List ℕ) → (v ≡ w → ⊥) → lookup (without es w) v ≡ lookup es v
unfolding lookup without pick
lookup_kept [] w v n = refl
lookup_kept (e ∷ es) w v n = go (e.live && same_list e.word w) refl (lookup_kept es w v n)
  where
    go : (t : Bool) → e.live && same_list e.word w ≡ t → lookup (without es w) v ≡ lookup es v
        → lookup (pick t (removed e) e ∷ without es w) v ≡ pick (e.live && same_list e.word v) (some e) (lookup es v)
    go true q h =
        h ∙ sym (pick_false (e.live && same_list e.word v) (some e) (lookup es v)
        (is_false (e.live && same_list e.word v)
        (λ t. n (sym (same_list_equal e.word v (both_right e.live _ t)) ∙ same_list_equal e.word w (both_right e.live _ (of_true (e.live && same_list e.word w) q))))))
    go false q h = ap (pick (e.live && same_list e.word v) (some e)) h

-- a word that is not found is held by no live entry
pub holds_lookup : (es : List Entry) (w : List ℕ) → lookup es w ≡ none → holds es w ≡ false
unfolding lookup pick holds
holds_lookup [] w = λ e. refl
holds_lookup (x ∷ es) w = go (x.live && same_list x.word w) (holds_lookup es w)
  where
    go : (t : Bool) → (lookup es w ≡ none → holds es w ≡ false) → pick t (some x) (lookup es w) ≡ none → t || holds es w ≡ false
    go true f e = absurd (none-ne-some x (sym e))
    go false f e = f e
