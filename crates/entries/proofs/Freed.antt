-- The bytes of a record that is removed: the live length is less by just so many, and they are free once the book is tidied.
-- Assumes nothing.
use mathlib.Core.Path.{◌≡◌, refl, ap, ◌∙◌}
use mathlib.Core.Bool.{Bool, true, false, ◌&&◌}
use mathlib.Core.List.{List, [], ◌∷◌, ◌++◌}
use mathlib.Core.Option.{some, none-ne-some}
use Prim.Native.Nat.{ℕ, ◌+◌}
use native.Mathlib.Omega.{arith}
use lib.Dec.{T}
use lib.ListN.{length, length-append}
use Rattle.letters.specs.Choice.{pick}
use Rattle.letters.proofs.Tests.{is_true, of_true, both_left}
use Rattle.formula.specs.Lists.{filtered, same_list}
use Rattle.entries.specs.Entries.{Entry}
use Rattle.entries.specs.Book.{record_bytes, records, size, GoodAfter}
use Rattle.entries.specs.Map.{lookup, live_ones, removed, without}
use Rattle.entries.specs.Tidy.{live_length}
use Rattle.entries.proofs.Records.{length_record}
use Rattle.entries.proofs.Removed.{held_last, only_once}

-- an entry more, by whether it is live
size_live : Bool → Entry → ℕ
size_live true x = size x
size_live false x = 0

live_first : (x : Entry) (list : List Entry) → (t : Bool) → x.live ≡ t → live_length (x ∷ list) ≡ size_live t x + live_length list
unfolding filtered pick size_live
live_first x list true e =
    ap (λ (t : Bool). length (records (pick t (x ∷ live_ones list) (live_ones list)))) e
    ∙ length-append (record_bytes x) (records (live_ones list)) ∙ ap (λ (n : ℕ). n + live_length list) (length_record x)
live_first x list false e = ap (λ (t : Bool). length (records (pick t (x ∷ live_ones list) (live_ones list)))) e ∙ omega arith

pub live_freed : (at : ℕ) (seen es : List Entry) (w : List ℕ) (e : Entry) → GoodAfter at seen es → lookup es w ≡ some e
    → live_length (without es w) + size e ≡ live_length es
unfolding lookup without pick size_live
live_freed at seen [] w e g = λ q. absurd (none-ne-some e q)
live_freed at seen (x ∷ es) w e g = go (x.live && same_list x.word w) refl (live_freed (at + size x) (seen ++ (x ∷ [])) es w e g.3)
  where
    go : (t : Bool) → x.live && same_list x.word w ≡ t → (lookup es w ≡ some e → live_length (without es w) + size e ≡ live_length es)
        → pick t (some x) (lookup es w) ≡ some e → live_length (pick t (removed x) x ∷ without es w) + size e ≡ live_length (x ∷ es)
    go true q f r =
        let same : x ≡ e = cc in
        let t : T (x.live && same_list x.word w) = of_true (x.live && same_list x.word w) q in
        let rest : without es w ≡ es = only_once (at + size x) (seen ++ (x ∷ [])) es w (held_last seen x w t) g.3 in
        omega (arith, live_first (removed x) (without es w) false refl, live_first x es true (is_true x.live (both_left x.live _ t)), ap live_length rest, ap size same)
    go false q f r = kept x.live refl
      where
        kept : (t : Bool) → x.live ≡ t → live_length (x ∷ without es w) + size e ≡ live_length (x ∷ es)
        kept t l = omega (arith, live_first x (without es w) t l, live_first x es t l, f r)
