-- A pass over the records of a book that searches for the first entry of a kind: none of those passed is of it, so the search finds in the whole list
-- what it finds among those ahead. Assumes nothing.
use mathlib.Core.Path.{◌≡◌, refl, sym, ap, subst, ◌∙◌}
use mathlib.Core.Bool.{Bool, true, false, ◌&&◌}
use mathlib.Core.List.{List, [], ◌∷◌}
use mathlib.Core.Option.{Option, none, some}
use Prim.Native.Nat.{ℕ, ◌+◌, ◌≤◌, ◌<◌}
use native.Mathlib.Omega.{arith}
use lib.ListN.{get_or}
use Rattle.letters.specs.Choice.{pick}
use Rattle.letters.proofs.Tests.{pick_true, pick_false}
use Rattle.formula.proofs.Lists.{same_list}
use Rattle.entries.specs.Limits.{head_size}
use Rattle.entries.specs.Entries.{Entry, entry_at, Entries, book, entries}
use Rattle.entries.specs.Book.{IsBook, Opened}
use Rattle.entries.specs.Map.{lookup}
use Rattle.entries.specs.Tidy.{live_length}
use Rattle.entries.proofs.Agree.{only, opened_is}
use Rattle.entries.proofs.Walk.{Walk, walk_start, Turn, turn, walk_end}
use Rattle.lookup.specs.Look.{look_of_entry, look_of}
use Rattle.std.specs.Prelude.{Ok}

-- a search gives the first entry that passes a test
pub record Searches (test : Entry → Bool) (search : List Entry → Option Entry) : Type 0 where
  pub nothing : search [] ≡ none
  pub first : (entry : Entry) (list : List Entry) → search (entry ∷ list) ≡ pick (test entry) (some entry) (search list)

-- at a place: what is ahead, behind what is seen
pub record Ahead (search : List Entry → Option Entry) (b : List ℕ) (at free : ℕ) : Type 0 where
  pub list : List Entry
  pub seen : List Entry
  pub rest : List Entry
  pub walk : Walk b at free list seen rest
  pub same : search list ≡ search rest

pub ahead_start : (search : List Entry → Option Entry) (b : List ℕ) (free : ℕ) → Opened b free → Ahead search b 0 free
ahead_start search b free o = record { list = o.list; seen = []; rest = o.list; walk = walk_start b free o; same = refl }

pub at_record : (search : List Entry → Option Entry) (b : List ℕ) (at free : ℕ) (a : Ahead search b at free) → at < free
    → Turn b at free a.list a.seen a.rest
at_record search b at free a h = turn b at free a.list a.seen a.rest a.walk h

module _ {test : Entry → Bool} {search : List Entry → Option Entry} (s : Searches test search) (b : List ℕ) (at free : ℕ) (a : Ahead search b at free) where
  -- what the search finds, by the record at the place
  module _ (t : Turn b at free a.list a.seen a.rest) where
    ahead_finds : search a.list ≡ pick (test (entry_at b at)) (some (entry_at b at)) (search t.behind)
    ahead_finds =
        a.same ∙ ap search t.first ∙ s.first t.entry t.behind
        ∙ ap (λ (x : Entry). pick (test x) (some x) (search t.behind)) (sym t.stands.is)

    pub hit : test (entry_at b at) ≡ true → search a.list ≡ some (entry_at b at)
    hit e = ahead_finds ∙ pick_true (test (entry_at b at)) _ _ e

    pub miss : test (entry_at b at) ≡ false → Ahead search b (at + head_size + get_or b (at + 2) 0) free
    miss e =
        record {
          list = a.list;
          seen = _;
          rest = t.behind;
          walk = t.stands.next;
          same = ahead_finds ∙ pick_false (test (entry_at b at)) _ _ e;
        }

    -- the same, behind the record's size
    pub miss_to : {next : ℕ} → next ≡ at + (head_size + get_or b (at + 2) 0) → test (entry_at b at) ≡ false → Ahead search b next free
    miss_to {next} there e =
        let place : at + head_size + get_or b (at + 2) 0 ≡ next = omega (arith, there) in
        subst (λ (n : ℕ). Ahead search b n free) place (miss e)

  pub done : free ≤ at → search a.list ≡ none
  done h = a.same ∙ ap search (walk_end b at free a.list a.seen a.rest a.walk h) ∙ s.nothing

-- a word looks up the first live entry that has it
pub lookup_searches : (w : List ℕ) → Searches (λ e. e.live && same_list e.word w) (λ l. lookup l w)
unfolding lookup
lookup_searches w = record { nothing = refl; first = λ entry list. refl }

-- what looking a word up tells, by what it looks up in the book's entries
pub looked : (b : List ℕ) (free : ℕ) (w : List ℕ) (o : Opened b free) (list : List Entry) → IsBook b list → (x : Option Entry) → lookup list w ≡ x
    → look_of (entries b) w ≡ Ok (look_of_entry x free (live_length list))
looked b free w o list k x e =
    ap (λ (y : Entries). look_of y w) (opened_is b free o) ∙ ap (λ (l : List Entry). look_of (book l free) w) (only b o.list list o.is_book k)
    ∙ ap (λ (y : Option Entry). Ok (look_of_entry y free (live_length list))) e
