-- Preview and add, by the promises of the two calls alone: the preview on a book equals the add on a copy of it, for every buffer, word and stock number; and
-- what it tells of the record that is not yet there holds of the add that follows. Assumes nothing.
use mathlib.Core.Path.{◌≡◌, refl, sym, ap, subst, ◌∙◌}
use mathlib.Core.Bool.{false}
use mathlib.Core.List.{List}
use Prim.Native.Nat.{ℕ, ◌<◌}
use lib.Dec.{eqb}
use lib.ListN.{length}
use Rattle.refusals.specs.Outcome.{Outcome, accepts_both, refuses, outcome_by}
use Rattle.std.specs.declared.result.Result.{Result}
use Rattle.refusals.specs.declared.Refusal.{Refusal}
use Rattle.storage.specs.Stored.{stored_form}
use Rattle.entries.specs.Entries.{Entry, Entries, book, entries}
use Rattle.entries.specs.Outcome.{finds, find_of, add_of}
use Rattle.entries.proofs.Bytes.{Bytes}
use Rattle.tidying.specs.Tidy.{TidyRight}
use Rattle.planning.specs.Preview.{PreviewOutcome, start_of, tidies_of, preview_of, preview_outcome, start_shown, tidies_shown}
use Rattle.planning.specs.declared.Added.{Added}
use Rattle.planning.specs.Plan.{added_told}
use Rattle.planning.proofs.Told.{added_answer_once}
use Rattle.book_change.specs.Written.{bytes_added}
use Rattle.book_change.proofs.Fitting.{Fitting, added_fitting}
use Rattle.wordbook.specs.Calls.{WordStored, CallAnswers, AddAnswers, AddPromise, PreviewPromise}
use Rattle.wordbook.proofs.Laws.{stored_answer, add_stored, find_after_add}
use Rattle.wordbook.proofs.Determined.{call_alike}
use Rattle.wordbook.proofs.Room.{add_as_tidied}

-- previews that come to the same are the same
pub preview_once : (first second : Result Added Refusal) → preview_outcome first ≡ preview_outcome second → first ≡ second
preview_once first second e = added_answer_once first second (ap (λ (o : PreviewOutcome). o.answer) e)

-- the add that a preview foresees: each law of add holds of it
pub foreseen : (word before : List ℕ) (stock : ℕ) (answer : Outcome) → AddAnswers word stock before answer
    → AddPromise word stock before (bytes_added answer before (stored_form word) stock) answer
foreseen word before stock answer a = record { answers = a; bytes = refl }

module _ (word : List ℕ) (stock : ℕ) (bytes shown : List ℕ) (preview : Result Added Refusal) (p : PreviewPromise word stock bytes shown (preview_outcome preview)) where
  -- one preview only
  pub preview_determined : (other : Result Added Refusal) (final : List ℕ) → PreviewPromise word stock bytes final (preview_outcome other) → (preview ≡ other) × (shown ≡ final)
  preview_determined other final q = (
    preview_once preview other (p.tells ∙ ap preview_of (call_alike word _ _ _ p.answers q.answers) ∙ sym q.tells),
    p.bytes ∙ sym q.bytes,
  )

  -- "The preview gives the answer that add gives on a copy of the book, refusal and place included", and start and tidying are those of that add
  pub preview_equals_add : (copy after : List ℕ) (reply : Result Added Refusal) → copy ≡ bytes → AddPromise word stock copy after (outcome_by added_told reply)
      → (preview ≡ reply) × (start_shown preview ≡ start_of (outcome_by added_told reply)) × (tidies_shown preview ≡ tidies_of (outcome_by added_told reply)) × (shown ≡ bytes)
  preview_equals_add copy after reply same q =
      let answer : outcome_by added_told preview ≡ outcome_by added_told reply =
      call_alike word _ _ _ p.answers (subst (λ (b : List ℕ). AddAnswers word stock b (outcome_by added_told reply)) same q.answers) in
      let tells : preview_outcome preview ≡ preview_of (outcome_by added_told reply) = p.tells ∙ ap preview_of answer in (
        added_answer_once preview reply answer,
        ap (λ (o : PreviewOutcome). o.start) tells,
        ap (λ (o : PreviewOutcome). o.tidies) tells,
        p.bytes,
      )

  told : (answer : Outcome) → outcome_by added_told preview ≡ answer → preview_outcome preview ≡ preview_of answer
  told answer e = p.tells ∙ ap preview_of e

  -- "Where add refuses, the start is 0 and the preview says that it wouldn't tidy"
  pub preview_refused : (number place : ℕ) → outcome_by added_told preview ≡ refuses number place → (start_shown preview ≡ 0) × (tidies_shown preview ≡ false)
  preview_refused number place e =
      let t = told (refuses number place) e in
      (ap (λ (o : PreviewOutcome). o.start) t, ap (λ (o : PreviewOutcome). o.tidies) t)

  module _ (start tidies : ℕ) (e : outcome_by added_told preview ≡ accepts_both start tidies) where
    accepted : AddAnswers word stock bytes (accepts_both start tidies)
    accepted = subst (AddAnswers word stock bytes) e p.answers

    -- where add would accept, it tells where and how
    pub preview_accepted : (start_shown preview ≡ start) × (tidies_shown preview ≡ eqb tidies 1)
    preview_accepted =
        let t = told (accepts_both start tidies) e in
        (ap (λ (o : PreviewOutcome). o.start) t, ap (λ (o : PreviewOutcome). o.tidies) t)

    module _ (small : Bytes bytes) (fits : stock < 4294967296) where
      stored : WordStored word
      stored = add_stored word bytes _ stock start tidies small fits (foreseen word bytes stock (accepts_both start tidies) accepted)

      -- it would tidy where the record does not fit behind the last one but fits behind the live ones, and in no other case
      pub preview_fitting : (list : List Entry) (free : ℕ) → entries bytes ≡ book list free
          → Fitting list free (length bytes) (stored_form word) start tidies
      preview_fitting list free is =
          added_fitting list free (length bytes) (stored_form word) start tidies
          (stored_answer word _ (accepts_both start tidies) stored accepted ∙ ap (λ (x : Entries). add_of x (length bytes) (stored_form word)) is)

      -- after the add, find gives the start that was shown
      pub found_where_previewed : (after : List ℕ) (reply : Result Added Refusal) → AddPromise word stock bytes after (outcome_by added_told reply) → (answer : Outcome)
          → CallAnswers word (find_of (entries after) (stored_form word)) answer → answer ≡ finds (start_shown preview) stock
      found_where_previewed after reply q answer c =
          let same = call_alike word _ _ _ q.answers accepted in
          find_after_add word bytes after stock start tidies small fits (subst (AddPromise word stock bytes after) same q) word answer stored refl c
          ∙ ap (λ (n : ℕ). finds n stock) (sym preview_accepted.0)

-- "after tidying where add would tidy": once the book is tidied, the preview shows the same start and would not tidy
pub previewed_after_tidy : (word : List ℕ) (stock : ℕ) (bytes shown tidy seen : List ℕ) (preview other : Result Added Refusal) (start : ℕ) (outcome : Outcome) → Bytes bytes
    → stock < 4294967296 → PreviewPromise word stock bytes shown (preview_outcome preview) → outcome_by added_told preview ≡ accepts_both start 1 → TidyRight bytes tidy outcome
    → PreviewPromise word stock tidy seen (preview_outcome other) → (start_shown other ≡ start_shown preview) × (tidies_shown other ≡ false)
previewed_after_tidy word stock bytes shown tidy seen preview other start outcome small fits p e t q =
    let add = foreseen word bytes stock (accepts_both start 1) (accepted word stock bytes shown preview p start 1 e) in
    let untidied = add_as_tidied word bytes _ stock start small fits add tidy outcome t in
    let same : outcome_by added_told other ≡ accepts_both start 0 = call_alike word _ _ _ q.answers untidied.answers in
    let before = preview_accepted word stock bytes shown preview p start 1 e in
    let after = preview_accepted word stock tidy seen other q start 0 same in
    (after.0 ∙ sym before.0, after.1)
