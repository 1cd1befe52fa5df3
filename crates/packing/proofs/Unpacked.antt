-- Every call's number tells all of its outcome: unpacked, it is the outcome's numbers, of which none is cut. By the promises alone.
-- Assumes nothing.
use mathlib.Core.Path.{◌≡◌, ap, ◌∙◌}
use mathlib.Core.List.{List}
use Prim.Native.Nat.{ℕ}
use Rattle.recogniser.specs.Answer.{Answers}
use Rattle.reading.specs.Parts.{PartAnswers}
use Rattle.normaliser.specs.Normal.{NormaliseRight}
use Rattle.normaliser.specs.Form.{FormRight}
use Rattle.normaliser.specs.Typed.{TypedAnswers}
use Rattle.writing.specs.Write.{WriteRight}
use Rattle.spelling.specs.Spell.{Lists, SpellRight}
use Rattle.collation.specs.Comparison.{CompareAnswers}
use Rattle.entries.specs.Entries.{entries}
use Rattle.entries.specs.Outcome.{check_of}
use Rattle.tidying.specs.Tidy.{TidyRight}
use Rattle.entries.proofs.Bytes.{Bytes}
use Rattle.ranking.specs.Rank.{rank_of}
use Rattle.ranking.specs.Whole.{OrderRight}
use Rattle.book_word.specs.WordAt.{WordRight}
use Rattle.wordbook.specs.Calls.{AddPromise, PreviewPromise, RemovePromise}
use Rattle.wordbook.specs.Prefix.{PrefixPromise}
use Rattle.outputs.specs.Outputs.{RecordWritten, KeyWritten, DecodeWritten}
use Rattle.labelling.specs.Labelling.{LabelAnswers, SkeletonRight}
use Rattle.likeness.specs.Likeness.{LookAlikeAnswers}
use Rattle.packing.specs.Packing.{pack, unpack, Packed}
use Rattle.packing.specs.Answers.{outcome_numbers, preview_numbers, pair_numbers, FindAnswers}
use Rattle.packing.proofs.Laws.{unpack_pack, packed_unpacked}
use Rattle.packing.proofs.WordFits.{read_fits, part_fits, normalise_fits, form_fits, typed_fits, write_fits, spell_fits, compare_fits}
use Rattle.packing.proofs.LabelFits.{label_fits, skeleton_fits, look_alike_fits}
use Rattle.packing.proofs.BookFits.{check_fits, rank_fits, order_fits, prefix_fits, record_word_fits, find_fits, add_fits, tidy_fits, remove_fits}
use Rattle.packing.proofs.OutputFits.{record_fits, key_fits, decode_fits}

module _ (word : List ℕ) (n : ℕ) where
  pub read_unpacked : (p : Packed (Answers word) outcome_numbers n) → unpack n ≡ outcome_numbers p.outcome
  read_unpacked p = packed_unpacked (Answers word) outcome_numbers (read_fits word) n p

  pub record_unpacked : (number : ℕ) (before after : List ℕ) (p : Packed (RecordWritten word number before after) outcome_numbers n)
      → unpack n ≡ outcome_numbers p.outcome
  record_unpacked number before after p = packed_unpacked (RecordWritten word number before after) outcome_numbers (record_fits word number before after) n p

  pub part_unpacked : (number : ℕ) (p : Packed (PartAnswers word number) outcome_numbers n) → unpack n ≡ outcome_numbers p.outcome
  part_unpacked number p = packed_unpacked (PartAnswers word number) outcome_numbers (part_fits word number) n p

  pub spell_unpacked : (before after : Lists) (p : Packed (SpellRight word before after) outcome_numbers n) → unpack n ≡ outcome_numbers p.outcome
  spell_unpacked before after p = packed_unpacked (SpellRight word before after) outcome_numbers (spell_fits word before after) n p

  pub normalise_unpacked : (before after : List ℕ) (p : Packed (NormaliseRight word before after) outcome_numbers n) → unpack n ≡ outcome_numbers p.outcome
  normalise_unpacked before after p = packed_unpacked (NormaliseRight word before after) outcome_numbers (normalise_fits word before after) n p

  pub form_unpacked : (before after : List ℕ) (p : Packed (FormRight word before after) outcome_numbers n) → unpack n ≡ outcome_numbers p.outcome
  form_unpacked before after p = packed_unpacked (FormRight word before after) outcome_numbers (form_fits word before after) n p

  pub typed_unpacked : (place : ℕ) (p : Packed (TypedAnswers word place) outcome_numbers n) → unpack n ≡ outcome_numbers p.outcome
  typed_unpacked place p = packed_unpacked (TypedAnswers word place) outcome_numbers (typed_fits word place) n p

  pub key_unpacked : (before after : List ℕ) (p : Packed (KeyWritten word before after) outcome_numbers n) → unpack n ≡ outcome_numbers p.outcome
  key_unpacked before after p = packed_unpacked (KeyWritten word before after) outcome_numbers (key_fits word before after) n p

  pub compare_unpacked : (other : List ℕ) (p : Packed (CompareAnswers word other) pair_numbers n) → unpack n ≡ pair_numbers p.outcome
  compare_unpacked other p = packed_unpacked (CompareAnswers word other) pair_numbers (compare_fits word other) n p

  pub label_unpacked : (p : Packed (LabelAnswers word) outcome_numbers n) → unpack n ≡ outcome_numbers p.outcome
  label_unpacked p = packed_unpacked (LabelAnswers word) outcome_numbers (label_fits word) n p

  pub skeleton_unpacked : (before after : List ℕ) (p : Packed (SkeletonRight word before after) outcome_numbers n) → unpack n ≡ outcome_numbers p.outcome
  skeleton_unpacked before after p = packed_unpacked (SkeletonRight word before after) outcome_numbers (skeleton_fits word before after) n p

  pub look_alike_unpacked : (other : List ℕ) (p : Packed (LookAlikeAnswers word other) pair_numbers n) → unpack n ≡ pair_numbers p.outcome
  look_alike_unpacked other p = packed_unpacked (LookAlikeAnswers word other) pair_numbers (look_alike_fits word other) n p

module _ (bytes before after : List ℕ) (n : ℕ) where
  pub write_unpacked : (p : Packed (WriteRight bytes before after) outcome_numbers n) → unpack n ≡ outcome_numbers p.outcome
  write_unpacked p = packed_unpacked (WriteRight bytes before after) outcome_numbers (write_fits bytes before after) n p

  pub decode_unpacked : (p : Packed (DecodeWritten bytes before after) outcome_numbers n) → unpack n ≡ outcome_numbers p.outcome
  decode_unpacked p = packed_unpacked (DecodeWritten bytes before after) outcome_numbers (decode_fits bytes before after) n p

module _ (book : List ℕ) (small : Bytes book) (n : ℕ) where
  pub check_unpacked : n ≡ pack (outcome_numbers (check_of (entries book))) → unpack n ≡ outcome_numbers (check_of (entries book))
  check_unpacked e = ap unpack e ∙ unpack_pack (outcome_numbers (check_of (entries book))) (check_fits book small)

  pub rank_unpacked : (rank : ℕ) → n ≡ pack (outcome_numbers (rank_of (entries book) rank)) → unpack n ≡ outcome_numbers (rank_of (entries book) rank)
  rank_unpacked rank e = ap unpack e ∙ unpack_pack (outcome_numbers (rank_of (entries book) rank)) (rank_fits book small rank)

  pub prefix_unpacked : (query before after : List ℕ) (p : Packed (PrefixPromise book query before after) outcome_numbers n)
      → unpack n ≡ outcome_numbers p.outcome
  prefix_unpacked query before after p =
      packed_unpacked (PrefixPromise book query before after) outcome_numbers (prefix_fits book small query before after) n p

  pub order_unpacked : (before after : List ℕ) (p : Packed (OrderRight book before after) outcome_numbers n) → unpack n ≡ outcome_numbers p.outcome
  order_unpacked before after p = packed_unpacked (OrderRight book before after) outcome_numbers (order_fits book small before after) n p

  pub record_word_unpacked : (start : ℕ) (before after : List ℕ) (p : Packed (WordRight book start before after) outcome_numbers n)
      → unpack n ≡ outcome_numbers p.outcome
  record_word_unpacked start before after p =
      packed_unpacked (WordRight book start before after) outcome_numbers (record_word_fits book small start before after) n p

  pub find_unpacked : (word : List ℕ) (p : Packed (FindAnswers book word) outcome_numbers n) → unpack n ≡ outcome_numbers p.outcome
  find_unpacked word p = packed_unpacked (FindAnswers book word) outcome_numbers (find_fits book small word) n p

  pub add_unpacked : (word : List ℕ) (stock : ℕ) (after : List ℕ) (p : Packed (AddPromise word stock book after) outcome_numbers n)
      → unpack n ≡ outcome_numbers p.outcome
  add_unpacked word stock after p = packed_unpacked (AddPromise word stock book after) outcome_numbers (λ o right. add_fits book small word stock o right.answers) n p

  pub preview_unpacked : (word : List ℕ) (stock : ℕ) (after : List ℕ) (p : Packed (PreviewPromise word stock book after) preview_numbers n) → unpack n ≡ preview_numbers p.outcome
  preview_unpacked word stock after p =
      packed_unpacked (PreviewPromise word stock book after) preview_numbers (λ o right. add_fits book small word stock o.answer right.answers) n p

  pub tidy_unpacked : (after : List ℕ) (p : Packed (TidyRight book after) outcome_numbers n) → unpack n ≡ outcome_numbers p.outcome
  tidy_unpacked after p = packed_unpacked (TidyRight book after) outcome_numbers (tidy_fits book small after) n p

  pub remove_unpacked : (word after : List ℕ) (p : Packed (RemovePromise word book after) outcome_numbers n) → unpack n ≡ outcome_numbers p.outcome
  remove_unpacked word after p = packed_unpacked (RemovePromise word book after) outcome_numbers (remove_fits book small word after) n p
