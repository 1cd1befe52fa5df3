-- `lookup::locate` meets its contract. The invariant: the word looks up what it does among the records ahead, and the bytes of the live records passed are
-- counted. The measure is what is left before the free bytes.
-- Assumes nothing.
use Rattle.std.proofs.Common.{◌≡◌, ap, sym, ◌∙◌, Bool, true, false, ◌&&◌, [], ℕ, ◌+◌, Ok, arith}
use Rattle.formula.proofs.Lists.{same_list}
use Rattle.entries.specs.Entries.{word_at}
use Rattle.entries.specs.Tidy.{live_length}
use Rattle.entries.proofs.Records.{framed_is}
use Rattle.entries.proofs.Passed.{passed_start, passed_turn, passed_less, passed_all, passed_next}
use Rattle.lookup.specs.declared.Look.TheVariants.{Live, Missing}
use Rattle.lookup.proofs.Walk.{ahead_start, at_record, hit, miss_to, done, lookup_searches, looked}
use Rattle.lookup.proofs.locate.Goals as goal
use Rattle.lookup.proofs.locate.Goals.{then-record+else-has_word, else-record}

pub loop-at-init : goal.loop-at-init
loop-at-init c = let o = c.requires in (ahead_start _ _ _ o, ([], passed_start _ _ o))

pub at-record-requires : goal.at-record-requires
at-record-requires c =
    let a = c.loop-at.invariant.0 in
    let t = at_record _ _ _ _ a c.loop-at-test.true in
    (a.walk.is_book.short, omega (arith, t.stands.frame.room))

pub has_word-requires : goal.has_word-requires
has_word-requires c =
    let a = c.loop-at.invariant.0 in
    (a.walk.is_book.short, framed_is _ _ (at_record _ _ _ _ a c.loop-at-test.true).stands.frame)

pub stock_at-stock-requires : goal.stock_at-stock-requires
stock_at-stock-requires c =
    let a = c.loop-at.invariant.0 in
    let t = at_record _ _ _ _ a c.loop-at-test.true in
    (a.walk.is_book.short, omega (arith, t.stands.frame.room))

pub returns-then-has_word : goal.returns-then-has_word
returns-then-has_word c =
    let l = c.loop-at in
    let w = c.args.word.now in
    let a = l.invariant.0 in
    let t = at_record _ _ _ _ a c.loop-at-test.true in
    let found = hit (lookup_searches w) _ _ _ a t (λ j. (sym c.at-record.ensures.live ∙ c.if-record.true) j && (sym c.has_word.ensures ∙ c.if-has_word.true) j) in
    record {
      answer = ap (λ (n : ℕ). Ok (Live (record { stock = n; start = l.at }))) c.stock_at-stock.ensures ∙ sym (looked _ _ w c.requires a.list a.walk.is_book _ found);
      within = record { short = a.walk.is_book.short; room = omega (arith, t.stands.frame.room) };
    }

pub overflow_add-length : goal.overflow_add-length
overflow_add-length c =
    let l = c.loop-at in
    let t = at_record _ _ _ _ l.invariant.0 c.loop-at-test.true in
    omega (arith, c.at-record.ensures.size, passed_less _ _ _ _ _ l.invariant.1.1, t.stands.frame.room, l.invariant.0.walk.is_book.short)

pub overflow_add-at : goal.overflow_add-at
overflow_add-at c =
    let a = c.loop-at.invariant.0 in
    let t = at_record _ _ _ _ a c.loop-at-test.true in
    omega (arith, c.at-record.ensures.size, t.stands.frame.room, a.walk.is_book.short)

pub loop-at-preserved : goal.loop-at-preserved
loop-at-preserved c =
    let l = c.loop-at in
    let word = c.args.word.now in
    let t = at_record _ _ _ _ l.invariant.0 c.loop-at-test.true in
    let p = l.invariant.1.1 in
    let u = passed_turn _ _ _ _ _ p c.loop-at-test.true in
    let size = c.at-record.ensures.size in
    let next = ap (λ (n : ℕ). l.at + n) size in
    let live = sym c.at-record.ensures.live in
    elim c.if-record.branch [
      | then-record+else-has_word j ↦ (
        miss_to (lookup_searches word) _ _ _ l.invariant.0 t next (λ k. (live ∙ j.if-record.true) k && (sym j.has_word.ensures ∙ j.if-has_word.false) k),
        (_, passed_next _ _ _ _ _ p u true (live ∙ j.if-record.true) _ _ next (j.length-is ∙ ap (λ (n : ℕ). l.length + n) size)),
      )
      | else-record j ↦ (
        miss_to (lookup_searches word) _ _ _ l.invariant.0 t next (ap (λ (is : Bool). is && same_list (word_at c.args.book.now l.at) word) (live ∙ j.if-record.false)),
        (_, passed_next _ _ _ _ _ p u false (live ∙ j.if-record.false) _ _ next (j.length-is ∙ omega arith)),
      )
    ]

pub returns : goal.returns
returns c =
    let l = c.loop-at in
    let w = c.args.word.now in
    let a = l.invariant.0 in
    let p = l.invariant.1.1 in
    let length : l.length ≡ live_length a.list = p.counted ∙ ap live_length (sym (passed_all _ _ _ _ _ p c.loop-at-test.false a.list a.walk.is_book)) in
    record {
      answer =
          ap (λ (n : ℕ). Ok (Missing c.args.free n)) length
          ∙ sym (looked _ _ w c.requires a.list a.walk.is_book _ (done (lookup_searches w) _ _ _ a c.loop-at-test.false));
      within = c.requires;
    }
