-- `scanning::scan_word` meets its contract: before each turn the state, the window and the arrays show what the machine has kept of the
-- values read. Assumes nothing.
use mathlib.Core.Path.{◌∙◌, refl, ap}
use native.Mathlib.Omega.{arith}
use Rattle.transitions.specs.Tables.{next_by, gain_by}
use Rattle.scanning.proofs.Reach.{at_start, count_fits, scan_done, scan_refused, turn_fits, turned}
use Rattle.scanning.proofs.scan_word.Goals as goal
use Rattle.scanning.proofs.scan_word.Goals.{then-begins, else-begins}

pub loop-at-init : goal.loop-at-init
loop-at-init c = rw c.unread-window.ensures (at_start c.args.word.now)

pub returns-then-entry-eq-REFUSED : goal.returns-then-entry-eq-REFUSED
returns-then-entry-eq-REFUSED c =
    scan_refused _ _ _ _ _ _ c.loop-at.invariant c.next-entry.result (c.next-entry.ensures ∙ ap (next_by c.loop-at.state) c.rules_of-rules.ensures)
    c.loop-at-test.true c.requires c.if-entry-eq-REFUSED.true

pub closed_by-requires : goal.closed_by-requires
closed_by-requires c =
    (turn_fits _ _ _ _ _ _ c.loop-at.invariant c.next-entry.result (c.next-entry.ensures ∙ ap (next_by c.loop-at.state) c.rules_of-rules.ensures)
    c.loop-at-test.true c.requires c.if-entry-eq-REFUSED.false _ refl).last

pub bounds-starts-count : goal.bounds-starts-count
bounds-starts-count c = omega (arith, count_fits _ _ _ _ _ _ c.loop-at.invariant)

pub window_after-window-requires : goal.window_after-window-requires
window_after-window-requires c =
    turn_fits _ _ _ _ _ _ c.loop-at.invariant c.next-entry.result (c.next-entry.ensures ∙ ap (next_by c.loop-at.state) c.rules_of-rules.ensures)
    c.loop-at-test.true c.requires c.if-entry-eq-REFUSED.false
    c.gain.result (c.gain.ensures ∙ ap (gain_by c.loop-at.state) c.rules_of-rules.ensures)

pub loop-at-preserved : goal.loop-at-preserved
loop-at-preserved c =
    let t =
    turned _ _ _ _ _ _ c.loop-at.invariant c.next-entry.result (c.next-entry.ensures ∙ ap (next_by c.loop-at.state) c.rules_of-rules.ensures)
    c.loop-at-test.true c.requires c.if-entry-eq-REFUSED.false
    c.gain.result (c.gain.ensures ∙ ap (gain_by c.loop-at.state) c.rules_of-rules.ensures)
    c.begins.result c.begins.ensures c.from-state.result c.from-state.ensures c.window_after-window.result c.window_after-window.ensures in
    elim c.if-begins.branch [
      | then-begins w ↦
          t.begun w.if-begins.true w.saturating_sub-finished.result w.saturating_sub-finished.ensures w.closed_by.result w.closed_by.ensures c.if-begins.syllables
          w.syllables-is c.if-begins.starts w.starts-is
      | else-begins w ↦ t.stays w.if-begins.false c.if-begins.syllables w.syllables-is c.if-begins.starts w.starts-is
    ]

pub returns : goal.returns
returns c = rw c.saturating_sub-finished-2.ensures (scan_done _ c.loop-at.at _ _ _ _ c.loop-at.invariant c.requires (omega arith))
