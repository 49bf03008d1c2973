use Rattle.std.proofs.Common.{length, ◌≢◌, ◌<◌, refl, sym, ◌∙◌, arith}
use Rattle.bit_rows.specs.Tables.{cell}
use Rattle.bit_rows.proofs.Bits.{clash}
use Rattle.msc_order.proofs.Drawing.{before_later}
use Rattle.msc_order.proofs.Leading.{row_others}
use Rattle.msc_order.proofs.LineRows.{line_row, line_taken, taken_more}
use Rattle.msc_order.proofs.closing.add_lines.Goals as goal

pub loop-f-init : goal.loop-f-init
loop-f-init c = record {
  others = λ x y other. refl;
  within = λ y h. clash h (c.requires.blank y);
  taken = λ g low high. absurd (omega (arith, low, high));
}

pub loop-f-preserved : goal.loop-f-preserved
loop-f-preserved c =
    let events = c.args.chart.now.events in
    let e = c.args.e in
    let f = c.loop-f.f in
    let test = cell (length events) c.args.words.now in
    let now = cell (length events) c.loop-f.words in
    let last = cell (length events) c.take_in.new.words in
    let wanted = c.leads.result in
    let drawn = c.requires.next.drawn f (omega arith) (omega arith) in
    let later : e < f = before_later events c.events-events.ensures.accepted.in_text_order e f drawn in
    let apart : f ≢ e = λ same. omega (arith, same, later) in
    let put = rw c.events-events.ensures.number at c.take_in.ensures in
    record {
      others = λ x y other. put x y ∙ row_others now e f wanted x y other ∙ c.loop-f.invariant.others x y other;
      within = line_taken events c.args.inputs test now last e f wanted c.requires.sound drawn (λ h. sym c.leads.ensures ∙ h) apart
          c.loop-f.invariant.others put c.loop-f.invariant.within;
      taken = taken_more events c.args.inputs c.args.start e f test now last wanted apart c.leads.ensures put c.loop-f.invariant.others c.loop-f.invariant.taken;
    }

pub returns-clause-row : goal.returns-clause-row
returns-clause-row c y =
    let events = c.args.chart.now.events in (
      c.loop-f.invariant.within y,
      line_row events c.args.inputs (cell (length events) c.args.words.now) (cell (length events) c.loop-f.words) c.args.e c.args.start c.args.end c.requires.next c.requires.later
          (λ g low high. c.loop-f.invariant.taken g low (omega (arith, high, c.loop-f-test.false))) y,
    )
