use Rattle.std.proofs.Common.{◌≡◌, ℕ, ◌-◌, ◌<◌, false, inl, inr, length, refl, sym, ◌∙◌, arith}
use Rattle.std.proofs.lemmas.Bool.{cases_eq, eq-eqb, or_cases, or_left, or_right, and_parts}
use Rattle.bit_rows.specs.Rows.{has}
use Rattle.bit_rows.specs.Tables.{cell}
use Rattle.bit_rows.proofs.Bits.{clash}
use Rattle.msc_order.proofs.LineRows.{begun_first, begun_more}
use Rattle.msc_order.proofs.closing.begin_segment.Goals as goal

pub loop-passed-init : goal.loop-passed-init
loop-passed-init c =
    let events = c.args.chart.now.events in
    let e = c.args.e in
    let test = cell (length events) c.args.words.now in
    let begun = has c.args.begun.now in
    let fresh : begun e ≡ false = sym c.has.ensures ∙ c.if-has.false in
    record {
      begun = begun_first events c.args.inputs test (cell (length events) c.add_lines.new.words) begun (has c.put.new.row) e c.requires.begun
          c.add_lines.ensures.others c.add_lines.ensures.row c.put.ensures;
      kept = λ x y h. elim (cases_eq x e) [
        | inl same ↦ clash h (rw same (c.requires.begun.blank e y fresh))
        | inr other ↦ c.add_lines.ensures.others x y other ∙ h
      ];
      here = c.put.ensures e ∙ or_right (begun e) _ (eq-eqb e e refl);
      within = λ y h. (c.add_lines.ensures.row y).0 h;
    }

pub loop-passed-preserved : goal.loop-passed-preserved
loop-passed-preserved c =
    let events = c.args.chart.now.events in
    let e = c.args.e in
    let f : ℕ = c.next_segment_events-start.result.0 - 1 - c.loop-passed.passed in
    let test = cell (length events) c.loop-passed.words in
    let now = cell (length events) c.begin_as.new.words in
    let begun = has c.loop-passed.begun in
    let rising = c.next_segment_events-start.ensures.rising in
    let within = c.next_segment_events-start.ensures.within in
    let more = c.loop-passed-test.true in
    let known : f < length events = omega (arith, rising, within, more) in
    let rows = rw c.events-events.ensures.number at c.begin_as.ensures.rows in
    record {
      begun = begun_more events c.args.inputs test now begun (has c.begin_as.new.begun) e f c.loop-passed.invariant.begun c.loop-passed.invariant.here
          c.loop-passed.invariant.within (c.share_segment.ensures.0 c.if-not-share_segment.false) c.requires.known known rows c.begin_as.ensures.begun;
      kept = λ x y h. rows x y ∙ or_left (test x y) _ (c.loop-passed.invariant.kept x y h);
      here = c.begin_as.ensures.begun e ∙ or_left (begun e) _ c.loop-passed.invariant.here;
      within = λ y h. c.loop-passed.invariant.within y (elim (or_cases (test e y) _ (sym (rows e y) ∙ h)) [ inl old ↦ old | inr over ↦ (and_parts _ _ over).1 ]);
    }

pub begin_as-requires-clause-more : goal.begin_as-requires-clause-more
begin_as-requires-clause-more c none y h = grind arith
