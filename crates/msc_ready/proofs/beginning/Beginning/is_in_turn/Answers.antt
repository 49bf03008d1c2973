use Rattle.std.proofs.Common.{◌≡◌, ◌<◌, ℕ, Bool, true, List, length, get_or, below_more, ap, sym, ◌∙◌, refl, subst, arith}
use Rattle.msc_chart.specs.Charts.{is_output, line, partner}
use Rattle.msc_chart.specs.Lists.{occurs}
use Rattle.msc_chart.specs.Precedence.Precedes.{sent}
use Rattle.msc_ready.specs.Beginnings.{HasMarks}
use Rattle.msc_ready.specs.Held.{ReadyChart, wiring_of, ready_in}
use Rattle.msc_ready.specs.BlockedPairs.{is_lined}
use Rattle.msc_order.proofs.Drawing.{before_later}
use Rattle.msc_ready.proofs.Shared.{before_parts, clash, input_below, until-within}
use Rattle.msc_ready.proofs.Holding.{awaited_parts, lined_from, lined_parts}
use Rattle.msc_ready.proofs.Begun.Fronts.{front_read}
use Rattle.msc_ready.proofs.Begun.Marks.{mark_read}
use Rattle.msc_ready.proofs.Runs.Keeping.{kept}
use Rattle.msc_ready.proofs.beginning.Beginning.is_in_turn.Goals as goal
use Rattle.msc_ready.proofs.beginning.Beginning.is_in_turn.Goals.{else-is_lined-via-then-is_lined+else-not-index, else-is_lined-via-else-is_lined}

-- the mark of the other end
other_read : (r : ReadyChart) (run : List ℕ) (done : List Bool) (x y : ℕ) (b : Bool) → HasMarks (length r.chart.events) run done
    → x < length r.chart.events → x ≡ partner r.chart.events y → b ≡ get_or done x b → b ≡ occurs run (partner r.chart.events y)
other_read r run done x y b marks below same read =
    mark_read (length r.chart.events) run done x b marks below read ∙ ap (λ (z : ℕ). occurs run z) same

pub returns-then-not-index : goal.returns-then-not-index
returns-then-not-index c =
    let r = c.args.ready.now in
    let self = c.args.self.now in
    let d = r.chart in
    let other = rw c.chart-chart.ensures at c.other_end.ensures.value in
    let known = rw c.chart-chart.ensures at c.other_end.ensures.known in
    let there = other_read r self.run.items self.done.items c.other_end.result c.loop-r.r c.index.result.now c.requires.held.marks known other c.index.ensures in
    let lined = lined_parts (wiring_of r) (ready_in r) c.loop-r.r c.other_end-u.result (sym c.is_lined.ensures ∙ c.if-is_lined.true) in
    let drawn = awaited_parts (wiring_of r) (ready_in r) c.loop-r.r c.other_end-u.result lined.0 in
    let u = rw c.chart-chart.ensures at c.other_end-u.ensures.value in
    let back = ap (λ (z : ℕ). partner d.events z) u ∙ c.facts.ensures.chart.matched.to_and_fro c.args.x c.requires.known in
    (λ h. clash h refl, λ turn. clash (turn c.loop-r.r c.other_end-u.result lined.1 lined.2 lined.3 drawn.0 drawn.1 back) (sym there ∙ c.if-not-index.true))

-- the inputs before the front of the line have occurred, and their outputs before them
pub loop-r-init : goal.loop-r-init
loop-r-init c = λ y below lined.
    let r = c.args.ready.now in
    let self = c.args.self.now in
    let d = r.chart in
    let parts = lined_parts (wiring_of r) (ready_in r) y c.other_end-u.result lined in
    let drawn = awaited_parts (wiring_of r) (ready_in r) y c.other_end-u.result parts.0 in
    let on = before_parts d.events y c.other_end-u.result drawn.0 in
    let here = rw c.chart-chart.ensures at c.instance_of.ensures in
    let known = rw c.chart-chart.ensures at c.other_end-u.ensures.known in
    let front = front_read d self.run.items self.fronts.items c.instance_of.result (line d.events c.other_end-u.result) c.index-r.result.now c.requires.held.lines
    (c.facts.ensures.chart.on_lines.on_line c.other_end-u.result known) here c.index-r.ensures in
    let there = front.passed y below on.0 on.2 in
    let output : is_output d.events (partner d.events y) ≡ true = c.facts.ensures.chart.matched.other_kind y on.0 ∙ parts.1 in
    let is_sent = sent output (c.facts.ensures.chart.matched.to_and_fro y on.0) in
    until-within self.run.items y (partner d.events y)
    (kept (wiring_of r) (c.ends_share_queues.ensures r.queues d c.facts.ensures.chart) (ready_in r) {fifo = true} self.run.items c.requires.held.is_run (partner d.events y) y is_sent there)

pub loop-r-preserved : goal.loop-r-preserved
loop-r-preserved c =
    let r = c.args.ready.now in
    let self = c.args.self.now in
    below_more _ _ c.loop-r.invariant (λ lined. elim c.else-is_lined.branch [
      | else-is_lined-via-then-is_lined+else-not-index w ↦
          let other = rw c.chart-chart.ensures at w.other_end.ensures.value in
          let known = rw c.chart-chart.ensures at w.other_end.ensures.known in
          let there = other_read r self.run.items self.done.items w.other_end.result c.loop-r.r w.index.result.now c.requires.held.marks known other w.index.ensures in
          sym there ∙ w.if-not-index.false
      | else-is_lined-via-else-is_lined w ↦ clash (c.is_lined.ensures ∙ lined) w.if-is_lined.false
    ])

pub returns : goal.returns
returns c =
    let r = c.args.ready.now in
    let d = r.chart in
    let u = rw c.chart-chart.ensures at c.other_end-u.ensures.value in
    let text = c.facts.ensures.chart.in_text_order in (
      λ h y v iy iv same b set is.
          let v_is : v ≡ c.other_end-u.result = sym (c.facts.ensures.chart.matched.to_and_fro v (input_below d.events v iv)) ∙ ap (λ (z : ℕ). partner d.events z) is ∙ sym u in
          let lined : is_lined (wiring_of r) (ready_in r) y c.other_end-u.result ≡ true =
          subst (λ (z : ℕ). is_lined (wiring_of r) (ready_in r) y z ≡ true) v_is (lined_from (wiring_of r) (ready_in r) y v b set iy iv same) in
          let above : y < v = before_later d.events text y v b in
          c.loop-r.invariant y (omega (arith, above, v_is, c.loop-r-test.false)) lined,
      λ turn. refl,
    )
