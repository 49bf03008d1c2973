use Rattle.std.proofs.Common.{◌≡◌, false, ℕ, length, true, below_more, ap, ◌∙◌, arith}
use Rattle.bit_rows.specs.Tables.{cell}
use Rattle.msc_chart.specs.Charts.{line}
use Rattle.msc_order.proofs.Leading.{row_kept}
use Rattle.msc_ready.specs.Held.{ready_of, wiring_of}
use Rattle.msc_ready.proofs.Runs.Keeping.{HaveOneLine}
use Rattle.msc_ready.proofs.Shared.{clash, input_below}
use Rattle.msc_ready.proofs.Putting.{over_more, over_sound}
use Rattle.msc_ready.proofs.ready.Ready.put_over.Goals as goal
use Rattle.msc_ready.proofs.ready.Ready.put_over.Goals.{then-are_mates, else-are_mates}

-- what goes over a use of the rule of queues is an input of a line that is not ready
pub returns-then-not-is_loose-clause-row : goal.returns-then-not-is_loose-clause-row
returns-then-not-is_loose-clause-row c y below over =
    let r = c.args.self.now in
    let mates = over.1 in
    let one = c.inputs_share_lines.ensures r.queues r.chart c.args.x over.0 c.facts.ensures.chart mates.first mates.second mates.one_queue in
    let loose : ready_of c.args.lines.now (line r.chart.events c.args.x) ≡ false = ap (ready_of c.args.lines.now) one ∙ mates.loose in
    clash (c.is_loose.ensures.1 (mates.first, loose)) c.if-not-is_loose.true

pub loop-u-init : goal.loop-u-init
loop-u-init c = record { sound = c.requires.sound; kept = λ x y h. h; over = λ v below. absurd (omega (arith, below)) }

pub loop-u-preserved : goal.loop-u-preserved
loop-u-preserved c =
    let r = c.args.self.now in
    let n : ℕ = length r.chart.events in
    let accepted = c.facts.ensures.chart in
    let is_wired = c.ends_share_queues.ensures r.queues r.chart accepted in
    let lines : HaveOneLine (wiring_of r) = λ x y ix iy. c.inputs_share_lines.ensures r.queues r.chart x y accepted ix iy in
    let i = c.loop-u.invariant in
    let now = cell n c.loop-u.rows in
    let x : ℕ = c.args.x in
    let u : ℕ = c.loop-u.u in
    elim c.if-are_mates.branch [
      | then-are_mates w ↦
          let last = cell n w.take_in.new.words in
          let put = rw c.events-events.ensures at w.take_in.ensures in
          let mates = c.are_mates.ensures.0 w.if-are_mates.true in
          let known = input_below r.chart.events u mates.second in
          rw w.rows-is (record {
            sound = over_sound (wiring_of r) (ready_of c.args.lines.now) is_wired lines now last x u put mates i.sound;
            kept = λ a b h. put a b ∙ row_kept now x u true a b (i.kept a b h);
            over = below_more _ _
                (λ v below m y within up. put x y ∙ row_kept now x u true x y (i.over v below m y within up))
                (λ m y within up. over_more (wiring_of r) (ready_of c.args.lines.now) is_wired lines now last x u put y (λ h. i.kept u y (c.requires.plain u known y within h)) up);
          })
      | else-are_mates w ↦ rw w.rows-is (record {
        sound = i.sound;
        kept = i.kept;
        over = below_more _ _ i.over (λ m. clash (c.are_mates.ensures.1 m) w.if-are_mates.false);
      })
    ]

pub returns-clause-row : goal.returns-clause-row
returns-clause-row c y below over =
    let known = input_below c.args.self.now.chart.events over.0 over.1.second in
    let last = c.loop-u-test.false in
    let all = c.events-events.ensures in
    c.loop-u.invariant.over over.0 (omega (arith, known, last, all)) over.1 y below over.2
