use Rattle.std.proofs.Common.{ℕ, length, inr, sym, ◌∙◌}
use Rattle.msc_chart.specs.Orders.{wired}
use Rattle.msc_follow.specs.Steps.{is_sent}
use Rattle.msc_follow.proofs.Shared.{clash}
use Rattle.msc_follow.proofs.Gaining.{gains_none, gains_put}
use Rattle.msc_follow.proofs.Steps.{sent_from, sent_parts}
use Rattle.msc_follow.proofs.table.put_sent.Goals as goal

pub returns-then-is_output : goal.returns-then-is_output
returns-then-is_output c =
    let chart = wired c.args.wiring.now.queues c.args.wiring.now.chart.now in
    let n = length c.args.wiring.now.chart.now.events in
    let old = c.args.words.now in
    let x : ℕ = c.args.x in
    let test = is_sent chart x in
    let put = rw c.events.ensures.number at c.put.ensures in
    gains_put n old x test old (λ (w : ℕ). ⊥) (λ (w : ℕ). Unit {0}) (gains_none n old x test (λ (w : ℕ). ⊥) (λ y none h. none)) c.put.new.words c.other_end.result
    (sent_from chart x c.other_end.result (sym c.is_output.ensures ∙ c.if-is_output.true) (sym c.other_end.ensures.value)) put
    (λ w m h. inr (sym (sent_parts chart x w h).1 ∙ sym c.other_end.ensures.value))

pub returns-else-is_output : goal.returns-else-is_output
returns-else-is_output c =
    let chart = wired c.args.wiring.now.queues c.args.wiring.now.chart.now in
    gains_none (length c.args.wiring.now.chart.now.events) c.args.words.now c.args.x (is_sent chart c.args.x) (λ (w : ℕ). Unit {0})
    (λ y d h. clash (c.is_output.ensures ∙ (sent_parts chart c.args.x y h).0) c.if-is_output.false)
