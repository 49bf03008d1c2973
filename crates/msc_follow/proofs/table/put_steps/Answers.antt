use Rattle.std.proofs.Common.{ℕ, ◌||◌, length}
use Rattle.msc_chart.specs.Charts.{before}
use Rattle.msc_chart.specs.Orders.{wired}
use Rattle.msc_follow.specs.Steps.{is_ahead, is_sent, leads}
use Rattle.msc_follow.proofs.Gaining.{gains_either}
use Rattle.msc_follow.proofs.table.put_steps.Goals as goal

pub returns : goal.returns
unfolding leads
returns c =
    let d = c.args.wiring.now.chart.now in
    let chart = wired c.args.wiring.now.queues d in
    let n = length d.events in
    let x : ℕ = c.args.x in
    let drawn = λ (y : ℕ). before d.events x y in
    let later = gains_either n c.put_sent.new.words c.put_drawn.new.words c.put_ahead.new.words x drawn (is_ahead chart x) c.put_drawn.ensures c.put_ahead.ensures in
    gains_either n c.args.words.now c.put_sent.new.words c.put_ahead.new.words x (is_sent chart x) (λ (y : ℕ). before d.events x y || is_ahead chart x y) c.put_sent.ensures later
