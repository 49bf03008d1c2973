use Rattle.std.proofs.Common.{◌≡◌, ℕ, ◌*◌, ◌/◌, ◌%◌, length, arith, ap, ◌∙◌, map}
use Rattle.std.specs.List.{range_with_len}
use Rattle.msc_chart.specs.Drawings.{message_at}
use Rattle.msc_chart.specs.Rounds.{message_in, repeated_message}
use Rattle.msc_chart.proofs.RoundParts.{range_grown}
use Rattle.msc_chart.proofs.rounds.Rounds.messages.Goals as goal

pub loop-m-preserved : goal.loop-m-preserved
unfolding repeated_message
loop-m-preserved c =
    let d = c.args.self.now.chart.now in
    let m = c.loop-m.m in
    range_grown (repeated_message 2 d) m _ _ _ c.in_ok-push.ensures.items c.loop-m.invariant
    (c.in_ok-message.ensures ∙ ap (λ (n : ℕ). message_in 2 d.events (message_at d (m % n)) (m / n)) c.messages-count.ensures.number)

pub returns : goal.returns
returns c =
    let all : c.loop-m.m ≡ 2 * length c.args.self.now.chart.now.messages = omega arith in
    c.from_vec.ensures ∙ c.loop-m.invariant ∙ ap (λ (n : ℕ). map (repeated_message 2 c.args.self.now.chart.now) (range_with_len 0 n)) all
