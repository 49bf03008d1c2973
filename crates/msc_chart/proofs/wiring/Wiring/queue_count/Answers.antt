use Rattle.std.proofs.Common.{ℕ, ◌<◌, refl, sym, subst}
use Rattle.msc_chart.specs.Orders.{queue, queue_bound}
use Rattle.msc_chart.specs.Wirings.{wired_by}
use Rattle.msc_chart.proofs.QueueLemmas.{number_bounded}
use Rattle.msc_chart.proofs.wiring.Wiring.queue_count.Goals as goal

pub returns-in-Uniform-clause-value : goal.returns-in-Uniform-clause-value
unfolding queue_bound
returns-in-Uniform-clause-value c = rw c.in-Uniform.is c.count_alone.ensures

pub returns-in-Uniform-clause-past : goal.returns-in-Uniform-clause-past
returns-in-Uniform-clause-past c e below away =
    subst (λ (n : ℕ). queue (wired_by c.args.self.now) e < n) (sym (returns-in-Uniform-clause-value c))
    (number_bounded _ c.args.self.now.chart.now e c.facts.ensures below away)

pub returns-in-Mixed-clause-value : goal.returns-in-Mixed-clause-value
unfolding queue_bound
returns-in-Mixed-clause-value c =
    rw (c.in-Mixed.is, c.instances-instances.ensures.number, c.messages.ensures.number) refl

pub returns-in-Mixed-clause-past : goal.returns-in-Mixed-clause-past
returns-in-Mixed-clause-past c e below away =
    subst (λ (n : ℕ). queue (wired_by c.args.self.now) e < n) (sym (returns-in-Mixed-clause-value c))
    (number_bounded _ c.args.self.now.chart.now e c.facts.ensures below away)
