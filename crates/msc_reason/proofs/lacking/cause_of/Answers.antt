use Rattle.std.proofs.Common.{inl, inr, refl, sym, ◌∙◌}
use Rattle.msc_chart.proofs.Drawn.{before_parts}
use Rattle.msc_race.specs.Views.{wiring_of}
use Rattle.msc_reason.proofs.OnePair.{needed_by}
use Rattle.msc_reason.proofs.lacking.cause_of.Goals as goal

pub needed_of-requires : goal.needed_of-requires
needed_of-requires c = rw c.chart-chart.ensures (before_parts c.args.enforced.now.chart.events c.args.e c.args.f c.requires.0).0

pub other_end-requires : goal.other_end-requires
other_end-requires c = rw c.chart-chart.ensures (before_parts c.args.enforced.now.chart.events c.args.e c.args.f c.requires.0).1

pub holds-requires-clause-e_known : goal.holds-requires-clause-e_known
holds-requires-clause-e_known c = (before_parts c.args.enforced.now.chart.events c.args.e c.args.f c.requires.0).1

pub holds-requires-clause-f_known : goal.holds-requires-clause-f_known
holds-requires-clause-f_known c = (before_parts c.args.enforced.now.chart.events c.args.e c.args.f c.requires.0).0

pub returns-clause-cause : goal.returns-clause-cause
returns-clause-cause c =
    let self = c.args.enforced.now in
    let by_kind = rw c.chart-chart.ensures at c.needed_of.ensures.value in
    let needed = by_kind ∙ sym (needed_by (wiring_of self) c.args.e c.args.f c.kind_of-kind.result c.kind_of-kind.ensures.kind) in
    let output = rw c.chart-chart.ensures at c.other_end.ensures.value in
    record { kind = c.kind_of-kind.ensures.kind; first = needed; second = output; always = c.holds.ensures.exact }

pub returns-clause-by_order : goal.returns-clause-by_order
returns-clause-by_order c =
    let self = c.args.enforced.now in
    let by_kind = rw c.chart-chart.ensures at c.needed_of.ensures.value in
    let needed = by_kind ∙ sym (needed_by (wiring_of self) c.args.e c.args.f c.kind_of-kind.result c.kind_of-kind.ensures.kind) in
    let output = rw c.chart-chart.ensures at c.other_end.ensures.value in
    rw (needed, output, c.holds.ensures.value, c.kind_of-kind.ensures.by_order) refl

pub returns-clause-apart : goal.returns-clause-apart
returns-clause-apart c =
    let self = c.args.enforced.now in
    let by_kind = rw c.chart-chart.ensures at c.needed_of.ensures.value in
    let needed = by_kind ∙ sym (needed_by (wiring_of self) c.args.e c.args.f c.kind_of-kind.result c.kind_of-kind.ensures.kind) in
    let output = rw c.chart-chart.ensures at c.other_end.ensures.value in
    let input = c.a_race_has_one_cause.ensures.input self.queues self.chart c.facts.ensures.chart c.args.e c.args.f c.requires in
    let one = c.a_race_has_one_cause.ensures.causes self.queues self.chart c.facts.ensures.chart c.args.e c.args.f c.requires.0 input in
    λ same. c.requires.1 (one.1 (inl (sym needed ∙ same ∙ output)))

pub returns-clause-causes : goal.returns-clause-causes
returns-clause-causes c =
    let self = c.args.enforced.now in
    let by_kind = rw c.chart-chart.ensures at c.needed_of.ensures.value in
    let needed = by_kind ∙ sym (needed_by (wiring_of self) c.args.e c.args.f c.kind_of-kind.result c.kind_of-kind.ensures.kind) in
    let output = rw c.chart-chart.ensures at c.other_end.ensures.value in
    let input = c.a_race_has_one_cause.ensures.input self.queues self.chart c.facts.ensures.chart c.args.e c.args.f c.requires in
    let one = c.a_race_has_one_cause.ensures.causes self.queues self.chart c.facts.ensures.chart c.args.e c.args.f c.requires.0 input in
    λ before. c.requires.1 (one.1 (inr (rw (needed, output) at before)))
