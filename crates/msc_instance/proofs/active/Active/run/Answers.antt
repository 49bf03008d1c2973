use Rattle.std.proofs.Common.{◌<◌, ◌∙◌, arith, sym, refl, inl, inr}
use Rattle.msc_chart.proofs.ListLemmas.{clash}
use Rattle.msc_instance.proofs.Ending.{ends_stopped, ends_finished, ends_starved, ends_impatient, smaller_empty, smaller_busy}
use Rattle.msc_instance.proofs.Sendings.{empty_stopped, busy_stopped, strange_stopped}
use Rattle.msc_instance.proofs.Patience.{late_first, late_idle, late_found, late_last}
use Rattle.msc_instance.proofs.active.Active.run.Goals as goal

pub returns-then-not-go_on-clause-ends : goal.returns-then-not-go_on-clause-ends
returns-then-not-go_on-clause-ends g c =
    ends_stopped c.args.chart.now c.args.post.now c.go_on.new.self c.go_on.ensures.sound
    g.G.Gate.is_open c.args.patience
    (λ known. c.go_on.ensures.stopped known c.if-not-go_on.true)
    (λ known. c.go_on.ensures.ready known c.if-not-go_on.true)

pub returns-then-self-post-clause-ends : goal.returns-then-self-post-clause-ends
returns-then-self-post-clause-ends g c =
    ends_finished c.args.chart.now c.args.post.now c.go_on.new.self c.go_on.ensures.sound
    g.G.Gate.is_open c.args.patience c.if-self-post.true

pub returns-then-all_ended-clause-ends : goal.returns-then-all_ended-clause-ends
returns-then-all_ended-clause-ends g c =
    let s = c.go_on.ensures.sound in
    let part : c.go_on.new.self.first < c.args.post.now.end = omega (arith, s.first.to) in
    ends_starved c.args.chart.now c.args.post.now c.go_on.new.self s g.G.Gate.is_open c.args.patience part
    (c.go_on.ensures.first c.if-not-go_on.false) (c.go_on.ensures.blocked c.if-not-go_on.false)
    (rw (← c.as_slice.ensures.value) (c.all_ended.ensures.0 c.if-all_ended.true))

pub returns-then-empty-patience-clause-ends : goal.returns-then-empty-patience-clause-ends
returns-then-empty-patience-clause-ends g c =
    let s = c.go_on.ensures.sound in
    let part : c.go_on.new.self.first < c.args.post.now.end = omega (arith, s.first.to) in
    ends_impatient c.args.chart.now c.args.post.now c.go_on.new.self s g.G.Gate.is_open c.args.patience part
    (c.go_on.ensures.first c.if-not-go_on.false) (c.go_on.ensures.blocked c.if-not-go_on.false)
    (rw (← c.as_slice.ensures.value) (λ all. clash (c.all_ended.ensures.1 all) c.if-all_ended.false))
    (rw (c.go_on.ensures.sent.inlets, ← c.if-empty-patience.true) c.rounds.invariant.idle)

pub rounds-smaller-in-Empty : goal.rounds-smaller-in-Empty
rounds-smaller-in-Empty g c =
    let took = c.in-Empty.ensures.took in
    smaller_empty c.args.chart.now c.args.post.now c.rounds.self c.go_on.new.self c.take_each.new.self
    c.args.patience c.rounds.empty c.go_on.ensures.sent took.2
    (omega (arith, c.rounds.invariant.patient))

pub rounds-preserved-in-Empty : goal.rounds-preserved-in-Empty
rounds-preserved-in-Empty g c =
    let took = c.in-Empty.ensures.took in
    record {
      sound = took.0;
      idle = took.1.idle c.rounds.empty (omega (arith, c.rounds.invariant.patient))
          (rw c.go_on.ensures.sent.inlets c.rounds.invariant.idle);
      patient = omega (arith, c.rounds.invariant.patient);
      in_time = λ eager. late_idle c.rounds.empty c.rounds.self c.go_on.new.self c.take_each.new.self
          c.go_on.ensures.sent took.1 (c.rounds.invariant.in_time eager);
      asked = λ all. c.take_each.ensures.asked (λ is. empty_stopped (sym c.in-Empty.is ∙ is))
          (c.go_on.ensures.asked (c.rounds.invariant.asked all));
      untaken = λ zero. absurd (omega (arith, c.rounds.invariant.patient, zero));
    }

pub rounds-smaller : goal.rounds-smaller
rounds-smaller g c =
    smaller_busy c.args.chart.now c.args.post.now c.rounds.self c.go_on.new.self c.take_each.new.self
    c.args.patience c.rounds.empty c.go_on.ensures.sent
    c.in-Busy.ensures.took.1

pub returns-in-Stopped-clause-ends : goal.returns-in-Stopped-clause-ends
returns-in-Stopped-clause-ends g c =
    ends_stopped c.args.chart.now c.args.post.now c.take_each.new.self c.in-Stopped.ensures.took
    g.G.Gate.is_open c.args.patience
    (λ known. absurd (c.take_each.ensures.open known c.in-Stopped.is))
    (λ known. absurd (c.take_each.ensures.open known c.in-Stopped.is))

pub returns-then-not-go_on-clause-untaken : goal.returns-then-not-go_on-clause-untaken
returns-then-not-go_on-clause-untaken g c zero = c.go_on.ensures.sent.inlets ∙ c.rounds.invariant.untaken zero

pub returns-then-self-post-clause-untaken : goal.returns-then-self-post-clause-untaken
returns-then-self-post-clause-untaken g c zero = c.go_on.ensures.sent.inlets ∙ c.rounds.invariant.untaken zero

pub returns-then-all_ended-clause-untaken : goal.returns-then-all_ended-clause-untaken
returns-then-all_ended-clause-untaken g c zero = c.go_on.ensures.sent.inlets ∙ c.rounds.invariant.untaken zero

pub returns-then-empty-patience-clause-untaken : goal.returns-then-empty-patience-clause-untaken
returns-then-empty-patience-clause-untaken g c zero = c.go_on.ensures.sent.inlets ∙ c.rounds.invariant.untaken zero

pub rounds-preserved : goal.rounds-preserved
rounds-preserved g c = record {
  sound = c.in-Busy.ensures.took.0;
  idle = λ k d lt. omega arith;
  patient = omega arith;
  in_time = λ _. late_found c.take_each.new.self c.in-Busy.ensures.took.2;
  asked = λ all. c.take_each.ensures.asked (λ is. busy_stopped (sym c.in-Busy.is ∙ is))
      (c.go_on.ensures.asked (c.rounds.invariant.asked all));
  untaken = λ zero. absurd (omega (arith, c.rounds.invariant.patient, zero));
}

pub returns-in-Stopped-clause-untaken : goal.returns-in-Stopped-clause-untaken
returns-in-Stopped-clause-untaken g c zero = absurd (omega (arith, c.rounds.invariant.patient, zero))

pub returns-in-Foreign-clause-untaken : goal.returns-in-Foreign-clause-untaken
returns-in-Foreign-clause-untaken g c zero = absurd (omega (arith, c.rounds.invariant.patient, zero))

pub returns-then-empty-patience-clause-in_time : goal.returns-then-empty-patience-clause-in_time
returns-then-empty-patience-clause-in_time g c = λ _ eager.
    late_last c.args.patience c.go_on.new.self.inlets.items
    (rw (← c.as_slice.ensures.value) (λ all. clash (c.all_ended.ensures.1 all) c.if-all_ended.false))
    (rw (c.go_on.ensures.sent.inlets, ← c.if-empty-patience.true) c.rounds.invariant.idle)
    (rw (c.go_on.ensures.sent.inlets, ← c.if-empty-patience.true) (c.rounds.invariant.in_time eager))

pub returns-then-not-go_on-clause-asked : goal.returns-then-not-go_on-clause-asked
returns-then-not-go_on-clause-asked g c = λ all. inl (c.go_on.ensures.asked (c.rounds.invariant.asked all))

pub returns-then-self-post-clause-asked : goal.returns-then-self-post-clause-asked
returns-then-self-post-clause-asked g c = λ all. inl (c.go_on.ensures.asked (c.rounds.invariant.asked all))

pub returns-then-all_ended-clause-asked : goal.returns-then-all_ended-clause-asked
returns-then-all_ended-clause-asked g c = λ all. inl (c.go_on.ensures.asked (c.rounds.invariant.asked all))

pub returns-then-empty-patience-clause-asked : goal.returns-then-empty-patience-clause-asked
returns-then-empty-patience-clause-asked g c = λ all. inl (c.go_on.ensures.asked (c.rounds.invariant.asked all))

pub returns-in-Stopped-clause-asked : goal.returns-in-Stopped-clause-asked
returns-in-Stopped-clause-asked g c = λ all.
    inr (refl, c.take_each.ensures.last c.in-Stopped.is (c.go_on.ensures.asked (c.rounds.invariant.asked all)))

pub returns-in-Foreign-clause-asked : goal.returns-in-Foreign-clause-asked
returns-in-Foreign-clause-asked g c = λ all.
    inl (c.take_each.ensures.asked (λ is. strange_stopped (sym c.in-Foreign.is ∙ is))
    (c.go_on.ensures.asked (c.rounds.invariant.asked all)))
