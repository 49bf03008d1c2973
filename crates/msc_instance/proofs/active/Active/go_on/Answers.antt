use Rattle.std.proofs.Common.{refl, sym, arith, ◌∙◌}
use Rattle.std.specs.Vec.{with_items}
use Rattle.std.proofs.lemmas.Bool.{true≢false, false≢true}
use Rattle.std.proofs.lemmas.List.{with_items_is}
use Rattle.msc_instance.specs.Active.{logged_by}
use Rattle.msc_instance.proofs.Logs.{none_due}
use Rattle.msc_instance.proofs.Sendings.{done_stopped, waits_stopped}
use Rattle.msc_instance.proofs.Sound.{has_closed, are_closed}
use Rattle.msc_instance.proofs.active.Active.go_on.Goals as goal

pub returns-then-not-self-clause-sound : goal.returns-then-not-self-clause-sound
returns-then-not-self-clause-sound g c =
    let a = c.do_ready.new.self in
    let same = with_items_is a.outlets c.close_all.new.outlets (c.close_all.auto.outlets
    ∙ c.as_mut_slice.ensures.len) in
    has_closed c.args.chart.now c.args.post.now a (with_items a.outlets c.close_all.new.outlets)
    c.do_ready.ensures.sound c.if-not-self.true
    (c.in-Done.ensures.done refl)
    (rw (same, ← c.as_mut_slice.ensures.value) c.close_all.ensures)

pub returns-then-not-self-clause-blocked : goal.returns-then-not-self-clause-blocked
returns-then-not-self-clause-blocked g c =
    let a = c.do_ready.new.self in let s = c.do_ready.ensures.sound in
    λ _. none_due c.args.chart.now c.args.post.now s.post (logged_by a) a.next s.next
    (c.in-Done.ensures.done refl)

pub returns-else-not-self-clause-blocked : goal.returns-else-not-self-clause-blocked
returns-else-not-self-clause-blocked g c =
    let a = c.do_ready.new.self in let s = c.do_ready.ensures.sound in
    λ _. none_due c.args.chart.now c.args.post.now s.post (logged_by a) a.next s.next
    (c.in-Done.ensures.done refl)

pub returns-in-Stopped-clause-blocked : goal.returns-in-Stopped-clause-blocked
returns-in-Stopped-clause-blocked g c = λ other. absurd (false≢true other)

pub returns-in-Stopped-clause-first : goal.returns-in-Stopped-clause-first
returns-in-Stopped-clause-first g c = λ other. absurd (false≢true other)

pub returns-in-Stopped-clause-stopped : goal.returns-in-Stopped-clause-stopped
returns-in-Stopped-clause-stopped g c = λ gate e. c.do_ready.ensures.stopped gate c.in-Stopped.is

pub returns-in-Waits-clause-blocked : goal.returns-in-Waits-clause-blocked
returns-in-Waits-clause-blocked g c = λ e. c.do_ready.ensures.waits c.in-Waits.is

pub returns-in-Waits-clause-first : goal.returns-in-Waits-clause-first
returns-in-Waits-clause-first g c = λ e. c.do_ready.ensures.first (λ other. waits_stopped (sym c.in-Waits.is ∙ other))

pub returns-in-Waits-clause-stopped : goal.returns-in-Waits-clause-stopped
returns-in-Waits-clause-stopped g c = λ gate other. absurd (true≢false other)

pub returns-then-not-self-clause-stopped : goal.returns-then-not-self-clause-stopped
returns-then-not-self-clause-stopped g c = λ gate other. absurd (true≢false other)

pub returns-then-not-self-clause-first : goal.returns-then-not-self-clause-first
returns-then-not-self-clause-first g c = λ e. c.do_ready.ensures.first (λ other. done_stopped (sym c.in-Done.is ∙ other))

pub returns-else-not-self-clause-first : goal.returns-else-not-self-clause-first
returns-else-not-self-clause-first g c = λ e. c.do_ready.ensures.first (λ other. done_stopped (sym c.in-Done.is ∙ other))

pub returns-else-not-self-clause-stopped : goal.returns-else-not-self-clause-stopped
returns-else-not-self-clause-stopped g c = λ gate other. absurd (true≢false other)

pub returns-in-Stopped-clause-ready : goal.returns-in-Stopped-clause-ready
returns-in-Stopped-clause-ready g c = λ gate e. c.do_ready.ensures.ready gate c.in-Stopped.is

pub returns-in-Stopped-clause-closed : goal.returns-in-Stopped-clause-closed
returns-in-Stopped-clause-closed g c = λ other. absurd (false≢true other)

pub returns-in-Waits-clause-ready : goal.returns-in-Waits-clause-ready
returns-in-Waits-clause-ready g c = λ gate other. absurd (true≢false other)

pub returns-in-Waits-clause-closed : goal.returns-in-Waits-clause-closed
returns-in-Waits-clause-closed g c = λ e at.
    let behind = c.do_ready.ensures.behind c.in-Waits.is in
    absurd (omega (arith, behind, at))

pub returns-then-not-self-clause-ready : goal.returns-then-not-self-clause-ready
returns-then-not-self-clause-ready g c = λ gate other. absurd (true≢false other)

pub returns-then-not-self-clause-closed : goal.returns-then-not-self-clause-closed
returns-then-not-self-clause-closed g c = λ e at.
    are_closed c.args.chart.now c.args.post.now _ (returns-then-not-self-clause-sound g c) refl

pub returns-else-not-self-clause-ready : goal.returns-else-not-self-clause-ready
returns-else-not-self-clause-ready g c = λ gate other. absurd (true≢false other)

pub returns-else-not-self-clause-closed : goal.returns-else-not-self-clause-closed
returns-else-not-self-clause-closed g c = λ e at.
    are_closed c.args.chart.now c.args.post.now c.do_ready.new.self c.do_ready.ensures.sound
    c.if-not-self.false
