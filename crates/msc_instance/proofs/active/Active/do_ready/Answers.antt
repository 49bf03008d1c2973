use Rattle.std.proofs.Common.{◌<◌, refl, sym, ◌∙◌, arith}
use Rattle.msc_chart.specs.Charts.{before}
use Rattle.msc_chart.proofs.ListLemmas.{clash}
use Rattle.msc_execution.proofs.Lists.Words.{fails}
use Rattle.msc_instance.specs.declared.active.Active.{Active}
use Rattle.msc_instance.specs.Active.{HasSent, logged_by}
use Rattle.msc_instance.proofs.Logs.{first_within, waits, ready}
use Rattle.msc_instance.proofs.Due.{ready_to_send}
use Rattle.msc_instance.proofs.Sendings.{done_waits, done_stopped, waits_stopped}
use Rattle.msc_instance.proofs.active.Active.do_ready.Goals as goal

-- what is sent in two steps is sent in one
sent_then : (a b c : Active) → HasSent a b → HasSent b c → HasSent a c
sent_then a b c first then = record {
  inlets = then.inlets ∙ first.inlets;
  longer = let one = first.longer in let two = then.longer in omega (arith, one, two);
}

pub before-requires-clause-e_known : goal.before-requires-clause-e_known
before-requires-clause-e_known g c =
    let d = c.args.chart.now in let p = c.args.post.now in let a = c.look.new.self in let s =
    c.look.ensures.sound in
    let lt : a.next < p.end = omega (arith, s.next.to) in
    let le = first_within d p s.post (logged_by a) a.next s.next a.first s.first c.look.ensures.first lt
    (c.look.ensures.next lt) in
    omega (arith, le, lt, s.post.within)

pub returns-then-before-clause-waits : goal.returns-then-before-clause-waits
returns-then-before-clause-waits g c =
    let d = c.args.chart.now in let p = c.args.post.now in let a = c.look.new.self in let s =
    c.look.ensures.sound in
    let lt : a.next < p.end = omega (arith, s.next.to) in
    λ _. waits d p s.post (logged_by a) a.next s.next a.first s.first c.look.ensures.first lt
    (c.look.ensures.next lt) (c.if-before.ensures.0 refl)

pub do_next-requires-clause-ready : goal.do_next-requires-clause-ready
do_next-requires-clause-ready g c =
    let d = c.args.chart.now in let p = c.args.post.now in let a = c.look.new.self in let s =
    c.look.ensures.sound in
    let lt : a.next < p.end = omega (arith, s.next.to) in
    let none = fails (before d.events a.first a.next) (λ h. clash (c.if-before.ensures.1 h) refl) in
    ready d p s.post (logged_by a) a.next s.next a.first s.first c.look.ensures.first lt
    (c.look.ensures.next lt) none

pub returns-then-self-post-clause-sent : goal.returns-then-self-post-clause-sent
returns-then-self-post-clause-sent g c = sent_then c.args.self.now c.events.self _ c.events.invariant.sent c.look.ensures.sent

pub returns-then-self-post-clause-waits : goal.returns-then-self-post-clause-waits
returns-then-self-post-clause-waits g c = λ other. absurd (done_waits other)

pub returns-then-self-post-clause-stopped : goal.returns-then-self-post-clause-stopped
returns-then-self-post-clause-stopped g c = λ gate other. absurd (done_stopped other)

pub returns-then-self-post-clause-first : goal.returns-then-self-post-clause-first
returns-then-self-post-clause-first g c = λ other. c.look.ensures.first

pub returns-then-before-clause-sent : goal.returns-then-before-clause-sent
returns-then-before-clause-sent g c = sent_then c.args.self.now c.events.self _ c.events.invariant.sent c.look.ensures.sent

pub returns-then-before-clause-done : goal.returns-then-before-clause-done
returns-then-before-clause-done g c = λ other. absurd (done_waits (sym other))

pub returns-then-before-clause-stopped : goal.returns-then-before-clause-stopped
returns-then-before-clause-stopped g c = λ gate other. absurd (waits_stopped other)

pub returns-then-before-clause-first : goal.returns-then-before-clause-first
returns-then-before-clause-first g c = λ other. c.look.ensures.first

pub do_next-requires-clause-due : goal.do_next-requires-clause-due
do_next-requires-clause-due g c =
    let s = c.look.ensures.sound in
    c.look.ensures.next (omega (arith, s.next.to))

pub returns-then-not-do_next-clause-sent : goal.returns-then-not-do_next-clause-sent
returns-then-not-do_next-clause-sent g c =
    sent_then c.args.self.now c.look.new.self _ (sent_then c.args.self.now c.events.self _ c.events.invariant.sent c.look.ensures.sent) c.do_next.ensures.sent

pub returns-then-not-do_next-clause-done : goal.returns-then-not-do_next-clause-done
returns-then-not-do_next-clause-done g c = λ other. absurd (done_stopped (sym other))

pub returns-then-not-do_next-clause-waits : goal.returns-then-not-do_next-clause-waits
returns-then-not-do_next-clause-waits g c = λ other. absurd (waits_stopped (sym other))

pub returns-then-not-do_next-clause-stopped : goal.returns-then-not-do_next-clause-stopped
returns-then-not-do_next-clause-stopped g c = λ gate e. c.do_next.ensures.stopped gate c.if-not-do_next.true

pub returns-then-not-do_next-clause-first : goal.returns-then-not-do_next-clause-first
returns-then-not-do_next-clause-first g c = λ other. absurd (other refl)

pub events-preserved : goal.events-preserved
events-preserved g c = record {
  sound = c.do_next.ensures.sound;
  sent = sent_then c.args.self.now c.look.new.self _ (sent_then c.args.self.now c.events.self _ c.events.invariant.sent c.look.ensures.sent) c.do_next.ensures.sent;
  asked = λ all. c.do_next.ensures.asked (rw c.look.ensures.logged (c.events.invariant.asked all));
  shut = c.do_next.ensures.shut ∙ c.look.ensures.shut ∙ c.events.invariant.shut;
}

pub returns-then-self-post-clause-behind : goal.returns-then-self-post-clause-behind
returns-then-self-post-clause-behind g c = λ other. absurd (done_waits other)

pub returns-then-self-post-clause-ready : goal.returns-then-self-post-clause-ready
returns-then-self-post-clause-ready g c = λ gate other. absurd (done_stopped other)

pub returns-then-before-clause-behind : goal.returns-then-before-clause-behind
returns-then-before-clause-behind g c = λ _. let s = c.look.ensures.sound in omega (arith, s.next.to)

pub returns-then-before-clause-ready : goal.returns-then-before-clause-ready
returns-then-before-clause-ready g c = λ gate other. absurd (waits_stopped other)

pub returns-then-not-do_next-clause-behind : goal.returns-then-not-do_next-clause-behind
returns-then-not-do_next-clause-behind g c = λ other. absurd (waits_stopped (sym other))

pub returns-then-not-do_next-clause-ready : goal.returns-then-not-do_next-clause-ready
returns-then-not-do_next-clause-ready g c = λ gate e.
    let d = c.args.chart.now in let p = c.args.post.now in let a = c.look.new.self in let s =
    c.look.ensures.sound in
    let lt : a.next < p.end = omega (arith, s.next.to) in
    ready_to_send d p s.post (logged_by a) a.next s.next lt (c.look.ensures.next lt) _
    (c.do_next.ensures.kept c.if-not-do_next.true)
    (c.do_next.ensures.output gate c.if-not-do_next.true)
    (ready d p s.post (logged_by a) a.next s.next a.first s.first c.look.ensures.first lt
    (c.look.ensures.next lt)
    (fails (before d.events a.first a.next) (λ h. clash (c.if-before.ensures.1 h) refl)))

pub returns-then-self-post-clause-asked : goal.returns-then-self-post-clause-asked
returns-then-self-post-clause-asked g c = λ all. rw c.look.ensures.logged (c.events.invariant.asked all)

pub returns-then-before-clause-asked : goal.returns-then-before-clause-asked
returns-then-before-clause-asked g c = λ all. rw c.look.ensures.logged (c.events.invariant.asked all)

pub returns-then-not-do_next-clause-asked : goal.returns-then-not-do_next-clause-asked
returns-then-not-do_next-clause-asked g c =
    λ all. c.do_next.ensures.asked (rw c.look.ensures.logged (c.events.invariant.asked all))
