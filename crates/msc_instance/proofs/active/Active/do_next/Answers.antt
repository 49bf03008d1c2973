use Rattle.std.proofs.Common.{refl, sym, ◌∙◌, arith}
use Rattle.std.proofs.lemmas.Bool.{false≢true}
use Rattle.msc_chart.proofs.ListLemmas.{by_test, clash}
use Rattle.msc_instance.proofs.Asked.{let_more}
use Rattle.msc_instance.proofs.Sound.{due_local}
use Rattle.msc_instance.proofs.active.Active.do_next.Goals as goal

pub act-requires-clause-local : goal.act-requires-clause-local
act-requires-clause-local g c =
    due_local c.args.chart.now c.args.self.now.next c.requires.due (sym c.is_output.ensures
    ∙ c.if-is_output.false)

pub returns-then-not-at-clause-sent : goal.returns-then-not-at-clause-sent
returns-then-not-at-clause-sent g c = record { inlets = refl; longer = omega arith }

pub returns-then-not-at-clause-next : goal.returns-then-not-at-clause-next
returns-then-not-at-clause-next g c = λ other. absurd (false≢true other)

pub returns-then-not-at-clause-stopped : goal.returns-then-not-at-clause-stopped
returns-then-not-at-clause-stopped g c = λ gate other. absurd (clash (c.at.ensures.open gate) c.if-not-at.true)

pub returns-then-not-at-clause-kept : goal.returns-then-not-at-clause-kept
returns-then-not-at-clause-kept g c = λ other. refl

pub returns-then-not-at-clause-output : goal.returns-then-not-at-clause-output
returns-then-not-at-clause-output g c = λ gate other. absurd (clash (c.at.ensures.open gate) c.if-not-at.true)

pub returns-then-is_output-clause-asked : goal.returns-then-is_output-clause-asked
returns-then-is_output-clause-asked g c =
    by_test c.send.result
    (λ yes. let_more (g.G.Gate.lets c.args.gate.now) c.args.post.now.instance _ _ _ (c.send.ensures.logged yes)
    (c.at.ensures.asked c.if-not-at.false))
    (λ no. λ all. rw (c.send.ensures.kept no) all)

pub returns-clause-asked : goal.returns-clause-asked
returns-clause-asked g c =
    let_more (g.G.Gate.lets c.args.gate.now) c.args.post.now.instance _ _ _ c.act.ensures.logged
    (c.at.ensures.asked c.if-not-at.false)
