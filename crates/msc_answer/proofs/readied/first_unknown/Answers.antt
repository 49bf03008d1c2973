use Rattle.std.proofs.Common.{ℕ, List, map, subst, arith}
use Rattle.std.specs.Borrow.{Bor}
use Rattle.std.proofs.lemmas.Option.{slice_get_within}
use Rattle.std.proofs.lemmas.List.{length-map}
use Rattle.msc_chart.specs.Lists.{Occurs}
use Rattle.msc_answer.proofs.Instances.{names_more}
use Rattle.msc_answer.proofs.readied.first_unknown.Goals as goal

pub loop-name-preserved : goal.loop-name-preserved
loop-name-preserved c =
    names_more c.args.names.now c.loop-name.name-index _ c.loop-name-test.true (Occurs c.args.chart.now.instances) c.loop-name.invariant
    (subst (Occurs c.args.chart.now.instances) c.as_bytes.ensures.value (c.has_instance.ensures.0 c.if-not-has_instance.false))

pub returns : goal.returns
returns c name occurs =
    let inside = slice_get_within (map (λ name. name.now) c.args.names.now) occurs.0 name occurs.1 in
    let size = length-map c.args.names.now (λ (name : Bor (List ℕ)). name.now) in
    let past = c.loop-name-test.false in
    c.loop-name.invariant occurs.0 (omega (arith, inside, size, past)) name occurs.1
