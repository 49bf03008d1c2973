use Rattle.std.proofs.Common.{◌+◌, ℕ, List, map, ap, ◌∙◌, subst, arith}
use Rattle.std.specs.Borrow.{Bor}
use Rattle.std.specs.Prelude.{IsTrue, ◌↔◌}
use Rattle.std.proofs.lemmas.List.{length_push}
use Rattle.msc_chart.specs.Lists.{Occurs}
use Rattle.msc_answer.proofs.Instances.{lines_more, named_there}
use Rattle.msc_answer.proofs.readied.each_named.Goals as goal

pub loop-i-preserved : goal.loop-i-preserved
loop-i-preserved c =
    let names = map (λ (name : Bor (List ℕ)). name.now) c.args.names.now in
    let instances = c.args.chart.now.instances in
    let i : ℕ = c.loop-i.i in
    let told = subst (λ (name : List ℕ). IsTrue c.is_named.result ↔ Occurs names name) (named_there instances i c.instance_name.result.now c.instance_name.ensures) c.is_named.ensures in
    rw c.in_ok-push.ensures.items (record {
      each = length_push c.loop-i.lines.items c.is_named.result ∙ ap (λ (n : ℕ). n + 1) c.loop-i.invariant.each;
      named = lines_more instances names c.loop-i.lines.items i c.is_named.result c.loop-i.invariant.each c.loop-i.invariant.named told;
    })

pub returns : goal.returns
returns c =
    let last = c.loop-i-test.false in
    let auto = c.loop-i.auto in
    let number = c.instances-i-end.ensures.number in
    let done = c.loop-i.invariant.each in
    record {
      each = omega (arith, done, last, auto, number);
      named = λ i below. c.loop-i.invariant.named i (omega (arith, below, last, auto, number));
    }
