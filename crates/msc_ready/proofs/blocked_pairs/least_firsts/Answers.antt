use Rattle.std.proofs.Common.{ℕ, ◌≡◌, ◌+◌, length, ap, ◌∙◌, subst, arith}
use Rattle.std.proofs.lemmas.List.{length_push}
use Rattle.msc_ready.specs.Views.{AreLeastFirsts}
use Rattle.msc_ready.proofs.Ahead.{firsts_more}
use Rattle.msc_ready.proofs.blocked_pairs.least_firsts.Goals as goal

pub loop-h-preserved : goal.loop-h-preserved
loop-h-preserved c =
    let r = c.args.ready.now in
    let before = c.loop-h.invariant in
    rw c.in_ok-push.ensures.items (record {
      each = length_push c.loop-h.firsts.items c.least_first.result ∙ ap (λ (n : ℕ). n + 1) before.each;
      least = firsts_more r c.loop-h.firsts.items c.loop-h.h c.least_first.result before.each before.least c.least_first.ensures;
    })

pub returns : goal.returns
returns c =
    let r = c.args.ready.now in
    let before = c.loop-h.invariant in
    let last = c.loop-h-test.false in
    let auto = c.loop-h.auto in
    let all = c.events-h-end.ensures in
    let done : c.loop-h.h ≡ length r.chart.events = omega arith in
    record { each = before.each ∙ done; least = subst (λ (k : ℕ). AreLeastFirsts r c.loop-h.firsts.items k) done before.least }
