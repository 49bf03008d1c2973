use Rattle.std.proofs.Common.{ℕ, ◌≡◌, ◌+◌, length, ap, ◌∙◌, subst, arith}
use Rattle.std.proofs.lemmas.List.{length_push}
use Rattle.msc_ready.specs.Held.{ReadyChart}
use Rattle.msc_ready.specs.Views.{AreAhead}
use Rattle.msc_ready.proofs.Ahead.{aheads_more}
use Rattle.msc_ready.proofs.blocked_pairs.BlockedPairs.all_ahead.Goals as goal

pub loop-f-preserved : goal.loop-f-preserved
loop-f-preserved c =
    let before = c.loop-f.invariant in
    rw c.in_ok-push.ensures.items (record {
      each = length_push c.loop-f.all.items c.ahead_of.result ∙ ap (λ (n : ℕ). n + 1) before.each;
      ahead = aheads_more c.args.self.now c.loop-f.all.items c.loop-f.f c.ahead_of.result before.each before.ahead c.ahead_of.ensures;
    })

pub returns : goal.returns
returns c =
    let r = c.args.self.now in
    let before = c.loop-f.invariant in
    let last = c.loop-f-test.false in
    let auto = c.loop-f.auto in
    let all = c.events-f-end.ensures ∙ ap (λ (r : ReadyChart). length r.chart.events) c.self.view_is in
    let done : c.loop-f.f ≡ length r.chart.events = omega arith in
    record { each = before.each ∙ done; ahead = subst (λ (k : ℕ). AreAhead r c.loop-f.all.items k) done before.ahead }
