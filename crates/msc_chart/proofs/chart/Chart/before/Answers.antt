use Rattle.std.proofs.Common.{◌≡◌, refl, sym, ap, ◌∙◌, true≢false, arith}
use Rattle.std.proofs.lemmas.Bool.{lt-ltb, ltb-true}
use Rattle.msc_chart.specs.Charts.{at, line, segment}
use Rattle.msc_chart.proofs.Drawn.{before_from, before_parts}
use Rattle.msc_chart.proofs.Readers.{seen_at}
use Rattle.msc_chart.proofs.chart.Chart.before.Goals as goal

pub returns-then-first-second : goal.returns-then-first-second
unfolding line
returns-then-first-second c =
    let events = c.args.self.now.events in
    let x : c.index-first.result.now ≡ at events c.args.e = seen_at _ _ c.self.view_is _ c.args.e _ refl c.requires.e_known c.index-first.ensures in
    let y : c.index-second.result.now ≡ at events c.args.f = seen_at _ _ c.self.view_is _ c.args.f _ refl c.requires.f_known c.index-second.ensures in
    (λ no. absurd (true≢false (sym no)), λ b. absurd (c.if-first-second.true (ap (λ v. v.line) x ∙ (before_parts events c.args.e c.args.f b).2 ∙ ap (λ v. v.line) (sym y))))

pub returns : goal.returns
unfolding line segment
returns c =
    let events = c.args.self.now.events in
    let x : c.index-first.result.now ≡ at events c.args.e = seen_at _ _ c.self.view_is _ c.args.e _ refl c.requires.e_known c.index-first.ensures in
    let y : c.index-second.result.now ≡ at events c.args.f = seen_at _ _ c.self.view_is _ c.args.f _ refl c.requires.f_known c.index-second.ensures in
    let lines : line events c.args.e ≡ line events c.args.f = ap (λ v. v.line) (sym x) ∙ c.if-first-second.false ∙ ap (λ v. v.line) y in
    let first : c.index-first.result.now.segment ≡ segment events c.args.e = ap (λ v. v.segment) x in
    let second : c.index-second.result.now.segment ≡ segment events c.args.f = ap (λ v. v.segment) y in (
      λ less. before_from events c.args.e c.args.f c.requires.e_known c.requires.f_known lines (omega (arith, ltb-true _ _ less, first, second)),
      λ b. lt-ltb _ _ (omega (arith, (before_parts events c.args.e c.args.f b).3, first, second)),
    )
