use Rattle.std.proofs.Common.{◌≡◌, true, length, Some, refl, sym, ap, ◌∙◌, arith}
use Rattle.msc_chart.specs.Charts.{is_local, action}
use Rattle.msc_chart.specs.Drawings.{Drawing, label_of}
use Rattle.msc_chart.proofs.Readers.{seen_accepted, seen_at, seen_text}
use Rattle.msc_chart.proofs.chart.Chart.label.Goals as goal

pub bounds-as_slice-index : goal.bounds-as_slice-index
unfolding action
bounds-as_slice-index c =
    let now = c.args.self.now in
    let local : is_local now.events c.args.e ≡ true = sym c.is_local.ensures ∙ c.if-not-is_local.false in
    let known = (seen_accepted _ now c.self.view_is c.self.invariant.accepted).has_actions.known c.args.e local in
    let x = seen_at _ now c.self.view_is _ c.args.e _ refl c.requires c.index.ensures in
    let texts : length c.as_slice.result.now ≡ length now.actions = ap length (c.as_slice.ensures ∙ ap (λ (d : Drawing). d.actions) c.self.view_is) in
    omega (arith, ap (λ v. v.subject) x, known, texts)

pub returns : goal.returns
unfolding label_of action
returns c =
    let now = c.args.self.now in
    let local : is_local now.events c.args.e ≡ true = sym c.is_local.ensures ∙ c.if-not-is_local.false in
    let known = (seen_accepted _ now c.self.view_is c.self.invariant.accepted).has_actions.known c.args.e local in
    let x = seen_at _ now c.self.view_is _ c.args.e _ refl c.requires c.index.ensures in
    rw local (ap Some (c.as_slice-2.ensures ∙ seen_text _ now c.self.view_is _ c.as_slice.ensures _ _ _ (ap (λ v. v.subject) x) known c.index-as_slice-index.is))
