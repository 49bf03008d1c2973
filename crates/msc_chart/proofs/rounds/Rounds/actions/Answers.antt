use Rattle.std.proofs.Common.{◌≡◌, ℕ, ◌*◌, length, arith, ap, sym, ◌∙◌, map}
use Rattle.std.specs.Option.{option_copied}
use Rattle.msc_chart.specs.Charts.{is_local}
use Rattle.msc_chart.specs.Drawings.{label_of}
use Rattle.msc_chart.specs.Rounds.{events_below, locals_below}
use Rattle.msc_chart.proofs.RoundParts.{grown, labels_more, labels_same, label_some, label_none}
use Rattle.msc_chart.proofs.rounds.Rounds.actions.Goals as goal
use Rattle.msc_chart.proofs.rounds.Rounds.actions.Goals.{in-Some+in_ok-copied_label+in_ok-push, in_default}

pub loop-k-init : goal.loop-k-init
unfolding locals_below events_below
loop-k-init c = cc

pub loop-k-preserved : goal.loop-k-preserved
loop-k-preserved c =
    let d = c.args.self.now.chart.now in
    let k = c.loop-k.k in
    let e = c.place-e.result.0 in
    elim c.match-label.branch [
      | in-Some+in_ok-copied_label+in_ok-push w ↦
          let here = label_some (is_local d.events e) (option_copied c.label.result) w.in-Some.label.now (label_of d e) c.label.ensures (ap option_copied w.in-Some.is) in
          ap (λ v. v.items) w.actions-is
          ∙ grown _ _ _ _ _ (label_of d e) w.in_ok-push.ensures.items c.loop-k.invariant (w.in_ok-copied_label.ensures ∙ here.1)
          (labels_more d k e c.place-e.ensures.known c.place-e.ensures.event here.0)
      | in_default w ↦
          let other = label_none (is_local d.events e) (option_copied c.label.result) (label_of d e) c.label.ensures (ap option_copied w.in_default.is) in
          ap (λ v. v.items) w.actions-is ∙ c.loop-k.invariant ∙ sym (labels_same d k e c.place-e.ensures.known c.place-e.ensures.event other)
    ]

pub returns : goal.returns
returns c =
    let all : c.loop-k.k ≡ 2 * length c.args.self.now.chart.now.events = omega arith in
    c.from_vec.ensures ∙ c.loop-k.invariant ∙ ap (λ (n : ℕ). map (label_of c.args.self.now.chart.now) (locals_below 2 c.args.self.now.chart.now.events n)) all
