use Rattle.std.proofs.Common.{◌≡◌, ℕ, ◌*◌, Bool, true, false, length, refl, arith, ap, sym, ◌∙◌, map, cond}
use Rattle.std.specs.List.{range_with_len}
use Rattle.msc_chart.specs.declared.event.ChartEvent.{ChartEvent}
use Rattle.msc_chart.specs.Charts.{acts, kind}
use Rattle.msc_chart.specs.Rounds.{count_below, events_below, event_of, repeated_event, repeated_events}
use Rattle.msc_chart.proofs.RoundParts.{count_few, count_more, range_grown, repeated_kind}
use Rattle.msc_chart.proofs.rounds.Rounds.events.Goals as goal
use Rattle.msc_chart.proofs.rounds.Rounds.events.Goals.{then-is_local, else-is_local}

pub loop-k-init : goal.loop-k-init
unfolding count_below events_below
loop-k-init c = record { made = cc; counted = refl }

pub overflow_add-locals : goal.overflow_add-locals
overflow_add-locals c =
    let few = count_few 2 c.args.self.now.chart.now.events c.loop-k.k in
    let most = c.events-k-end.ensures.accepted.few_events in
    omega (arith, few, most)

pub loop-k-preserved : goal.loop-k-preserved
loop-k-preserved c =
    let events = c.args.self.now.chart.now.events in
    let k = c.loop-k.k in
    let m = length c.args.self.now.chart.now.messages in
    let acting : acts c.event-event.result.kind ≡ acts (kind events (event_of 2 events k)) =
    ap (λ (x : ChartEvent). acts x.kind) c.event-event.ensures ∙ ap acts (repeated_kind 2 m events k) in
    let next = count_more 2 events k in
    let counted = c.loop-k.invariant.counted in
    let step = λ (b : Bool) (is : c.is_local.result ≡ b).
    ap (λ (t : Bool). cond {A = ℕ} t 1 0) (sym acting ∙ sym c.is_local.ensures ∙ is) in
    record {
      made = range_grown (repeated_event 2 m events) k _ _ _ c.in_ok-push.ensures.items c.loop-k.invariant.made c.event-event.ensures;
      counted = elim c.if-is_local.branch [
        | then-is_local w ↦ omega (arith, next, counted, w.locals-is, step true w.if-is_local.true)
        | else-is_local w ↦ omega (arith, next, counted, w.locals-is, step false w.if-is_local.false)
      ];
    }

pub returns : goal.returns
unfolding repeated_events
returns c =
    let events = c.args.self.now.chart.now.events in
    let m = length c.args.self.now.chart.now.messages in
    let all : c.loop-k.k ≡ 2 * length events = omega arith in
    c.loop-k.invariant.made ∙ ap (λ (n : ℕ). map (repeated_event 2 m events) (range_with_len 0 n)) all
