use Rattle.std.proofs.Common.{◌≡◌, ◌<◌, length, map, sym, ◌∙◌, arith}
use Rattle.std.proofs.lemmas.List.{length-map}
use Rattle.std.proofs.lemmas.Option.{slice_get_within}
use Rattle.msc_chart.specs.Events.Act.{OfMessage}
use Rattle.msc_notes.specs.Events.{act_view, end_view}
use Rattle.msc_notes.proofs.Firsts.{act_at, no_end_more, end_first}
use Rattle.msc_notes.proofs.alike.first_end.Goals as goal

pub loop-f-preserved : goal.loop-f-preserved
loop-f-preserved c =
    let acts = map act_view c.args.events.now in let f = c.loop-f.f in let d = c.index-events-f.result in
    no_end_more acts (end_view c.args.end.now) f (act_view d) (act_at c.args.events.now f d c.loop-f-test.true c.index-events-f.is)
    (sym c.is_end.ensures ∙ c.if-is_end.false) c.loop-f.invariant

pub returns-then-is_end : goal.returns-then-is_end
returns-then-is_end c =
    let acts = map act_view c.args.events.now in let f = c.loop-f.f in let d = c.index-events-f.result in
    end_first acts (end_view c.args.end.now) f (act_view d) (act_at c.args.events.now f d c.loop-f-test.true c.index-events-f.is)
    (sym c.is_end.ensures ∙ c.if-is_end.true) c.loop-f.invariant

pub returns : goal.returns
returns c = λ i h.
    let acts = map act_view c.args.events.now in
    let long : length acts ≡ length c.args.events.now = simp length-map in
    let inside : i < length acts = slice_get_within acts i (OfMessage (end_view c.args.end.now)) h in
    c.loop-f.invariant i (omega (arith, long, inside)) h
