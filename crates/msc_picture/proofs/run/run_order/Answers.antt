use Rattle.std.proofs.Common.{ℕ, List, Option, subst}
use Rattle.msc_chart.specs.Wirings.{wired_by}
use Rattle.msc_picture.specs.Courses.{frame_of}
use Rattle.msc_picture.specs.Frames.{IsDrawingOrder}
use Rattle.msc_picture.specs.RunFrames.{run_frame}
use Rattle.msc_picture.proofs.RunWitness.{run_drawn}
use Rattle.msc_picture.proofs.run.run_order.Goals as goal

pub returns-clause-rules : goal.returns-clause-rules
returns-clause-rules c =
    subst (λ (ranks : Option (List ℕ)). IsDrawingOrder
    (run_frame (wired_by c.args.w.now) c.args.run.now) ranks c.in_ok-drawn.drawn.past.items)
    c.in_ok-f.ensures.ranks
    (run_drawn (wired_by c.args.w.now) (frame_of c.in_ok-f.f) _ c.args.run.now _
    c.facts.ensures.matched c.in_ok-f.ensures.frame c.requires.run c.requires.whole
    c.in_ok-drawn.ensures.held.steps c.in_ok-drawn.ensures.end)

pub returns-clause-run : goal.returns-clause-run
returns-clause-run c =
    (c.drawn_runs_are_runs.ensures c.args.w.now.queues c.args.w.now.chart.now _ c.args.run.now _
    c.facts.ensures c.requires.run c.requires.whole
    (run_drawn (wired_by c.args.w.now) (frame_of c.in_ok-f.f) _ c.args.run.now _
    c.facts.ensures.matched c.in_ok-f.ensures.frame c.requires.run c.requires.whole
    c.in_ok-drawn.ensures.held.steps c.in_ok-drawn.ensures.end)).0

pub returns-clause-lines : goal.returns-clause-lines
returns-clause-lines c =
    (c.drawn_runs_are_runs.ensures c.args.w.now.queues c.args.w.now.chart.now _ c.args.run.now _
    c.facts.ensures c.requires.run c.requires.whole
    (run_drawn (wired_by c.args.w.now) (frame_of c.in_ok-f.f) _ c.args.run.now _
    c.facts.ensures.matched c.in_ok-f.ensures.frame c.requires.run c.requires.whole
    c.in_ok-drawn.ensures.held.steps c.in_ok-drawn.ensures.end)).1
