use Rattle.std.proofs.Common.{ℕ, ◌≡◌, get_or, subst, ap, ◌∙◌, arith}
use Rattle.msc_chart.specs.Charts.{line}
use Rattle.msc_picture.specs.Courses.{frame_of, ranks_of}
use Rattle.msc_picture.specs.Ready.{IsFromListed}
use Rattle.msc_picture.proofs.NextListed.{all_listed}
use Rattle.msc_picture.proofs.ReadyLemmas.{keeps_both, keeps_but, listed_kept}
use Rattle.msc_picture.proofs.ready.Ready.go_on.Goals as goal

pub first-requires : goal.first-requires
first-requires c =
    let on = c.requires.held.behind.on_line c.args.e c.requires.known in
    omega (arith, on, c.instance_of.ensures, c.requires.held.behind.firsts_long)

pub returns-clause-listed : goal.returns-clause-listed
returns-clause-listed c =
    let held = c.requires.held in
    let on = held.behind.on_line c.args.e c.requires.known in
    let at : c.first.result
    ≡ get_or c.args.d.now.firsts.items (line c.args.f.now.chart.now.events c.args.e) 0 =
    c.first.ensures
    ∙ ap (λ (w : ℕ). get_or c.args.d.now.firsts.items w 0) c.instance_of.ensures in
    all_listed (ranks_of c.args.f.now) c.facts.ensures.matched c.requires.last.is c.requires.laid.course
    (held.behind.behind _ on) (held.reached _ on) held.drawn.steps c.requires.last.listed
    (keeps_but c.take_out.ensures.kept
    (keeps_both c.list_other.ensures.kept c.list_from.ensures.kept))
    (listed_kept c.list_from.ensures.kept _ c.list_other.ensures.listed)
    (subst (λ (w : ℕ). IsFromListed (frame_of c.args.f.now) c.args.f.now.course.items
    c.args.d.now.past.items c.list_from.new.self c.args.e w) at c.list_from.ensures.listed)
