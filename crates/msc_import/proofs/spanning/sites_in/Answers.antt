use Rattle.std.proofs.Common.{◌++◌, ◌∷◌, [], take, map, sym, ap, ◌∙◌}
use Rattle.std.specs.List.{flat_map}
use Rattle.std.proofs.lemmas.List.{flat_map_more, take_more}
use Rattle.std.proofs.lemmas.Simd.{map-map}
use Rattle.msc_import.specs.Places.{site_of, sites_in}
use Rattle.msc_import.specs.Plans.{seen}
use Rattle.msc_import.proofs.spanning.sites_in.Goals as goal

pub loop-plan-preserved : goal.loop-plan-preserved
loop-plan-preserved c =
    let l = c.loop-plan in
    let plans = c.args.plans.now in
    let i = l.plan-index in
    let plan = c.plan-item.result in
    let events_are = sym (map-map site_of seen c.events.result.now) ∙ ap (map site_of) c.events.ensures in
    c.in_ok-put_spans.ensures
    ∙ ap (λ x. l.spans.items ++ x) events_are
    ∙ ap (λ x. x ++ sites_in plan) l.invariant
    ∙ flat_map_more sites_in [] (take i plans) plan
    ∙ ap (λ x. flat_map sites_in (take i plans ++ x ∷ [])) c.plan-item.is
    ∙ ap (flat_map sites_in) (sym (take_more plans i plan c.loop-plan-test.true))
