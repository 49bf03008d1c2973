use Rattle.std.proofs.Common.{◌≡◌, ◌<◌, ◌++◌, length, get_or, drop, map, take, slice_set, ap, ◌∙◌, subst}
use Rattle.msc_scenarios.specs.Choosing.{gone_on}
use Rattle.msc_scenarios.proofs.PathLemmas.{set_next}
use Rattle.msc_scenarios.proofs.path.extended.Goals as goal

pub loop-path-preserved : goal.loop-path-preserved
loop-path-preserved c =
    let l = c.loop-path in let xs = c.args.first.items in let f = gone_on c.args.next.now in let item = c.path-item.result in
    let at = map f (take l.path-index xs) ++ drop l.path-index xs in
    let inside : l.path-index < length xs = subst (λ ys. l.path-index < length ys) c.deref_mut-path-items.ensures.value c.loop-path-test.true in
    let new : c.go_on.new.self ≡ f (get_or at l.path-index item) = c.in_ok-go_on.ensures ∙ ap (λ ys. f (get_or ys l.path-index item)) l.invariant in
    ap (λ ys. slice_set ys l.path-index c.go_on.new.self) l.invariant ∙ ap (slice_set at l.path-index) new ∙ set_next f xs l.path-index item inside
