use Rattle.std.proofs.Common.{◌≡◌, ◌++◌, ◌∷◌, [], map, sym, ap, ◌∙◌}
use Rattle.std.proofs.lemmas.List.{map-append}
use Rattle.msc_scenarios.proofs.StepLemmas.{parted_none, parted_on, parted_at, parted_all, span}
use Rattle.msc_scenarios.proofs.steps.branches_of.Goals as goal
use Rattle.msc_scenarios.proofs.steps.branches_of.Goals.{then-joins_at+in_ok-push, else-joins_at}

pub loop-i-init : goal.loop-i-init
loop-i-init c = rw c.new-branches.ensures.items (parted_none c.args.inside.now)

pub loop-i-preserved : goal.loop-i-preserved
loop-i-preserved c =
    let l = c.loop-i in let ps = c.args.inside.now in let branches = map (λ x. x.now) l.branches.items in
    let p = c.index-inside-i.result in let e = c.deeper-depth.result in
    let deep = c.deeper-depth.ensures.value in let most = c.deeper-depth.ensures.most in
    elim c.if-joins_at.branch [
      | then-joins_at+in_ok-push w ↦
          let more : map (λ x. x.now) w.push.new.self.items ≡ branches ++ span ps l.start l.i ∷ [] = ap (map (λ x. x.now)) w.in_ok-push.ensures.items ∙ map-append (λ x. x.now) l.branches.items _ in
          rw (w.branches-is, w.start-is) (rw more (parted_at ps branches l.start l.depth l.i l.invariant p c.loop-i-test.true e deep most (sym w.if-joins_at.ensures)))
      | else-joins_at w ↦
          rw (w.branches-is, w.start-is) (parted_on ps branches l.start l.depth l.i l.invariant p c.loop-i-test.true e deep most (sym w.if-joins_at.ensures))
    ]

pub returns : goal.returns
returns c =
    let l = c.loop-i in let branches = map (λ x. x.now) l.branches.items in
    ap (map (λ x. x.now)) c.in_ok-push-2.ensures.items ∙ map-append (λ x. x.now) l.branches.items _ ∙ parted_all c.args.inside.now branches l.start l.depth l.i l.invariant c.loop-i-test.false l.auto.i-end
