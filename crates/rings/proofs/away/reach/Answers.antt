use Rattle.std.proofs.Common.{◌≡◌, ◌≢◌, ◌<◌, ℕ, ◌≤◌, sym, ap, subst, ◌∙◌, arith}
use Rattle.std.proofs.lemmas.Bool.{false≢true}
use Rattle.bit_rows.specs.Tables.{cell}
use Rattle.rings.specs.Searching.{never, IsSearchTo}
use Rattle.rings.proofs.SearchSteps.{search_reaches, search_leaves, search_goes_on}
use Rattle.rings.proofs.away.reach.Goals as goal
use Rattle.rings.proofs.away.reach.Goals.{then-away-x+then-has+in_ok-push, else-away-x, else-away-x-via-then-away-x+else-has, else-away-x-via-else-away-x}

-- what is no more than a bound and is not the bound is less
below : {a b : ℕ} → a ≤ b → a ≢ b → a < b
below le ne = omega arith

pub loop-x-preserved : goal.loop-x-preserved
loop-x-preserved c =
    let n = c.args.n in let leads = cell n c.args.steps.now in let l = c.loop-x in
    let few : n ≤ never = omega (arith, c.ranges.n.fits) in
    elim c.if-away-x.branch [
      | then-away-x+then-has+in_ok-push w ↦
          let pushed = ap (λ v. v.items) w.queue-is ∙ w.in_ok-push.ensures.items in
          let led = sym w.has.ensures ∙ w.if-has.true in
          rw (w.away-is, pushed) (search_reaches leads n c.args.start c.args.at l.away l.queue.items l.x _ _ few l.invariant c.loop-x-test.true w.if-away-x.true led)
      | else-away-x w ↦
          let small = l.invariant.to.search.nearing.small l.x c.loop-x-test.true in
          rw (w.away-is, w.queue-is) (search_leaves leads n c.args.start c.args.at l.away l.queue.items l.x _ _ l.invariant c.loop-x-test.true (λ led. elim w.else-away-x.branch [
            | else-away-x-via-then-away-x+else-has v ↦ absurd (false≢true (sym (sym v.has.ensures ∙ v.if-has.false) ∙ led))
            | else-away-x-via-else-away-x v ↦ below small v.if-away-x.false
          ]))
    ]

pub returns : goal.returns
returns c =
    let n = c.args.n in let leads = cell n c.args.steps.now in let l = c.loop-x in
    let last : l.x ≡ n = omega (arith, c.loop-x-test.false, l.auto.x-end) in
    search_goes_on leads n c.args.start c.args.at l.away l.queue.items
    (subst (λ i. IsSearchTo leads n c.args.start c.args.at i l.away l.queue.items) last l.invariant.to)
