use Rattle.std.proofs.Common.{◌≡◌, ◌<◌, List, [], ◌∷◌, ◌++◌, ℕ, length, get_or, subst, arith}
use Rattle.std.proofs.lemmas.List.{get_or_read}
use Rattle.bit_rows.specs.Tables.{cell}
use Rattle.rings.specs.Walking.{IsNearest, HasNoNearest}
use Rattle.rings.proofs.Walks.{walk_on, no_ring, least_ring}
use Rattle.rings.proofs.walking.ring.Goals as goal

pub returns-then-next-start-clause-found : goal.returns-then-next-start-clause-found
returns-then-next-start-clause-found c =
    let n = c.args.n in let leads = cell n c.args.steps.now in let l = c.ring in
    let away = c.in_ok-away.away.items in
    let found = subst (λ (a : List ℕ). IsNearest leads n a l.last l.bound c.in-Some.next) c.deref.ensures.value c.in-Some.ensures.found in
    let back = subst (λ (x : ℕ). IsNearest leads n away l.last l.bound x) c.if-next-start.true found in
    least_ring leads n c.args.start l.bound l.last away l.ring.items l.invariant.away l.invariant.walk back

pub ring-preserved : goal.ring-preserved
ring-preserved c =
    let n = c.args.n in let leads = cell n c.args.steps.now in let l = c.ring in
    let away = c.in_ok-away.away.items in let next = c.in-Some.next in
    let found = subst (λ (a : List ℕ). IsNearest leads n a l.last l.bound next) c.deref.ensures.value c.in-Some.ensures.found in
    let inside : next < length away = omega (arith, found.inside, l.invariant.each) in
    let read : c.index-bound.result.now ≡ get_or away next 0 = get_or_read away next c.index-bound.result.now inside c.index-bound.ensures 0 in
    let walk = walk_on leads n c.args.start l.bound l.last next away l.ring.items l.invariant.walk found c.if-next-start.false in
    let pushed : c.push-in-Some.new.self.items ≡ l.ring.items ++ next ∷ [] = c.in_ok-push-2.ensures.items in
    record {
      walk = rw (read, pushed) walk;
      away = l.invariant.away;
      inside = found.inside;
      each = l.invariant.each;
    }

pub returns-clause-none : goal.returns-clause-none
returns-clause-none c =
    let n = c.args.n in let leads = cell n c.args.steps.now in let l = c.ring in
    let away = c.in_ok-away.away.items in
    let none = subst (λ (a : List ℕ). HasNoNearest leads n a l.last l.bound) c.deref.ensures.value c.in_default.ensures.none in
    no_ring leads n c.args.start l.bound l.last away l.ring.items l.invariant.away l.invariant.walk none
