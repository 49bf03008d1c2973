use Rattle.std.proofs.Common.{ℕ, ◌≡◌, ◌+◌, ◌-◌, ◌∷◌, [], List, length, ap, subst, arith}
use Rattle.std.proofs.lemmas.List.{length-append}
use Rattle.msc_picture.specs.Extents.{IsBeginOf}
use Rattle.msc_picture.proofs.ExtentLemmas.{begins_more}
use Rattle.msc_picture.proofs.extent.begins_of.Goals as goal

pub loop-e-preserved : goal.loop-e-preserved
loop-e-preserved c =
    let events = c.args.chart.now.events in
    let e = c.loop-e.e in
    let b = c.begin_at-begun.result in
    let old = c.loop-e.begins.items in
    let inv = c.loop-e.invariant in
    let more = c.in_ok-push.ensures.items in
    let same : e ≡ (e + 1) - 1 = omega arith in
    record {
      long = omega (arith, ap (λ (l : List ℕ). length l) more, length-append old (b ∷ []), inv.long);
      each = begins_more events old _ e b inv.long inv.each c.begin_at-begun.ensures more;
      last = λ some. subst (λ (j : ℕ). IsBeginOf events b j) same c.begin_at-begun.ensures;
    }
