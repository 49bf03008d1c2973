use Rattle.std.proofs.Common.{◌≡◌, ◌+◌, ◌++◌, ℕ, List, length, arith, refl, sym, ap, subst, ◌∙◌}
use Rattle.std.specs.List.{flat_map, range_with_len}
use Rattle.msc_draw.proofs.Listings.{listed_whole}
use Rattle.msc_picture.proofs.Ranges.{flat_next}
use Rattle.msc_draw.specs.Listed.{listed_at}
use Rattle.msc_judge.proofs.Asked.{are_races}
use Rattle.msc_race.specs.Views.{AreRacesOf}
use Rattle.msc_race.specs.Wired.{EnforcedChart, IsEnforced}
use Rattle.msc_html.proofs.OneMore.{nothing_told}
use Rattle.msc_html.specs.Progress.{HasTold}
use Rattle.msc_html.proofs.races.put_articles.Goals as goal

pub loop-e-init : goal.loop-e-init
loop-e-init c = record {
  reached = c.new-stream.ensures c.args.source.now.listing.now.judged.chart.events;
  held = nothing_told c.args.source.now c.args.page.now.items _ refl refl refl;
}

pub put_races-requires-clause-races : goal.put_races-requires-clause-races
put_races-requires-clause-races c =
    let s = c.args.source.now.listing.now in
    let is = subst (λ (e : EnforcedChart). IsEnforced e) c.enforced.ensures c.facts.ensures.order in
    let list = c.as_slice.ensures.value ∙ c.in_ok-next.ensures.list in
    subst (AreRacesOf s.judged) (sym list) (are_races s.judged is s.allowed s.closest c.loop-e.e)

pub loop-e-preserved : goal.loop-e-preserved
loop-e-preserved c =
    let s = c.args.source.now.listing.now in
    let e = c.loop-e.e in
    let so_far = flat_map (listed_at s) (range_with_len 0 e) in
    let list = c.as_slice.ensures.value ∙ c.in_ok-next.ensures.list in
    let next = c.in_ok-put_races.ensures c.args.page.now.items so_far c.loop-e.invariant.held in
    let all : so_far ++ c.as_slice.result.now ≡ flat_map (listed_at s) (range_with_len 0 (e + 1)) =
    flat_next (listed_at s) e so_far (so_far ++ c.as_slice.result.now) refl
    (ap (λ (l : List (ℕ × ℕ)). so_far ++ l) list) in
    record {
      reached = c.in_ok-next.ensures.reached;
      held = subst (λ (l : List (ℕ × ℕ)). HasTold c.args.source.now c.args.page.now.items
          c.put_races.new.page.items l c.put_races.new.progress) all next;
    }

pub returns : goal.returns
returns c =
    let s = c.args.source.now.listing.now in
    let e = c.loop-e.e in
    let end : e ≡ length s.judged.chart.events = omega (arith, c.loop-e.auto.e-end, c.loop-e-test.false, c.events-e-end.ensures) in
    let all = ap (λ (k : ℕ). flat_map (listed_at s) (range_with_len 0 k)) end
    ∙ listed_whole s.judged s.allowed s.closest in (
      c.loop-e.progress,
      subst (λ (l : List (ℕ × ℕ)). HasTold c.args.source.now c.args.page.now.items
          c.loop-e.page.items l c.loop-e.progress) all c.loop-e.invariant.held,
    )
