use Rattle.std.proofs.Common.{◌≡◌, ℕ, ◌+◌, List, sym, ap, ◌∙◌, subst}
use Rattle.msc_reason.specs.Counting.{counting, listed}
use Rattle.msc_reason.specs.Marked.{cause_in}
use Rattle.msc_reason.specs.Selected.{Selected}
use Rattle.msc_diagram.proofs.Clearing.{case_seen, success_holds}
use Rattle.msc_diagram.proofs.Leaving.{idle_known, left_known}
use Rattle.msc_diagram.proofs.Tallying.{times_once}
use Rattle.msc_diagram.specs.Places.{above_with, AreAllPlaces}
use Rattle.msc_diagram.specs.Tallies.{tally_at}
use Rattle.msc_diagram.specs.declared.place.EventPlace.{EventPlace}
use Rattle.msc_diagram.proofs.counting.see_case.Goals as goal

pub returns : goal.returns
returns c =
    let e = c.in_ok-enforced.enforced in
    let s = c.args.scenario.now in
    let q = c.args.check in
    let old = c.args.answer.now in
    let left = c.left_out-left.result in
    let selected = c.in_ok-see_selected.ensures s (subst (AreAllPlaces s) (sym c.as_slice.ensures.value) c.in_ok-places.ensures) in
    let one = c.in_ok-listing.listing in
    success_holds c.see_listed.result
    (λ few. case_seen q c.args.tallies s left old _ e c.in_ok-enforced.ensures.chart c.in_ok-enforced.ensures.queues
    c.the_witness_reverses.ensures.exists c.short_witnesses_show.ensures.exists (record {
      is = c.facts.ensures.order;
      accepted = c.facts.ensures.chart;
      left_is = left_known q s e c.in_ok-marked.marked c.as_ref.result left c.in_ok-marked.ensures c.as_ref.ensures.value c.left_out-left.ensures;
      all = selected.all;
      named = selected.named;
      counted = selected.counting_is;
      few = subst (λ (x : Selected). c.see_listed.new.reported ≡ above_with s old.listed (listed x.judged x.allowed x.closest (cause_in x.judged))) c.in_ok-listing.ensures
          (few ∙ ap (λ (above : List (EventPlace × EventPlace)). above_with s above (listed one.judged one.allowed one.closest (cause_in one.judged))) selected.listed);
      tally = λ on p. selected.tally on p ∙ ap (λ (n : ℕ). tally_at old.tally p + n) (times_once s p (counting e left (cause_in e)));
      idle = selected.idle ∙ c.keep_idle.ensures ∙ idle_known q s e c.in_ok-marked.marked c.as_ref-2.result old.idle.items c.in_ok-marked.ensures c.as_ref-2.ensures.value;
    }))
    (c.see_listed.ensures s (subst (AreAllPlaces s) (sym c.as_slice-2.ensures.value) c.in_ok-places.ensures))
