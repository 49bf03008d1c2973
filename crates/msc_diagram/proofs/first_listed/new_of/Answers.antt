use Rattle.std.proofs.Common.{◌≡◌, List, ℕ, sym, subst}
use Rattle.msc_reason.specs.Counting.{listed}
use Rattle.msc_reason.specs.Marked.{cause_in}
use Rattle.msc_reason.specs.Selected.{Selected}
use Rattle.msc_diagram.proofs.Leaving.{left_known}
use Rattle.msc_diagram.proofs.NewLists.{new_seen}
use Rattle.msc_diagram.specs.Places.{above_with, fresh, AreAllPlaces}
use Rattle.msc_diagram.proofs.first_listed.new_of.Goals as goal

pub returns : goal.returns
returns c =
    let e = c.in_ok-enforced.enforced in
    let s = c.args.scenario.now in
    let k = c.args.check in
    let above = c.args.reported.now in
    let left = c.left_out-left.result in
    let new : List (ℕ × ℕ) = c.in_ok-new.new.items in
    let places = subst (AreAllPlaces s) (sym c.as_slice.ensures.value) c.in_ok-places.ensures in
    new_seen k s left above c.new_listed.new.reported new e c.in_ok-enforced.ensures.chart c.in_ok-enforced.ensures.queues
    c.the_witness_reverses.ensures.exists c.short_witnesses_show.ensures.exists (record {
      is = c.facts.ensures.order;
      accepted = c.facts.ensures.chart;
      left_is = left_known k s e c.in_ok-marked.marked c.as_ref.result left c.in_ok-marked.ensures c.as_ref.ensures.value c.left_out-left.ensures;
      new_is = subst (λ (x : Selected). new ≡ fresh s above (listed x.judged x.allowed x.closest (cause_in x.judged))) c.in_ok-listing.ensures
          (c.in_ok-new.ensures.list s places);
      with_them_is = subst (λ (x : Selected). c.new_listed.new.reported ≡ above_with s above (listed x.judged x.allowed x.closest (cause_in x.judged))) c.in_ok-listing.ensures
          (c.in_ok-new.ensures.reported s places);
    })
