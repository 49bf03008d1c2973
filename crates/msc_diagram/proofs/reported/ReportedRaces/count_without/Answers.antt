use Rattle.std.proofs.Common.{◌≡◌, ◌+◌, ℕ, Bool, List, cond, not, length, ap, sym, ◌∙◌, arith, get_or, take}
use Rattle.std.specs.List.{list_any}
use Rattle.std.proofs.lemmas.List.Filters.{length-filter_more}
use Rattle.msc_diagram.specs.Places.{no_place, same_places}
use Rattle.msc_diagram.specs.Counts.{without}
use Rattle.msc_diagram.specs.declared.place.EventPlace.{EventPlace}
use Rattle.msc_diagram.proofs.reported.ReportedRaces.count_without.Goals as goal
use Rattle.msc_diagram.proofs.reported.ReportedRaces.count_without.Goals.{then-not-contains, else-not-contains}

pub overflow_add-count : goal.overflow_add-count
overflow_add-count c =
    let few = c.loop-places.invariant.few in
    let keys = ap length c.as_slice-places-items.ensures.keys in
    let within = c.loop-places-test.true in
    omega (arith, few, keys, within, c.self.invariant)

pub loop-places-preserved : goal.loop-places-preserved
loop-places-preserved c =
    let few = c.loop-places.invariant.few in
    let items = c.as_slice-places-items.result.now in
    let i = c.loop-places.places-index in
    let other = c.args.other.now in
    let p : EventPlace × EventPlace = get_or items i (no_place, no_place) in
    let found : list_any (same_places p) other ≡ c.contains.result =
    ap (λ (l : List (EventPlace × EventPlace)). list_any (same_places p) l) (sym c.other.view_is) ∙ sym c.contains.ensures in
    let more : length (without (take (i + 1) items) other) ≡ length (without (take i items) other) + cond (not (list_any (same_places p) other)) 1 0 =
    length-filter_more (λ (q : EventPlace × EventPlace). not (list_any (same_places q) other)) items i (no_place, no_place) c.loop-places-test.true in
    let so_far : c.loop-places.count ≡ length (without (take i items) other) = c.loop-places.invariant.count in
    record {
      few = elim c.if-not-contains.branch [ then-not-contains w ↦ omega (arith, few, w.count-is) | else-not-contains w ↦ omega (arith, few, w.count-is) ];
      count = elim c.if-not-contains.branch [
        | then-not-contains w ↦
            let one : cond (not (list_any (same_places p) other)) 1 0 ≡ 1 = ap {B = ℕ} (λ (b : Bool). cond (not b) 1 0) (found ∙ w.if-not-contains.true) in
            let is : c.if-not-contains.count ≡ c.loop-places.count + 1 = w.count-is in
            omega (arith, is, so_far, more, one)
        | else-not-contains w ↦
            let none : cond (not (list_any (same_places p) other)) 1 0 ≡ 0 = ap {B = ℕ} (λ (b : Bool). cond (not b) 1 0) (found ∙ w.if-not-contains.false) in
            let is : c.if-not-contains.count ≡ c.loop-places.count = w.count-is in
            omega (arith, is, so_far, more, none)
      ];
    }
