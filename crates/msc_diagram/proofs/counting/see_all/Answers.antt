use Rattle.std.proofs.Common.{length, sym, ap, ap₂, ◌∙◌, subst, arith}
use Rattle.std.proofs.lemmas.List.{append-nil}
use Rattle.msc_race.proofs.Listing.Raced.{no_races_below, races_below, races_below_all, races_below_more}
use Rattle.msc_race.specs.Views.{races_from, AreRacesOf}
use Rattle.msc_diagram.proofs.Below.{races_known}
use Rattle.msc_diagram.proofs.Fresh.{above_behind}
use Rattle.msc_diagram.specs.Places.{above_with}
use Rattle.msc_diagram.proofs.counting.see_all.Goals as goal

pub loop-e-init : goal.loop-e-init
loop-e-init c = record {
  reached = c.new-walk.ensures c.args.enforced.now.chart.events;
  reported = λ s are. sym (ap (above_with s c.args.reported.now) (no_races_below c.args.enforced.now) ∙ append-nil c.args.reported.now);
}

pub see-requires : goal.see-requires
see-requires c =
    let e = c.args.enforced.now in
    let list = c.as_slice.ensures.value ∙ c.in_ok-next_races.ensures.list in
    races_known e c.as_slice.result.now (length c.args.places.now) (subst (AreRacesOf e) (sym list) c.in_ok-next_races.ensures.races) (sym c.requires)

pub loop-e-preserved : goal.loop-e-preserved
loop-e-preserved c =
    let e = c.args.enforced.now in
    let k = c.loop-e.e in
    let list = c.as_slice.ensures.value ∙ c.in_ok-next_races.ensures.list in
    record {
      reached = c.in_ok-next_races.ensures.reached;
      reported = λ s are. c.in_ok-see.ensures.reported s are ∙ ap₂ (above_with s) (c.loop-e.invariant.reported s are) list
          ∙ sym (above_behind s c.args.reported.now (races_below e k) (races_from e k)) ∙ ap (above_with s c.args.reported.now) (sym (races_below_more e k));
    }

pub returns : goal.returns
returns c s are =
    let end = c.loop-e.auto.e-end in
    let past = c.loop-e-test.false in
    c.loop-e.invariant.reported s are ∙ ap (above_with s c.args.reported.now) (races_below_all c.args.enforced.now c.loop-e.e (omega (arith, end, past, c.events-e-end.ensures)))
