use Rattle.std.proofs.Common.{ℕ, List, length, sym, ap, ap₂, ◌∙◌, subst, arith}
use Rattle.std.specs.List.{filter}
use Rattle.std.proofs.lemmas.List.{append-nil}
use Rattle.msc_race.specs.Views.{races_from, AreRacesOf}
use Rattle.msc_reason.proofs.Sums.{kept_all, kept_below, kept_more, kept_none}
use Rattle.msc_reason.specs.Counting.{counts}
use Rattle.msc_reason.specs.Marked.{cause_in}
use Rattle.msc_diagram.proofs.Below.{kept_are, races_known}
use Rattle.msc_diagram.proofs.Fresh.{above_behind}
use Rattle.msc_diagram.specs.Places.{above_with}
use Rattle.msc_diagram.proofs.counting.see_counting.Goals as goal

pub loop-e-init : goal.loop-e-init
loop-e-init c =
    let e = c.args.enforced.now in
    record {
      reached = c.new-walk.ensures e.chart.events;
      reported = λ s are. sym (ap (above_with s c.args.reported.now) (kept_none e (counts c.args.left (cause_in e))) ∙ append-nil c.args.reported.now);
    }

pub keep_counting-requires : goal.keep_counting-requires
keep_counting-requires c =
    subst (AreRacesOf c.args.enforced.now) (sym (c.as_slice.ensures.value ∙ c.in_ok-next_races.ensures.list)) c.in_ok-next_races.ensures.races

pub see-requires : goal.see-requires
see-requires c =
    let e = c.args.enforced.now in
    let races = subst (AreRacesOf e) (sym (c.as_slice.ensures.value ∙ c.in_ok-next_races.ensures.list)) c.in_ok-next_races.ensures.races in
    let list = c.as_slice-in-loop-e.ensures.value ∙ c.in_ok-keep_counting.ensures in
    races_known e c.as_slice-in-loop-e.result.now (length c.args.places.now)
    (subst (AreRacesOf e) (sym list) (kept_are e (counts c.args.left (cause_in e)) c.as_slice.result.now races)) (sym c.requires)

pub loop-e-preserved : goal.loop-e-preserved
loop-e-preserved c =
    let e = c.args.enforced.now in
    let test = counts c.args.left (cause_in e) in
    let k = c.loop-e.e in
    let now : List (ℕ × ℕ) = filter test (races_from e k) in
    let list = c.as_slice-in-loop-e.ensures.value ∙ c.in_ok-keep_counting.ensures
    ∙ ap (filter test) (c.as_slice.ensures.value ∙ c.in_ok-next_races.ensures.list) in
    record {
      reached = c.in_ok-next_races.ensures.reached;
      reported = λ s are. c.in_ok-see.ensures.reported s are ∙ ap₂ (above_with s) (c.loop-e.invariant.reported s are) list
          ∙ sym (above_behind s c.args.reported.now (kept_below e test k) now) ∙ ap (above_with s c.args.reported.now) (sym (kept_more e test k));
    }

pub returns : goal.returns
returns c s are =
    let e = c.args.enforced.now in
    let test = counts c.args.left (cause_in e) in
    let end = c.loop-e.auto.e-end in
    let past = c.loop-e-test.false in
    c.loop-e.invariant.reported s are ∙ ap (above_with s c.args.reported.now) (kept_all e test c.loop-e.e (omega (arith, end, past, c.events-e-end.ensures)))
