use Rattle.std.proofs.Common.{ℕ, List, ◌++◌, length, sym, ap, ap₂, ◌∙◌, subst, arith}
use Rattle.std.specs.List.{filter}
use Rattle.std.proofs.lemmas.List.{append-nil}
use Rattle.msc_race.specs.Views.{races_from, AreRacesOf}
use Rattle.msc_race.specs.Wired.{IsEnforced}
use Rattle.msc_reason.proofs.Sums.{kept_all, kept_below, kept_more, kept_none}
use Rattle.msc_reason.specs.Counting.{is_listed}
use Rattle.msc_reason.specs.Marked.{cause_in}
use Rattle.msc_judge.proofs.Asked.{are_races}
use Rattle.msc_diagram.proofs.Below.{races_known}
use Rattle.msc_diagram.proofs.Fresh.{above_behind, fresh_behind}
use Rattle.msc_diagram.specs.Places.{above_with, fresh}
use Rattle.msc_diagram.proofs.counting.new_listed.Goals as goal

pub loop-e-init : goal.loop-e-init
loop-e-init c =
    let x = c.args.listing.now in
    record {
      reached = c.new-stream.ensures x.judged.chart.events;
      reported = λ s are. sym (ap (above_with s c.args.reported.now) (kept_none x.judged (is_listed x.judged x.allowed x.closest (cause_in x.judged))) ∙ append-nil c.args.reported.now);
      all = λ s are. c.new-all.ensures.items ∙ sym (ap (fresh s c.args.reported.now) (kept_none x.judged (is_listed x.judged x.allowed x.closest (cause_in x.judged))));
    }

pub see-requires : goal.see-requires
see-requires c =
    let x = c.args.listing.now in
    let is = subst IsEnforced c.enforced.ensures c.facts.ensures.order in
    let list = c.as_slice.ensures.value ∙ c.in_ok-next.ensures.list in
    races_known x.judged c.as_slice.result.now (length c.args.places.now)
    (subst (AreRacesOf x.judged) (sym list) (are_races x.judged is x.allowed x.closest c.loop-e.e)) (sym c.requires)

pub loop-e-preserved : goal.loop-e-preserved
loop-e-preserved c =
    let x = c.args.listing.now in
    let test = is_listed x.judged x.allowed x.closest (cause_in x.judged) in
    let k = c.loop-e.e in
    let now : List (ℕ × ℕ) = filter test (races_from x.judged k) in
    let list = c.as_slice.ensures.value ∙ c.in_ok-next.ensures.list in
    record {
      reached = c.in_ok-next.ensures.reached;
      reported = λ s are. c.in_ok-see.ensures.reported s are ∙ ap₂ (above_with s) (c.loop-e.invariant.reported s are) list
          ∙ sym (above_behind s c.args.reported.now (kept_below x.judged test k) now) ∙ ap (above_with s c.args.reported.now) (sym (kept_more x.judged test k));
      all = λ s are. c.in_ok-extend_from_slice.ensures.items
          ∙ ap₂ (λ (a b : List (ℕ × ℕ)). a ++ b) (c.loop-e.invariant.all s are)
          (c.as_slice-in-loop-e.ensures.value ∙ c.in_ok-see.ensures.list s are ∙ ap₂ (fresh s) (c.loop-e.invariant.reported s are) list)
          ∙ sym (fresh_behind s c.args.reported.now (kept_below x.judged test k) now) ∙ ap (fresh s c.args.reported.now) (sym (kept_more x.judged test k));
    }

pub returns-clause-list : goal.returns-clause-list
returns-clause-list c s are =
    let x = c.args.listing.now in
    let test = is_listed x.judged x.allowed x.closest (cause_in x.judged) in
    let end = c.loop-e.auto.e-end in
    let past = c.loop-e-test.false in
    c.loop-e.invariant.all s are ∙ ap (fresh s c.args.reported.now) (kept_all x.judged test c.loop-e.e (omega (arith, end, past, c.events-e-end.ensures)))

pub returns-clause-reported : goal.returns-clause-reported
returns-clause-reported c s are =
    let x = c.args.listing.now in
    let test = is_listed x.judged x.allowed x.closest (cause_in x.judged) in
    let end = c.loop-e.auto.e-end in
    let past = c.loop-e-test.false in
    c.loop-e.invariant.reported s are ∙ ap (above_with s c.args.reported.now) (kept_all x.judged test c.loop-e.e (omega (arith, end, past, c.events-e-end.ensures)))
