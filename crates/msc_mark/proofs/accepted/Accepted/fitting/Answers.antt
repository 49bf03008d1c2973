use Rattle.std.proofs.Common.{◌≡◌, All, false, length, replicate, rules, sym, ap, ◌∙◌, subst, arith}
use Rattle.msc_race.specs.Views.{races_from}
use Rattle.msc_race.proofs.Listing.Raced.{races_below_all}
use Rattle.msc_mark.specs.Accepting.{fits_some}
use Rattle.msc_mark.specs.Kept.{AreEvents}
use Rattle.msc_mark.proofs.Noting.{fits_more, noted_none, races_known, size_none}
use Rattle.msc_mark.proofs.accepted.Accepted.fitting.Goals as goal

pub loop-e-init : goal.loop-e-init
loop-e-init c =
    let blank : c.in_ok-fitting.fitting.items ≡ replicate c.events-events.result false = search rules in
    record {
      reached = c.new-walk.ensures c.args.enforced.now.chart.events;
      size = size_none c.events-events.result c.in_ok-fitting.fitting.items blank ∙ c.events-events.ensures.number ∙ ap (λ v. length v.chart.events) c.self.view_is;
      noted = noted_none c.args.self.now c.args.enforced.now c.events-events.result c.in_ok-fitting.fitting.items blank;
    }

pub note_races-requires-clause-known : goal.note_races-requires-clause-known
note_races-requires-clause-known c =
    let a = c.args.self.now in let e = c.args.enforced.now in
    let list = c.as_slice.ensures.value ∙ c.in_ok-next_races.ensures.list in
    subst (All (AreEvents a)) (sym list) (races_known a e (races_from e c.loop-e.e) c.requires.chart c.in_ok-next_races.ensures.races)

pub loop-e-preserved : goal.loop-e-preserved
loop-e-preserved c =
    let list = c.as_slice.ensures.value ∙ c.in_ok-next_races.ensures.list in
    record {
      reached = c.in_ok-next_races.ensures.reached;
      size = c.note_races.ensures.size ∙ c.loop-e.invariant.size;
      noted = fits_more c.args.self.now c.args.enforced.now c.loop-e.e c.loop-e.fitting.items c.note_races.new.fitting.items c.as_slice.result.now list c.loop-e.invariant.noted c.note_races.ensures.noted;
    }

pub returns-clause-noted : goal.returns-clause-noted
returns-clause-noted c = λ x.
    let last : c.loop-e.e ≡ c.events-events.result = let end = c.loop-e.auto.e-end in let past = c.loop-e-test.false in omega (arith, end, past) in
    let all = last ∙ c.events-events.ensures.number ∙ ap (λ v. length v.chart.events) c.self.view_is ∙ sym (ap (λ d. length d.events) c.requires.chart) in
    c.loop-e.invariant.noted x ∙ ap (λ l. fits_some c.args.self.now l x) (races_below_all c.args.enforced.now c.loop-e.e all)
