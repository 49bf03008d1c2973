use Rattle.std.proofs.Common.{◌≡◌, All, length, sym, ap, ◌∙◌, subst, arith}
use Rattle.msc_race.specs.Views.{races_from}
use Rattle.msc_race.proofs.Listing.Raced.{races_below_all}
use Rattle.msc_mark.specs.Kept.{accepts_some, AreEvents}
use Rattle.msc_mark.proofs.Noting.{races_known}
use Rattle.msc_mark.proofs.Pairing.{put_event, put_exactly, put_none}
use Rattle.msc_mark.proofs.accepted.Accepted.pairs.Goals as goal

pub loop-e-init : goal.loop-e-init
loop-e-init c = record {
  reached = c.new-walk.ensures c.args.enforced.now.chart.events;
  size = c.in_ok-pairs.ensures.events ∙ c.events-events.ensures.number ∙ ap (λ v. length v.chart.events) c.self.view_is;
  put = put_none c.args.self.now c.args.enforced.now _ c.in_ok-pairs.ensures.none;
}

pub put_races-requires-clause-known : goal.put_races-requires-clause-known
put_races-requires-clause-known c =
    let a = c.args.self.now in let e = c.args.enforced.now in
    let list = c.as_slice.ensures.value ∙ c.in_ok-next_races.ensures.list in
    subst (All (AreEvents a)) (sym list) (races_known a e (races_from e c.loop-e.e) c.requires c.in_ok-next_races.ensures.races)

pub loop-e-preserved : goal.loop-e-preserved
loop-e-preserved c =
    let list = c.as_slice.ensures.value ∙ c.in_ok-next_races.ensures.list in
    record {
      reached = c.in_ok-next_races.ensures.reached;
      size = c.put_races.ensures.size ∙ c.loop-e.invariant.size;
      put = put_event c.args.self.now c.args.enforced.now c.loop-e.e c.loop-e.pairs c.put_races.new.pairs c.as_slice.result.now list c.loop-e.invariant.put c.put_races.ensures.put;
    }

pub returns : goal.returns
returns c = λ p there.
    let last : c.loop-e.e ≡ c.events-events.result = let end = c.loop-e.auto.e-end in let past = c.loop-e-test.false in omega (arith, end, past) in
    let all = last ∙ c.events-events.ensures.number ∙ ap (λ v. length v.chart.events) c.self.view_is ∙ sym (ap (λ d. length d.events) c.requires) in
    c.loop-e.invariant.put p.0 p.1 ∙ ap (λ l. accepts_some c.args.self.now l p.0 p.1) (races_below_all c.args.enforced.now c.loop-e.e all)
    ∙ put_exactly c.args.self.now _ p there
