use Rattle.std.proofs.Common.{◌≡◌, ◌≢◌, vec_len, ℕ, Bool, true, false, eqb, List, [], length, sym, ap, ◌∙◌}
use Rattle.std.proofs.lemmas.Bool.{eq-eqb, eqb-true}
use Rattle.std.proofs.lemmas.List.{nil_from_length}
use Rattle.msc_chart.specs.Orders.{wired}
use Rattle.msc_race.proofs.Listing.DrawnPairs.{list_of_races, no_races}
use Rattle.msc_race.proofs.Shared.{clash}
use Rattle.msc_race.proofs.verdict.check.Goals as goal

-- a list that is empty by its length
none_in : (pairs : List (ℕ × ℕ)) (n : ℕ) (empty : Bool) → n ≡ length pairs → empty ≡ eqb n 0 → empty ≡ true → pairs ≡ []
none_in pairs n empty size told is = nil_from_length pairs (sym size ∙ eqb-true n 0 (sym told ∙ is))

-- and one that is not
some_in : (pairs : List (ℕ × ℕ)) (n : ℕ) (empty : Bool) → n ≡ length pairs → empty ≡ eqb n 0 → empty ≡ false → pairs ≢ []
some_in pairs n empty size told is none = clash (told ∙ eq-eqb n 0 (size ∙ ap (λ (l : List (ℕ × ℕ)). length l) none)) is

pub returns-then-is_empty-clause-verdict : goal.returns-then-is_empty-clause-verdict
returns-then-is_empty-clause-verdict c =
    let list = c.in_ok-list.list in
    let kept = c.facts.ensures in
    let exact = rw (c.in_ok-enforced.ensures.chart, c.in_ok-enforced.ensures.queues, ← c.order.ensures) at kept.order.enforced in
    let races = list_of_races (wired c.args.queues c.args.chart.now) _ exact list.items c.in_ok-list.ensures in
    no_races (wired c.args.queues c.args.chart.now) list.items races
    (none_in list.items (vec_len list) _ list.ok.0 c.is_empty.ensures c.if-is_empty.true)

pub returns-then-is_empty-clause-runs : goal.returns-then-is_empty-clause-runs
returns-then-is_empty-clause-runs c =
    let list = c.in_ok-list.list in
    let kept = c.facts.ensures in
    let exact = rw (c.in_ok-enforced.ensures.chart, c.in_ok-enforced.ensures.queues, ← c.order.ensures) at kept.order.enforced in
    let races = list_of_races (wired c.args.queues c.args.chart.now) _ exact list.items c.in_ok-list.ensures in
    let accepted = rw c.in_ok-enforced.ensures.chart at kept.chart in
    (c.races_are_what_runs_reverse.ensures.none c.args.queues c.args.chart.now accepted).0
    (no_races (wired c.args.queues c.args.chart.now) list.items races
    (none_in list.items (vec_len list) _ list.ok.0 c.is_empty.ensures c.if-is_empty.true))

pub returns-clause-verdict : goal.returns-clause-verdict
returns-clause-verdict c =
    let list = c.in_ok-list.list in
    let kept = c.facts.ensures in
    let exact = rw (c.in_ok-enforced.ensures.chart, c.in_ok-enforced.ensures.queues, ← c.order.ensures) at kept.order.enforced in
    let races = list_of_races (wired c.args.queues c.args.chart.now) _ exact list.items c.in_ok-list.ensures in
    rw c.from_vec.ensures (races, some_in list.items (vec_len list) _ list.ok.0 c.is_empty.ensures c.if-is_empty.false)

pub returns-clause-runs : goal.returns-clause-runs
returns-clause-runs c =
    let list = c.in_ok-list.list in
    let kept = c.facts.ensures in
    let exact = rw (c.in_ok-enforced.ensures.chart, c.in_ok-enforced.ensures.queues, ← c.order.ensures) at kept.order.enforced in
    let races = list_of_races (wired c.args.queues c.args.chart.now) _ exact list.items c.in_ok-list.ensures in
    let accepted = rw c.in_ok-enforced.ensures.chart at kept.chart in
    let runs = c.races_are_what_runs_reverse.ensures.race c.args.queues c.args.chart.now accepted in
    rw c.from_vec.ensures (record {
      reversed = λ e f. (λ reversed. (races.races e f).0 ((runs e f).1 reversed), λ there. (runs e f).0 ((races.races e f).1 there));
      some = some_in list.items (vec_len list) _ list.ok.0 c.is_empty.ensures c.if-is_empty.false;
    })
