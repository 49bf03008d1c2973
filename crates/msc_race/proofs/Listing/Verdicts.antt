-- What the enforced order leaves open of the drawn pairs makes a verdict.
use Rattle.std.proofs.Common.{◌≡◌, ◌≢◌, ℕ, List, [], ◌∷◌, refl}
use Rattle.msc_chart.specs.declared.queue.Queues.{Queues}
use Rattle.msc_chart.specs.Drawings.{Drawing, IsAccepted}
use Rattle.msc_chart.specs.Orders.{wired, IsEnforcedOrder}
use Rattle.msc_order.specs.Tables.{Table, orders}
use Rattle.msc_race.proofs.Listing.DrawnPairs.{list_of_races, no_races}
use Rattle.msc_race.specs.Laws.{RacesAreWhatRunsReverse, RunsKeepTheDrawnOrder}
use Rattle.msc_race.specs.Races.{all_races, verdict_of, IsVerdict, TellsRuns}

-- a list with a pair is not empty
some_pair : (p : ℕ × ℕ) (pairs : List (ℕ × ℕ)) → p ∷ pairs ≢ []
some_pair p pairs none = cc

-- the list of them is that of a verdict, which tells what runs reverse
pub verdict_told : (queues : Queues) (d : Drawing) → IsAccepted d → RacesAreWhatRunsReverse → RunsKeepTheDrawnOrder
    → (order : Table) → IsEnforcedOrder (wired queues d) (orders order) → (pairs : List (ℕ × ℕ)) → pairs ≡ all_races d.events order
    → IsVerdict (wired queues d) (verdict_of pairs) × TellsRuns (wired queues d) (verdict_of pairs)
verdict_told queues d accepted race none order exact [] is =
    let no = no_races (wired queues d) [] (list_of_races (wired queues d) order exact [] is) refl in
    (no, (none queues d accepted).0 no)
verdict_told queues d accepted race none order exact (p ∷ pairs) is =
    let races = list_of_races (wired queues d) order exact (p ∷ pairs) is in
    let runs = race queues d accepted in (
      (races, some_pair p pairs),
      record {
        reversed = λ e f. (λ reversed. (races.races e f).0 ((runs e f).1 reversed), λ there. (runs e f).0 ((races.races e f).1 there));
        some = some_pair p pairs;
      },
    )
