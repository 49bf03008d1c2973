-- What the code that looks for the next event of a witness needs of lists, charts and runs.
use Rattle.std.proofs.Common.{◌≡◌, ℕ, ◌<◌, ◌↔◌, List, [], ◌∷◌, ◌++◌, length, refl}
use Rattle.msc_chart.specs.Orders.{WiredChart}
use Rattle.msc_chart.specs.Witness.{IsWitnessNext}
use Rattle.msc_chart.proofs.Left.{is_left, left_less}
use Rattle.msc_race.proofs.Shared.{count_below}
use Rattle.msc_race.proofs.Runs.WholeRuns.{everything}
use Rattle.msc_race.proofs.Runs.Witnesses.{may_of_next}

-- one equivalence after another
pub iff_trans : {A B C : Type 0} → A ↔ B → B ↔ C → A ↔ C
iff_trans f g = (λ a. g.0 (f.0 a), λ c. f.1 (g.1 c))

module _ (chart : WiredChart) (e : ℕ) (past : List ℕ) where
  module _ (next : List ℕ) (x : ℕ) (witness : IsWitnessNext chart e past x) (same : next ≡ past ++ x ∷ []) where
    -- a chosen event leaves fewer events
    pub witness_less : count_below (is_left everything next) (length chart.events)
        < count_below (is_left everything past) (length chart.events)
    witness_less =
        let may = may_of_next chart e past x witness in
        rw same (left_less everything past (length chart.events) x may.event refl may.new)
