-- What the marks of the logged events and of the done ones tell of a part of the least run.
use Rattle.std.proofs.Common.{◌≡◌, ℕ, ◌<◌, Bool, true, false, List, length, sym, ◌∙◌, arith}
use Rattle.msc_chart.specs.Orders.{WiredChart}
use Rattle.msc_gather.specs.Schedule.{HasAll, SomeMissing}
use Rattle.msc_gather.specs.Marks.{is_marked, AreMarks}
use Rattle.msc_gather.specs.Merges.{IsMerging}

module _ {chart : WiredChart} {logs : List (List ℕ)} {past heads : List ℕ} {marks done : List Bool}
    (m : AreMarks chart logs marks) (merging : IsMerging chart logs past heads done) where
  -- where each marked event is done, the part has all that is logged
  pub has_all : ((e : ℕ) → e < length marks → is_marked marks e ≡ true → is_marked done e ≡ true)
      → HasAll chart logs past
  has_all all = λ e below logged.
      sym (merging.told e below) ∙ all e (omega (arith, below, m.long)) (m.told e below ∙ logged)

  -- and where one is not, a logged event is missing
  pub some_missing : (e : ℕ) × (e < length marks) × (is_marked marks e ≡ true)
      × (is_marked done e ≡ false)
      → SomeMissing chart logs past
  some_missing found =
      let below : found.0 < length chart.events = omega (arith, found.1, m.long) in (
        found.0,
        below,
        sym (m.told found.0 below) ∙ found.2,
        sym (merging.told found.0 below)
            ∙ found.3,
      )
