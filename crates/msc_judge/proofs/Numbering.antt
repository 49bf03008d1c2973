-- How many races are listed.
use Rattle.std.proofs.Common.{◌≡◌, ℕ, Bool, true, false, length, refl, ap}
use Rattle.std.proofs.lemmas.List.Elements.{filter_agree}
use Rattle.msc_race.specs.Views.{races_of}
use Rattle.msc_race.specs.Wired.{EnforcedChart}
use Rattle.msc_reason.specs.Counting.{counting, counts, is_alone, is_listed, listed}
use Rattle.msc_reason.specs.declared.cause.Cause.{Cause}
use Rattle.msc_reason.specs.declared.left_out.LeftOut.{LeftOut}
use Rattle.msc_judge.specs.Findings.{heading_of}
use Rattle.msc_judge.specs.Telling.{number_in}
use Rattle.msc_reason.proofs.Sums.{no_more}

-- it is told by what is said of all
pub number_listed : (e : EnforcedChart) (closest : Bool) (left : LeftOut) (causes : ℕ → ℕ → Cause)
    → number_in (heading_of e closest left causes) ≡ length (listed e left closest causes)
number_listed e true left causes = refl
number_listed e false left causes =
    ap length (filter_agree (counts left causes) (is_listed e left false causes)
    (λ p. no_more (counts left causes p) (is_alone e.chart.events (counting e left causes) p)) (races_of e))
