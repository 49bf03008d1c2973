-- The clock along a list of events.
use Rattle.std.proofs.Common.{◌≡◌, ℕ, true, List, [], ◌∷◌, refl, ap, ◌∙◌}
use Rattle.msc_chart.specs.Lists.{occurs}
use Rattle.msc_chart.specs.Drawings.{Drawing}
use Rattle.msc_chart.specs.Orders.{WiredChart}
use Rattle.msc_chart.proofs.ListLemmas.{occurs-head, occurs-tail}
use Rattle.msc_execution.specs.Logs.{clock_next, along_from}
use Rattle.msc_execution.specs.Clocks.{Places, clock_step, clock_from}

-- where each event of a list moves the clock as the places do, the clock along it is that of the
-- places
pub along_places : (chart : WiredChart) (d : Drawing) (places : Places) (read_at : ℕ → ℕ)
    (clock : ℕ) (log : List ℕ)
    → ((e : ℕ) → occurs log e ≡ true → (c : ℕ)
    → clock_next d read_at c e ≡ clock_step chart places c e)
    → along_from d read_at clock log ≡ clock_from chart places clock log
unfolding along_from clock_from
along_places chart d places read_at clock [] same = refl
along_places chart d places read_at clock (e ∷ es) same =
    ap (λ (n : ℕ). along_from d read_at n es) (same e (occurs-head e es) clock)
    ∙ along_places chart d places read_at (clock_step chart places clock e) es
    (λ x there. same x (occurs-tail e es x there))
