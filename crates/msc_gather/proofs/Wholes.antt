-- What accepted charts are, and the traces of whole logs.
use Rattle.std.proofs.Common.{◌≡◌, ℕ, ◌<◌, true, eqb, List, [], length, get_or, ap, ◌∙◌}
use Rattle.msc_chart.specs.declared.queue.Queues.{Queues}
use Rattle.msc_chart.specs.Lists.{occurs}
use Rattle.msc_chart.specs.Charts.{line}
use Rattle.msc_chart.specs.Drawings.{Drawing, IsAccepted}
use Rattle.msc_chart.specs.Orders.{wired}
use Rattle.msc_chart.specs.Runs.{IsWhole, on_line, HasLines}
use Rattle.msc_chart.specs.Laws.{EndsShareQueues, InputsShareLines}
use Rattle.msc_gather.specs.Schedule.{IsSeated}
use Rattle.msc_gather.proofs.Filters.{filter-within}

-- an accepted chart is seated
pub seated : EndsShareQueues → InputsShareLines → (queues : Queues) (d : Drawing) → IsAccepted d
    → IsSeated (wired queues d) (length d.instances)
seated ends inputs queues d accepted = record {
  is_wired = ends queues d accepted;
  on_lines = accepted.on_lines.on_line;
  one_receiver = λ r u ri ui same. inputs queues d r u accepted ri ui same;
}

-- what a whole log has is on its line of the list, so in the list
pub whole : (queues : Queues) (d : Drawing) → IsAccepted d
    → (logs : List (List ℕ)) (events : List ℕ)
    → HasLines (wired queues d) (length d.instances) logs events
    → ((e : ℕ) → e < length d.events → occurs (get_or logs (line d.events e) []) e ≡ true)
    → IsWhole (wired queues d) events
unfolding on_line
whole queues d accepted logs events lines all e below =
    let i : ℕ = line d.events e in
    let its_line = lines.each i (accepted.on_lines.on_line e below) in
    filter-within (λ x. eqb (line d.events x) i) events e
    (ap (λ l. occurs l e) its_line ∙ all e below)
