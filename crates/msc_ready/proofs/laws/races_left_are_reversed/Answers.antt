use Rattle.msc_chart.specs.Orders.{wired}
use Rattle.msc_ready.proofs.Runs.Keeping.{HaveOneLine}
use Rattle.msc_ready.proofs.Runs.Reversing.{race_reversed, only_races}
use Rattle.msc_ready.proofs.laws.races_left_are_reversed.Goals as goal

pub returns : goal.returns
returns c = λ queues d accepted ready none e f.
    let is_wired = c.ends_share_queues.ensures queues d accepted in
    let lines : HaveOneLine (wired queues d) = λ r u ir iu. c.inputs_share_lines.ensures queues d r u accepted ir iu in (
      λ race. (race.0, race_reversed (wired queues d) is_wired lines accepted.acyclic ready none e f race),
      λ both. only_races (wired queues d) is_wired lines accepted.acyclic ready none e f both.0 both.1,
    )
