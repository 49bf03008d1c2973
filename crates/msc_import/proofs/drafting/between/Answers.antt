use Rattle.msc_import.proofs.DraftLemmas.{between_in}
use Rattle.msc_import.proofs.drafting.between.Goals as goal

pub returns-then-stop-events : goal.returns-then-stop-events
returns-then-stop-events c =
    between_in c.args.events.now c.args.start c.args.stop c.if-start-stop.true c.if-stop-events.true
