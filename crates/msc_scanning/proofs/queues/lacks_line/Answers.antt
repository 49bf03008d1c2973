use Rattle.std.proofs.Common.{◌∙◌, List, ℕ, ap}
use Rattle.msc_links.specs.Links.{link_of}
use Rattle.msc_scanning.specs.Queued.{lacks_line}
use Rattle.msc_scanning.proofs.Rules.{lacking}
use Rattle.msc_scanning.proofs.queues.lacks_line.Goals as goal

pub returns : goal.returns
returns c =
    c.is_lacking.ensures ∙ (lacking c.args.names.now _ c.queues_of.result c.queues_of.ensures.outcome
    ∙ ap (λ (link : List ℕ). lacks_line (link_of c.args.names.now link)) c.as_bytes.ensures.value)
