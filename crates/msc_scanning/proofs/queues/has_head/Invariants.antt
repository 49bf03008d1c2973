use Rattle.std.proofs.Common.{◌≡◌, drop}
use Rattle.std.specs.List.{list_any}
use Rattle.std.specs.Str.{bytes_eq}
use Rattle.msc_report.specs.Links.{queues_text}
use Rattle.msc_scanning.proofs.queues.has_head.Given as goal

-- none of the first ones has these lines
abbrev pub invariant-loop-queues : goal.invariant-loop-queues
invariant-loop-queues l =
    list_any (λ queues. bytes_eq (queues_text l.chart queues) l.head) (drop l.queues-index l.found)
    ≡ list_any (λ queues. bytes_eq (queues_text l.chart queues) l.head) l.found
