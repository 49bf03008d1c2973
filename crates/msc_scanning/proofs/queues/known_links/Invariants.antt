use Rattle.std.proofs.Common.{◌≡◌, ◌++◌, drop}
use Rattle.std.specs.List.{filter}
use Rattle.msc_scanning.specs.Queued.{knows}
use Rattle.msc_scanning.specs.Words.{words_in}
use Rattle.msc_scanning.proofs.queues.known_links.Given as goal

-- before those that are left that are known stand the others
abbrev pub invariant-loop-link : goal.invariant-loop-link
invariant-loop-link l =
    words_in l.known.items ++ filter (knows l.names) (words_in (drop l.link-index l.links)) ≡ filter (knows l.names) (words_in l.links)
