use Rattle.std.proofs.Common.{◌≡◌, ℕ, ◌+◌, ◌*◌, ◌<◌}
use Rattle.msc_chart.specs.Architectures.{link_kind}
use Rattle.msc_links.specs.Tables.{tabled_kind}
use Rattle.msc_links.proofs.queues.tabled_links.Given as goal

-- the links so far have their kinds
abbrev pub invariant-loop-link : goal.invariant-loop-link
invariant-loop-link l = record {
  usual : l.links.usual ≡ l.usual;
  kinds : (s r : ℕ) → s < 32 → r < 32 → s * 32 + r < l.link → link_kind l.links s r ≡ tabled_kind l.usual l.text l.given s r;
}
