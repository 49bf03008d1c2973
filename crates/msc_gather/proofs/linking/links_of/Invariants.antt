use Rattle.std.proofs.Common.{map}
use Rattle.msc_chart.specs.Wirings.{wired_by}
use Rattle.msc_gather.proofs.Tables.{AreLinksTo}
use Rattle.msc_gather.proofs.linking.links_of.Given as goal

abbrev pub invariant-loop-x : goal.invariant-loop-x
invariant-loop-x l = AreLinksTo (wired_by l.w) (map (λ v. v.items) l.logs) l.x l.links.items
