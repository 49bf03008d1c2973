use Rattle.std.proofs.Common.{◌≡◌, take}
use Rattle.msc_links.specs.Said.{ruled_links}
use Rattle.msc_links.proofs.said.ruled_links.Given as goal

-- the links of the rules so far are listed
abbrev pub invariant-loop-rule : goal.invariant-loop-rule
invariant-loop-rule l = l.listed.items ≡ ruled_links l.names (take l.rule-index l.rules)
