use Rattle.std.proofs.Common.{ℕ, ◌<◌, take}
use Rattle.msc_links.specs.Rules.{HasNoFaultAt}
use Rattle.msc_links.specs.Tables.{IsTableOf}
use Rattle.msc_links.proofs.rule.table_of.Given as goal

-- no rule so far has a fault, and the table is theirs
abbrev pub invariant-loop-place : goal.invariant-loop-place
invariant-loop-place l = record {
  faultless : (k : ℕ) → k < l.place → HasNoFaultAt l.names l.rules k;
  table : IsTableOf l.names (take l.place l.rules) l.table;
}
