use Rattle.std.proofs.Common.{◌≡◌, ℕ, ◌<◌, false}
use Rattle.msc_answer.specs.Naming.{can_lead}
use Rattle.msc_answer.proofs.naming.lead_named.Given as goal

-- none of the events so far is the one that the name means
abbrev pub invariant-loop-e : goal.invariant-loop-e
invariant-loop-e l = (x : ℕ) → x < l.e → can_lead l.positions l.chart l.name x ≡ false
