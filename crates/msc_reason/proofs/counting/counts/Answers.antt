use Rattle.std.proofs.Common.{sym, ◌∙◌}
use Rattle.msc_reason.proofs.Counted.{all_count}
use Rattle.msc_reason.specs.Marked.{cause_in}
use Rattle.msc_reason.proofs.counting.counts.Goals as goal

pub returns-then-is_empty : goal.returns-then-is_empty
returns-then-is_empty c = sym (all_count c.args.allowed (cause_in c.args.enforced.now) c.args.race (sym c.is_empty.ensures ∙ c.if-is_empty.true))
