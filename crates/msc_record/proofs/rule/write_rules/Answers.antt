use Rattle.msc_record.specs.Rules.{rules_json}
use Rattle.msc_record.proofs.rule.write_rules.Goals as goal

pub returns : goal.returns
unfolding rules_json
returns c = c.write_list.ensures
