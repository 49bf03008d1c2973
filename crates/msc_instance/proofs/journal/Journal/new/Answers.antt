use Rattle.std.proofs.Common.{◌∙◌, sym, ap, false}
use Rattle.std.proofs.lemmas.List.{get_or-replicate}
use Rattle.msc_chart.specs.declared.TheConstants.{EVENT_LIMIT}
use Rattle.msc_chart.specs.Lists.{occurs}
use Rattle.msc_instance.proofs.Occurs.{occurs-nil}
use Rattle.msc_instance.proofs.journal.Journal.new.Goals as goal

pub invariant_of-result : goal.invariant_of-result
invariant_of-result c = record {
  marked = λ e below. get_or-replicate EVENT_LIMIT e false false below
      ∙ sym (ap (λ l. occurs l e) c.requires ∙ occurs-nil e);
}
