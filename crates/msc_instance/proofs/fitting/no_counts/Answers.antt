use Rattle.msc_chart.specs.declared.TheConstants.{QUEUE_LIMIT}
use Rattle.msc_instance.proofs.TableLemmas.{zero_everywhere}
use Rattle.msc_instance.proofs.fitting.no_counts.Goals as goal

pub returns : goal.returns
returns c = zero_everywhere QUEUE_LIMIT
