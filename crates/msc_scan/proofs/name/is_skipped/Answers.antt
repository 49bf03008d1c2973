use Rattle.std.proofs.Common.{◌∙◌}
use Rattle.msc_scan.specs.Names.{is_called}
use Rattle.msc_scan.proofs.NameLemmas.{any_seen}
use Rattle.msc_scan.proofs.name.is_skipped.Goals as goal

pub returns : goal.returns
returns c = c.any_called.ensures ∙ any_seen (is_called c.args.name.now c.args.whole.now) (λ skip. skip.now) c.args.skips.now
