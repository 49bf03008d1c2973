use Rattle.std.proofs.Common.{◌∙◌}
use Rattle.msc_scanning.specs.Scans.{is_input}
use Rattle.msc_scanning.proofs.Scanned.{any_words}
use Rattle.msc_scanning.proofs.paths.has_input.Goals as goal

pub returns : goal.returns
returns c = c.any_input.ensures ∙ any_words is_input c.args.paths.now
