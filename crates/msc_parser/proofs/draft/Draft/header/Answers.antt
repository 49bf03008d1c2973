use Rattle.std.proofs.Common.{ap, ◌∙◌}
use Rattle.msc_parser.specs.Grammar.{Tree}
use Rattle.msc_parser.proofs.draft.Draft.header.Goals as goal

pub returns-clause-value : goal.returns-clause-value
returns-clause-value c = c.as_slice.ensures ∙ ap (λ (d : Tree). d.header) c.self.view_is
