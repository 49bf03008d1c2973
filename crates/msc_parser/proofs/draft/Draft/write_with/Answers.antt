use Rattle.std.proofs.Common.{option_map}
use Rattle.msc_parser.proofs.PrintedChart.{again}
use Rattle.msc_parser.proofs.draft.Draft.write_with.Goals as goal

pub returns-clause-again : goal.returns-clause-again
returns-clause-again c =
    again c.prints_pieces.ensures (option_map (λ c. c.now) c.args.comment) c.args.self.now c.canonical_text.result c.known.ensures c.canonical_text.ensures
