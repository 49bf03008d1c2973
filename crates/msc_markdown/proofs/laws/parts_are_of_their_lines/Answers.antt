use Rattle.msc_markdown.proofs.PartLemmas.{text_parts}
use Rattle.msc_markdown.proofs.laws.parts_are_of_their_lines.Goals as goal

pub returns : goal.returns
returns c = text_parts
