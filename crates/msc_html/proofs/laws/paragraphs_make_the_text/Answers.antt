use Rattle.msc_html.proofs.ParagraphLemmas.{paragraphs_make_the_text}
use Rattle.msc_html.proofs.laws.paragraphs_make_the_text.Goals as goal

pub returns : goal.returns
returns c = paragraphs_make_the_text
