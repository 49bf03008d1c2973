use Rattle.msc_mermaid.proofs.BeginLemmas.{all_begin}
use Rattle.msc_mermaid.proofs.laws.comments_begin_with_their_mark.Goals as goal

pub returns : goal.returns
returns c = λ cross text d e. (all_begin cross text d e).1
