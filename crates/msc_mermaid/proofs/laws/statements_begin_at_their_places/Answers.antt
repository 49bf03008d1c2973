use Rattle.msc_mermaid.proofs.BeginLemmas.{all_begin}
use Rattle.msc_mermaid.proofs.laws.statements_begin_at_their_places.Goals as goal

pub returns : goal.returns
returns c = λ cross text d e. (all_begin cross text d e).0
