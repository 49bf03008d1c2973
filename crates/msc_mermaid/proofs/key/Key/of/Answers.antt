use Rattle.msc_mermaid.specs.Keys.{key_of}
use Rattle.msc_mermaid.proofs.key.Key.of.Goals as goal

pub returns : goal.returns
unfolding key_of
returns c = c.among.ensures
