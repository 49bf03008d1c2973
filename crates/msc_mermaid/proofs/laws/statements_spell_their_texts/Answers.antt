use Rattle.msc_mermaid.proofs.SpellLemmas.{arrow_spells, declared_spells}
use Rattle.msc_mermaid.proofs.laws.statements_spell_their_texts.Goals as goal

pub returns : goal.returns
returns c = record {
  arrows = λ cross dying here bytes a t e. arrow_spells cross dying here a t bytes e;
  lines = λ here bytes s t e. declared_spells here bytes s t e;
}
