use Rattle.std.proofs.Common.{Ok, sym, ◌∙◌}
use Rattle.msc_import.specs.Whole.{wanted_all}
use Rattle.msc_import.proofs.AllLemmas.{all_so}
use Rattle.msc_import.proofs.whole.all_of.Goals as goal

pub returns : goal.returns
returns c =
    let name = sym c.in_ok-name.ensures in let list = sym c.of-list.ensures in let drawn = sym c.in_ok-drawn.ensures in
    all_so (wanted_all c.args.importing) c.args.diagram.now c.args.tried.lists.items c.requires.0 ∙ (λ j. Ok (record { name = name j; list = list j; drawn = drawn j }))
