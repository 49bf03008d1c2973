use Rattle.std.proofs.Common.{[], subst, sym}
use Rattle.std.specs.List.{AllByRecursion}
use Rattle.msc_parser.specs.Drafts.{IsSectionNamed}
use Rattle.msc_import.proofs.NamedLemmas.{sections_named}
use Rattle.msc_import.proofs.drawing.drawn_plans.Goals as goal

pub drawn_as-requires : goal.drawn_as-requires
drawn_as-requires c =
    subst (AllByRecursion IsSectionNamed) (sym c.in_ok-sections.ensures) (sections_named _ _ c.args.statements.now 0 _ [] tt)
