use Rattle.std.proofs.Common.{◌∙◌, inr, sym}
use Rattle.std.proofs.lemmas.Result.{IfErr-weaker}
use Rattle.clap.specs.Matches.{found_of}
use Rattle.msc_command.specs.Misuses.{IsCheckMisuse, IsDiagramMisuse}
use Rattle.msc_command.proofs.asking.check_of.Goals as goal

pub returns-then-is_of_scenarios-clause-misuse : goal.returns-then-is_of_scenarios-clause-misuse
returns-then-is_of_scenarios-clause-misuse c = λ named.
    let found = found_of c.args.words.now in
    IfErr-weaker c.scenarios_of.result (IsDiagramMisuse found) (IsCheckMisuse found)
    (λ misuse is. inr (sym c.is_of_scenarios.ensures ∙ c.if-is_of_scenarios.true, is)) (c.scenarios_of.ensures.misuse named)
