use Rattle.std.proofs.Common.{inr}
use Rattle.std.proofs.lemmas.Result.{IfErr-weaker}
use Rattle.clap.specs.Matches.{found_of}
use Rattle.msc_command.specs.Misuses.{IsCheckMisuse, IsWordMisuse}
use Rattle.msc_command.specs.declared.words.CommandName.TheVariants.{Check}
use Rattle.msc_command.proofs.asking.complete_task.Goals as goal

pub returns-in_ok-queues_of-in-Check-clause-misuse : goal.returns-in_ok-queues_of-in-Check-clause-misuse
returns-in_ok-queues_of-in-Check-clause-misuse c =
    let found = found_of c.args.words.now in
    rw c.in-Check.is (IfErr-weaker c.check_of.result (IsCheckMisuse found) (IsWordMisuse Check found) (λ misuse is. inr is)
    (c.check_of.ensures.misuse c.in_ok-queues_of-in-Check.ensures.named))
