use Rattle.std.proofs.Common.{◌≡◌, Some, sym}
use Rattle.clap.specs.Matches.{first_value, found_of}
use Rattle.msc_command.proofs.Names.{mistaken_so, named_so}
use Rattle.msc_command.specs.Words.{arg_word}
use Rattle.msc_command.proofs.asking.event_of.Goals as goal

pub returns-in-Some-clause-named : goal.returns-in-Some-clause-named
returns-in-Some-clause-named c =
    let found = found_of c.args.words.now in
    let word : first_value found (arg_word c.args.word) ≡ Some c.in-Some.text.now = rw (← c.name.ensures) (sym c.in-Some.ensures) in
    named_so found (arg_word c.args.word) c.in-Some.text.now c.event_named.result word c.event_named.ensures.named

pub returns-in-Some-clause-misuse : goal.returns-in-Some-clause-misuse
returns-in-Some-clause-misuse c =
    let found = found_of c.args.words.now in
    let word : first_value found (arg_word c.args.word) ≡ Some c.in-Some.text.now = rw (← c.name.ensures) (sym c.in-Some.ensures) in
    mistaken_so found c.args.word c.in-Some.text c.event_named.result word c.event_named.ensures.misuse
