use Rattle.std.proofs.Common.{refl}
use Rattle.clap.specs.Words.{found_of}
use Rattle.msc_command.proofs.Taken.{named_by}
use Rattle.msc_command.proofs.FaultNotes.{obeyed}
use Rattle.msc_command.proofs.program.obey_matches.Goals as goal

pub returns-in-Some-clause-told : goal.returns-in-Some-clause-told
returns-in-Some-clause-told g c = obeyed g.O.Write.contents g.I.Read.remaining _ _ c.obey.result _ _ _ _ c.obey.ensures

pub returns-in-Some-clause-obeyed : goal.returns-in-Some-clause-obeyed
returns-in-Some-clause-obeyed g c =
    rw (named_by _ c.in-Some.ensures.name c.in-Some.ensures.rows)
    (found_of c.in-Some.words.now, refl, c.obey.ensures)
