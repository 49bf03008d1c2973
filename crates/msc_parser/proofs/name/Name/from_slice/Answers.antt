use Rattle.msc_parser.proofs.name.Name.from_slice.Goals as goal

pub returns : goal.returns
returns c = c.in_ok-from_slice.ensures.ok
