use Rattle.msc_command.proofs.asking.check_options_of.Goals as goal

pub returns : goal.returns
returns c = record {
  closest = c.is_given.ensures;
  why = c.is_given-2.ensures;
  allowed = c.allowed_of.ensures;
  most = c.number_of.ensures;
  show = c.number_of-2.ensures;
  short = c.is_given-3.ensures;
}
