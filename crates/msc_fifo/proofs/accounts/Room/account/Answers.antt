use Rattle.std.proofs.Common.{◌∙◌}
use Rattle.msc_fifo.proofs.accounts.Room.account.Goals as goal

pub returns-clause-put : goal.returns-clause-put
returns-clause-put c = c.from_vec.ensures

pub returns-clause-taken : goal.returns-clause-taken
returns-clause-taken c = c.from_vec-2.ensures ∙ c.pick-taken.ensures
