use Rattle.std.proofs.Common.{ℕ, None, ap, get_or}
use Rattle.msc_links.specs.Tables.{kind_at}
use Rattle.msc_links.proofs.table.KindTable.kind.Goals as goal

pub returns : goal.returns
unfolding kind_at
returns c = ap (λ (place : ℕ). get_or c.args.self.now.kinds place None) c.place_of.ensures
