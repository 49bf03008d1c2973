use Rattle.std.proofs.Common.{None}
use Rattle.std.proofs.lemmas.List.{get_or-replicate}
use Rattle.msc_links.specs.Tables.{kind_at, place_of}
use Rattle.msc_links.proofs.SameLinks.{place_within}
use Rattle.msc_links.proofs.table.KindTable.empty.Goals as goal

pub returns : goal.returns
unfolding kind_at
returns c link within = get_or-replicate 1056 (place_of link) None None (place_within link within)
