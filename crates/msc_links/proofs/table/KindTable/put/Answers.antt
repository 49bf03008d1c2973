use Rattle.std.proofs.Common.{◌≡◌, ◌<◌, length, rules, arith}
use Rattle.msc_links.specs.Tables.{kind_at}
use Rattle.msc_links.proofs.SameLinks.{place_within, put_at}
use Rattle.msc_links.proofs.table.KindTable.put.Goals as goal

pub returns : goal.returns
unfolding kind_at
returns c other other_in =
    let size : length c.args.self.now.kinds ≡ 1056 = search rules in
    let inside : c.place_of.result < length c.args.self.now.kinds = omega (arith, size, c.place_of.ensures, place_within c.args.link c.requires) in
    put_at c.args.self.now.kinds c.args.link c.args.kind c.place_of.result other c.place_of.ensures inside c.requires other_in
