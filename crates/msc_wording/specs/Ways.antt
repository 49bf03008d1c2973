-- How two messages arrive.
use Rattle.std.specs.Prelude.{ℕ, Bool, true, false, List, codes}
use Rattle.msc_chart.specs.declared.queue.LinkKind.{LinkKind}
use Rattle.msc_chart.specs.declared.queue.LinkKind.TheVariants.{Mailbox, Pair, Single}
use Rattle.msc_wording.specs.declared.way.Way.{Way}
use Rattle.msc_wording.specs.declared.way.Way.TheVariants.{ByThemselves, OneConnection, OneMailbox, TwoConnections, TwoQueues}

-- the way over a link of this kind, if the queues of both messages have one name: a queue of a single
-- message is another one in the next round
abbrev pub shared_way : LinkKind → Way
shared_way Pair = OneConnection
shared_way Mailbox = OneMailbox
shared_way Single = ByThemselves

-- the way over links of these kinds, if they share none
abbrev pub parted_way : LinkKind → LinkKind → Way
parted_way Pair Pair = TwoConnections
parted_way Single Single = ByThemselves
parted_way first second = TwoQueues

abbrev pub way_of : LinkKind → LinkKind → Bool → Way
way_of first second true = shared_way first
way_of first second false = parted_way first second

abbrev pub way_text : Way → List ℕ
way_text OneConnection = codes "they come over one connection"
way_text OneMailbox = codes "they come through one mailbox"
way_text TwoConnections = codes "they come over two connections"
way_text TwoQueues = codes "they come through two queues"
way_text ByThemselves = codes "each travels by itself"
