use Rattle.std.proofs.Common.{◌≡◌, refl}
use Rattle.msc_scan.proofs.WalkLemmas.{one_added}
use Rattle.msc_scan.proofs.walk.put.Goals as goal

pub returns : goal.returns
returns c = one_added (λ it. it ≡ c.args.is) (record { name = c.args.name; found = c.args.is }) c.args.found.now.items _ refl c.in_ok-push.ensures.items
