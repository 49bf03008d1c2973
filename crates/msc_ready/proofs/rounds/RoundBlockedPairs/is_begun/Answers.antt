use Rattle.msc_ready.proofs.Between.{known_two}
use Rattle.msc_ready.proofs.rounds.RoundBlockedPairs.is_begun.Goals as goal

pub place-round-requires : goal.place-round-requires
place-round-requires c = record { known = known_two c.args.self.now.numbers.now c.args.self.now.blocked_pairs.now.chart c.args.x c.args.self.now.two c.requires }
