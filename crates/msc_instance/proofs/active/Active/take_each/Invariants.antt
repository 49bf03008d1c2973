use Rattle.msc_instance.specs.Active.{logged_by}
use Rattle.msc_instance.specs.Gates.{AreLet}
use Rattle.msc_instance.proofs.Rounds.{IsTurn}
use Rattle.msc_instance.proofs.active.Active.take_each.Given as goal

abbrev pub invariant-loop-k : goal.invariant-loop-k
invariant-loop-k g l = record {
  turn : IsTurn l.chart l.post l.k l.found l.fn.self l.self;
  asked : AreLet (g.G.Gate.lets l.gate) l.post.instance (logged_by l.fn.self)
      → AreLet (g.G.Gate.lets l.gate) l.post.instance (logged_by l.self);
}
