use Rattle.std.proofs.Common.{◌≡◌, ◌-◌}
use Rattle.msc_instance.specs.Active.{IsSound, HasSent, logged_by}
use Rattle.msc_instance.specs.Gates.{AreLet}
use Rattle.msc_instance.proofs.active.Active.do_ready.Given as goal

abbrev pub invariant-events : goal.invariant-events
invariant-events g l = record {
  sound : IsSound l.chart l.post l.self;
  sent : HasSent l.fn.self l.self;
  asked : AreLet (g.G.Gate.lets l.gate) l.post.instance (logged_by l.fn.self)
      → AreLet (g.G.Gate.lets l.gate) l.post.instance (logged_by l.self);
  shut : l.self.shut ≡ l.fn.self.shut;
}

abbrev pub decreases-events : goal.decreases-events
decreases-events g l = l.post.end - l.self.next
