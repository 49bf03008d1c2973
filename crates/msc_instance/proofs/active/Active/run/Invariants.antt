use Rattle.std.proofs.Common.{◌≡◌, ◌+◌, ◌-◌, ◌*◌, ◌≤◌, All}
use Rattle.msc_execution.specs.Roles.{NumberedInlet}
use Rattle.msc_execution.specs.Running.{AreEager}
use Rattle.msc_instance.specs.Active.{IsSound, logged_by, weight}
use Rattle.msc_instance.specs.Gates.{AreLet}
use Rattle.msc_instance.proofs.Patience.{IsNotLate}
use Rattle.msc_instance.proofs.active.Active.run.Given as goal

abbrev pub invariant-rounds : goal.invariant-rounds
invariant-rounds g l = record {
  sound : IsSound l.chart l.post l.self;
  idle : All (λ (n : NumberedInlet). l.empty ≤ n.1.idle) l.self.inlets.items;
  patient : l.empty ≤ l.patience;
  in_time : AreEager l.fn.self.inlets.items → IsNotLate l.empty l.self.inlets.items;
  asked : AreLet (g.G.Gate.lets l.gate) l.post.instance (logged_by l.fn.self)
      → AreLet (g.G.Gate.lets l.gate) l.post.instance (logged_by l.self);
  untaken : l.patience ≡ 0 → l.self.inlets.items ≡ l.fn.self.inlets.items;
}

abbrev pub decreases-rounds : goal.decreases-rounds
decreases-rounds g l = weight l.chart l.post l.self * (l.patience + 1) + (l.patience - l.empty)
