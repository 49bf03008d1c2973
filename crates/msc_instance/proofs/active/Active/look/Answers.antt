use Rattle.msc_instance.proofs.Sound.{looked}
use Rattle.msc_instance.proofs.active.Active.look.Goals as goal

pub returns-clause-sound : goal.returns-clause-sound
returns-clause-sound c =
    let n = c.next_controlled-self.ensures in
    let f = c.first_missing-self.ensures in
    looked c.args.chart.now c.args.post.now c.args.self.now c.requires c.next_controlled-self.result
    c.first_missing-self.result
    n.from n.to n.passed f.from f.to f.there
