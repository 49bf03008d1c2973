use Rattle.msc_instance.proofs.Sound.{due_fits, acted, local_due}
use Rattle.msc_instance.proofs.active.Active.act.Goals as goal

pub note-requires-clause-room : goal.note-requires-clause-room
note-requires-clause-room c =
    due_fits c.args.chart.now c.args.post.now c.args.self.now c.requires.sound c.requires.within
    (local_due c.args.chart.now c.args.self.now.next c.requires.local) c.requires.ready

pub returns-clause-sound : goal.returns-clause-sound
returns-clause-sound c =
    acted c.args.chart.now c.args.post.now c.args.self.now c.requires.sound c.requires.within
    (local_due c.args.chart.now c.args.self.now.next c.requires.local) c.requires.ready c.requires.local
    c.note.new.self c.note.ensures.noted c.note.ensures.room
