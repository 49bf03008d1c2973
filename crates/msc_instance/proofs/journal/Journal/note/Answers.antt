use Rattle.std.proofs.Common.{rules, ◌≡◌, length, sym}
use Rattle.msc_chart.specs.declared.TheConstants.{EVENT_LIMIT}
use Rattle.msc_instance.proofs.Occurs.{marks_more}
use Rattle.msc_instance.proofs.journal.Journal.note.Goals as goal

pub invariant_of-self : goal.invariant_of-self
invariant_of-self c =
    let long : length c.args.self.now.marks ≡ EVENT_LIMIT = search rules in
    record {
      marked = λ e below. marks_more c.args.self.now.marks c.args.self.now.log.items c.args.e e long
          below c.args.self.now.marked (sym c.push_reserved.ensures.items);
    }
