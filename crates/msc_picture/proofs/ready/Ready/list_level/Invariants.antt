use Rattle.std.proofs.Common.{length}
use Rattle.msc_picture.specs.Courses.{frame_of}
use Rattle.msc_picture.specs.Ready.{HasRoom, IsLevelListed, Keeps}
use Rattle.msc_picture.proofs.ready.Ready.list_level.Given as goal

abbrev pub invariant-loop-q : goal.invariant-loop-q
invariant-loop-q l =
    record {
      room : HasRoom (length l.f.chart.now.events) l.self;
      kept : Keeps l.initial.self l.self;
      listed : IsLevelListed (frame_of l.f) l.f.course.items l.d.past.items l.self l.p l.q;
    }
