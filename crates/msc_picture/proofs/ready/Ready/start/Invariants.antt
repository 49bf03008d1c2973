use Rattle.std.proofs.Common.{ℕ, ◌<◌, length}
use Rattle.msc_picture.specs.Courses.{frame_of}
use Rattle.msc_picture.specs.Ready.{HasRoom, IsListed}
use Rattle.msc_picture.proofs.ready.Ready.start.Given as goal

abbrev pub invariant-loop-e : goal.invariant-loop-e
invariant-loop-e l =
    record {
      room : HasRoom (length l.f.chart.now.events) l.ready;
      listed : (x : ℕ) → x < l.e → IsListed (frame_of l.f) l.d.past.items l.ready x;
    }
