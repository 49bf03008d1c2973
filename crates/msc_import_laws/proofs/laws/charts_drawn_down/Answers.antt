use Rattle.msc_import_laws.proofs.Descent.{enforced_down, visual_down, whole_run}
use Rattle.msc_import_laws.proofs.Sorted.{downward}
use Rattle.msc_import_laws.proofs.laws.charts_drawn_down.Goals as goal

pub returns : goal.returns
returns c = record {
  visual = λ heights events e f at h. visual_down heights events at e f h;
  enforced = λ heights chart e f at h. enforced_down heights chart at e f h;
  run = λ heights chart order wired share at d. whole_run heights chart wired share at order d;
  order = λ heights events at. downward heights events at;
}
