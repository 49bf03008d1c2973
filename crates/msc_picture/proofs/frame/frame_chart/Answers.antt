use Rattle.std.proofs.Common.{List, ℕ, length, ap, refl, ◌∙◌, arith}
use Rattle.std.specs.List.{range_with_len}
use Rattle.std.proofs.lemmas.List.FromFn.{length-map-range_with_len}
use Rattle.msc_chart.specs.Charts.{segment}
use Rattle.msc_picture.specs.Frames.{chart_frame}
use Rattle.msc_picture.proofs.Laying.{chart_course, course_as}
use Rattle.msc_picture.proofs.frame.frame_chart.Goals as goal

pub returns-clause-laid : goal.returns-clause-laid
returns-clause-laid c =
    let events = c.args.chart.now.events in
    let long = ap (λ (l : List ℕ). length l) c.in_ok-segments_of.ensures
    ∙ length-map-range_with_len (segment events) 0 (length events) in
    record {
      long = omega (arith, long, c.in_ok-segments_of.field-0.ok.0);
      course = course_as _ (chart_frame events) _ _ refl c.in_ok-segments_of.ensures
          c.new.ensures.items
          (c.in_ok-numbers_to.ensures
          ∙ ap (λ (k : ℕ). range_with_len 0 k) c.events-many.ensures.number)
          (chart_course events c.facts.ensures.in_text_order);
    }
