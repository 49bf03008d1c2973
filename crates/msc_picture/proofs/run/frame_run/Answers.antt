use Rattle.std.proofs.Common.{List, ℕ, ◌<◌, [], length, map, ap, refl, ◌∙◌, arith}
use Rattle.std.specs.List.{range_with_len}
use Rattle.std.proofs.lemmas.List.Elements.{All-get_or}
use Rattle.std.proofs.lemmas.List.FromFn.{length-map-range_with_len}
use Rattle.msc_chart.specs.Wirings.{wired_by}
use Rattle.msc_picture.specs.RunFrames.{place_of, run_frame}
use Rattle.msc_picture.proofs.Laying.{course_as, run_course}
use Rattle.msc_picture.proofs.RunWitness.{run_known}
use Rattle.msc_picture.proofs.run.frame_run.Goals as goal

pub places_of-requires : goal.places_of-requires
places_of-requires c k d inside =
    let known = All-get_or (λ e. e < length c.args.w.now.chart.now.events) c.args.run.now k d inside
    (run_known (wired_by c.args.w.now) [] c.args.run.now c.requires.run) in
    omega (arith, known, c.events.ensures.number)

pub returns-clause-laid : goal.returns-clause-laid
returns-clause-laid c =
    let run = c.args.run.now in
    let long = ap (λ (l : List ℕ). length l) c.in_ok-places_of.ensures
    ∙ length-map-range_with_len (place_of run) 0 c.events.result in
    record {
      long = omega (arith, long, c.in_ok-places_of.field-0.ok.0, c.events.ensures.number);
      course = course_as _ (run_frame (wired_by c.args.w.now) run) _ run refl
          (c.in_ok-places_of.ensures
          ∙ ap (λ (n : ℕ). map (place_of run) (range_with_len 0 n)) c.events.ensures.number)
          c.in_ok-queued_of.ensures c.in_ok-from_slice.ensures.items
          (run_course (wired_by c.args.w.now) run c.requires.run c.requires.whole);
    }
