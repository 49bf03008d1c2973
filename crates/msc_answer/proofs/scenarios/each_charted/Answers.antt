use Rattle.std.proofs.Common.{◌++◌, ◌∷◌, [], map, sym, ap, ◌∙◌}
use Rattle.std.proofs.lemmas.List.{append_assoc, map-append}
use Rattle.msc_answer.specs.Charting.{with_chart}
use Rattle.msc_answer.proofs.scenarios.each_charted.Goals as goal

pub loop-drawn-preserved : goal.loop-drawn-preserved
loop-drawn-preserved c =
    let l = c.loop-drawn in let drawn = c.in-Some.drawn in let file = c.args.file.now in let is = c.in_ok-charted.ensures in
    record {
      whole = l.invariant.whole ∙ (ap (λ xs. l.yielded ++ xs) c.in-Some.ensures.steps.0 ∙ sym (append_assoc l.yielded (drawn ∷ []) _));
      made = c.in_ok-print_charted.ensures ∙ (ap (λ xs. xs ++ c.in_ok-charted.field-0 ∷ []) l.invariant.made
          ∙ (ap (λ x. map (with_chart file) l.yielded ++ x ∷ []) is.1 ∙ sym (map-append (with_chart file) l.yielded (drawn ∷ []))));
    }
