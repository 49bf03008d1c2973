use Rattle.std.proofs.Common.{◌≡◌, ℕ, List, [], length, ◌++◌, ap, ◌∙◌, subst}
use Rattle.std.specs.Io.KnownBytes.{Appends}
use Rattle.msc_report.specs.Counts.{tally_line}
use Rattle.msc_diagram.specs.Checks.{with_options}
use Rattle.msc_diagram.specs.Counts.{AreCountsOf}
use Rattle.msc_diagram.proofs.Told.{all_told}
use Rattle.msc_diagram.specs.Judging.{asked, tallied, AreTextsIn}
use Rattle.msc_diagram.specs.Stale.{stale_marks}
use Rattle.msc_diagram.specs.declared.check.ScenarioCheck.{ScenarioCheck}
use Rattle.msc_diagram.specs.declared.judging.DiagramFormat.TheVariants as formats
use Rattle.msc_diagram.specs.declared.judging.Judged.{Judged}
use Rattle.msc_diagram.specs.declared.numbers.PlaceCounts.{PlaceCounts}
use Rattle.msc_diagram.proofs.judging.write_count.Goals as goal

-- what is answered
abbrev judged : PlaceCounts → ℕ → Judged
judged counts stale = record { listed = counts.listed; accepted = counts.accepted; stale = stale }

pub returns : goal.returns
returns g c top =
    let q = c.args.check in
    let form = formats.Count c.args.file in
    let scenarios = g.S.Source.scenarios c.args.scenarios.now in
    let above = c.in_ok-counts.field-0 in
    let k = above.counts in
    let its = subst (λ (x : ScenarioCheck). AreCountsOf scenarios x k above.stale.items)
    (c.with_options-closest.ensures ∙ ap (with_options q) c.counted.ensures) c.in_ok-counts.ensures in
    let stale : c.len.result ≡ length (stale_marks (asked form q) its.0) = c.len.ensures ∙ above.stale.ok.0 ∙ ap length its.3 in (
      c.print_tally.new.page.bytes.items,
      record {
        cases = its.0;
        are = its.1;
        counted = λ p. 0;
        are_counted = tt;
        told = all_told (AreTextsIn form q.queues (length scenarios) (λ p. 0)) (λ i first new s texts. tt) (asked form q) 1 [] its.0;
        answered = λ j. judged (its.2 j) (stale j);
        text = c.in_ok-print_tally.ensures ∙ ap (λ (t : List ℕ). t ++ tally_line c.args.file.now (tallied q.queues k.races k.listed)) c.new-page.ensures
            ∙ ap (λ (n : PlaceCounts). tally_line c.args.file.now (tallied q.queues n.races n.listed)) its.2;
      },
      subst (Appends (g.W.Write.contents c.args.writer.now) (g.W.Write.contents c.write_all.new.self)) c.as_slice.ensures.value c.in_ok-write_all.ensures.bytes,
    )
