use Rattle.std.proofs.Common.{◌≡◌, ◌++◌, [], Some, None, inl, refl, subst}
use Rattle.msc_chart.specs.Drawings.{Drawing}
use Rattle.msc_print.specs.Pages.{Puts}
use Rattle.msc_judge.specs.Telling.{race_text, told_from}
use Rattle.msc_report.specs.Editors.{editor_text}
use Rattle.msc_report.specs.Lines.{finding_text}
use Rattle.msc_report.specs.Styles.{run_text, event_positions_in}
use Rattle.msc_report.specs.declared.style.Style.{Style}
use Rattle.msc_diagram.specs.Judging.{editors_of, lines_of}
use Rattle.msc_diagram.specs.Scenarios.{head_text}
use Rattle.msc_diagram.proofs.cases.print_new.Goals as goal

-- what holds by two values holds by those that they are
turned : (P : Style → Drawing → Type 0) {a b : Style} {d e : Drawing} → a ≡ b → d ≡ e → P a d → P b e
turned P {a} {b} {d} {e} first second p = subst (P b) second (subst (λ (st : Style). P st d) first p)

pub returns-in_ok-of-in-Lines : goal.returns-in_ok-of-in-Lines
returns-in_ok-of-in-Lines g c runs shown =
    let s = c.args.listing.now in
    let q = c.args.asked.check.options in
    let n = c.args.numbered in
    let sc = n.scenario.now in
    let put : Style → Drawing → Type 0 = λ st d.
    Puts c.print_scenario.result (g.W.Write.contents c.args.writer.now) (g.W.Write.contents c.print_scenario.new.writer) c.args.page.now.bytes.items c.print_scenario.new.page.bytes.items
    (head_text (Some n.number) sc.choices n.races
    ++ told_from (race_text (record { heading = λ h. []; run = run_text st.words d; finding = finding_text (event_positions_in st) d; end = λ stale totals. [] }) s.judged q runs) q.most c.args.new.first c.args.new.pairs.now) in
    rw c.in-Lines.is (inl (lines_of c.in-Lines.words sc, refl, turned put c.in_ok-of-in-Lines.ensures.style c.requires.chart (c.print_scenario.ensures runs shown)))

pub returns-in-Editor : goal.returns-in-Editor
returns-in-Editor g c runs shown =
    let s = c.args.listing.now in
    let q = c.args.asked.check.options in
    let n = c.args.numbered in
    let sc = n.scenario.now in
    rw c.in-Editor.is (inl (
      editors_of sc,
      refl,
      subst (λ (d : Drawing).
          Puts c.print_scenario-in-Editor.result (g.W.Write.contents c.args.writer.now) (g.W.Write.contents c.print_scenario-in-Editor.new.writer) c.args.page.now.bytes.items c.print_scenario-in-Editor.new.page.bytes.items
          (head_text None sc.choices n.races
          ++ told_from (race_text (record { heading = λ h. []; run = λ run. []; finding = λ f line. editor_text sc.event_positions d f; end = λ stale totals. [] }) s.judged q runs) q.most c.args.new.first c.args.new.pairs.now))
          c.requires.chart (c.print_scenario-in-Editor.ensures runs shown),
    ))

pub returns-in-Full : goal.returns-in-Full
returns-in-Full g c runs shown = rw c.in-Full.is (c.print_full.ensures runs shown)
