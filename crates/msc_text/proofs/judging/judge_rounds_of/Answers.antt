use Rattle.std.proofs.Common.{ℕ, Bool, true, List, [], length, nat_eq, refl, subst}
use Rattle.std.proofs.lemmas.Result.{err_from_is_err_and}
use Rattle.msc_chart.specs.Drawings.{Drawing, IsAccepted}
use Rattle.msc_race.specs.Wired.{EnforcedChart, IsEnforced}
use Rattle.msc_reason.specs.LeftOut.{of_kinds}
use Rattle.msc_judge.proofs.Asked.{all_tables, tables_of}
use Rattle.msc_judge.proofs.BetweenLemmas.{told_list}
use Rattle.msc_print.proofs.Putting.{begins_none}
use Rattle.msc_findings.specs.Findings.{end_text, finding_text}
use Rattle.msc_findings.specs.Rounds.{round_finding, round_run}
use Rattle.msc_judge.specs.Between.{told_of}
use Rattle.msc_judge.specs.Findings.{Texts}
use Rattle.msc_judge.specs.Rounds.{AnswersRounds}
use Rattle.msc_judge.specs.declared.options.CheckOptions.{CheckOptions}
use Rattle.msc_report.specs.declared.style.Style.{Style}
use Rattle.msc_text.specs.Judging.{asked, round_texts_in, texts_in}
use Rattle.msc_text.specs.declared.judging.ChartFormat.TheVariants.{Editor, Full, Lines}
use Rattle.msc_text.proofs.judging.judge_rounds_of.Goals as goal

pub returns-in_err-renderer-in-Lines : goal.returns-in_err-renderer-in-Lines
returns-in_err-renderer-in-Lines g c =
    let exit = err_from_is_err_and c.from_residual.result c.from_residual.ensures.1 in
    let e = c.args.enforced in
    let two = c.args.rounds.listing.now.judged in
    let is = subst IsEnforced c.enforced-2.ensures c.facts-2.ensures.order in
    let tables = all_tables e c.facts.ensures.order c.facts.ensures.chart c.the_witness_reverses.ensures.exists c.short_witnesses_show.ensures.exists in
    let tables' = all_tables two is (subst (λ (x : EnforcedChart). IsAccepted x.chart) c.enforced-2.ensures c.facts-2.ensures.chart) c.the_witness_reverses.ensures.exists c.short_witnesses_show.ensures.exists in
    rw (c.in-Lines.is, exit.1, exit.2) (record {
      tables = tables_of e tables.0 tables.1;
      are = tables.2;
      of_two = tables_of two tables'.0 tables'.1;
      are_two = tables'.2;
      pairs = told_of e.chart two (of_kinds c.args.options.allowed);
      told = told_list e.chart two (of_kinds c.args.options.allowed) is refl;
      written = begins_none _ _;
      found = tt;
    })

pub returns-in_ok-renderer-in-Lines : goal.returns-in_ok-renderer-in-Lines
returns-in_ok-renderer-in-Lines g c =
    let e = c.args.enforced in
    let two = c.args.rounds.listing.now.judged in
    let before = g.W.Write.contents c.args.writer.now in
    let after = g.W.Write.contents c.judge_rounds.new.writer in
    let format = Lines c.in-Lines.style in
    rw c.in-Lines.is (subst (λ (d : Drawing). AnswersRounds e two c.args.options c.args.marking (texts_in format c.args.rendering.ring.now e.chart) (round_texts_in format c.args.rendering.ring.now d) c.judge_rounds.result before after) c.chart-chart.ensures
    (subst (λ (s : Style). AnswersRounds e two c.args.options c.args.marking (texts_in (Lines s) c.args.rendering.ring.now e.chart) (round_texts_in format c.args.rendering.ring.now c.chart-chart.result.now) c.judge_rounds.result before after)
    c.in_ok-renderer-in-Lines.ensures.style c.judge_rounds.ensures))

pub returns-in_err-renderer-in-Editor : goal.returns-in_err-renderer-in-Editor
returns-in_err-renderer-in-Editor g c =
    let exit = err_from_is_err_and c.from_residual-in_err-renderer-in-Editor.result c.from_residual-in_err-renderer-in-Editor.ensures.1 in
    let e = c.args.enforced in
    let two = c.args.rounds.listing.now.judged in
    let is = subst IsEnforced c.enforced-2.ensures c.facts-2.ensures.order in
    let tables = all_tables e c.facts.ensures.order c.facts.ensures.chart c.the_witness_reverses.ensures.exists c.short_witnesses_show.ensures.exists in
    let tables' = all_tables two is (subst (λ (x : EnforcedChart). IsAccepted x.chart) c.enforced-2.ensures c.facts-2.ensures.chart) c.the_witness_reverses.ensures.exists c.short_witnesses_show.ensures.exists in
    rw (c.in-Editor.is, exit.1, exit.2) (record {
      tables = tables_of e tables.0 tables.1;
      are = tables.2;
      of_two = tables_of two tables'.0 tables'.1;
      are_two = tables'.2;
      pairs = told_of e.chart two (of_kinds c.args.options.allowed);
      told = told_list e.chart two (of_kinds c.args.options.allowed) is refl;
      written = begins_none _ _;
      found = tt;
    })

pub returns-in_ok-renderer-in-Editor : goal.returns-in_ok-renderer-in-Editor
returns-in_ok-renderer-in-Editor g c =
    let e = c.args.enforced in
    let two = c.args.rounds.listing.now.judged in
    let format = Editor c.in-Editor.event_positions in
    let before = g.W.Write.contents c.args.writer.now in
    let after = g.W.Write.contents c.judge_rounds-in-Editor.new.writer in
    rw c.in-Editor.is (subst (λ (d : Drawing). AnswersRounds e two (asked format c.args.options) c.args.marking (texts_in format c.args.rendering.ring.now e.chart) (round_texts_in format c.args.rendering.ring.now d) c.judge_rounds-in-Editor.result before after) c.chart-chart.ensures
    (subst (λ (q : CheckOptions). AnswersRounds e two q c.args.marking (texts_in format c.args.rendering.ring.now e.chart) (round_texts_in format c.args.rendering.ring.now c.chart-chart.result.now) c.judge_rounds-in-Editor.result before after)
    c.for_editors.ensures
    (subst (λ s. AnswersRounds e two c.for_editors.result c.args.marking (texts_in (Editor s) c.args.rendering.ring.now e.chart) (round_texts_in format c.args.rendering.ring.now c.chart-chart.result.now) c.judge_rounds-in-Editor.result before after)
    c.in_ok-renderer-in-Editor.ensures.event_positions
    (subst (λ (steps : List (ℕ × ℕ)). AnswersRounds e two c.for_editors.result c.args.marking (texts_in (Editor c.in_ok-renderer-in-Editor.field-0.event_positions) steps e.chart) (round_texts_in format c.args.rendering.ring.now c.chart-chart.result.now) c.judge_rounds-in-Editor.result before after)
    c.in_ok-renderer-in-Editor.ensures.ring c.judge_rounds-in-Editor.ensures))))

pub returns-in-Full : goal.returns-in-Full
returns-in-Full g c =
    let e = c.args.enforced in
    let two = c.args.rounds.listing.now.judged in
    let full = c.in-Full.format in
    let ring = c.args.rendering.ring.now in
    let before = g.W.Write.contents c.args.writer.now in
    let after = g.W.Write.contents c.judge_rounds-in-Full.new.writer in
    let result = c.judge_rounds-in-Full.result in
    let rounds : Drawing → Bool → Texts = λ d b. record {
      heading = λ h. [];
      run = round_run full d;
      finding = λ f. finding_text full.text true (round_finding d f);
      end = end_text full b;
    } in
    rw c.in-Full.is
    (subst (λ (d : Drawing). AnswersRounds e two (asked (Full full) c.args.options) c.args.marking (texts_in (Full full) ring e.chart) (rounds d (nat_eq (length ring) 0)) result before after) c.requires.one
    (subst (λ (b : Bool). AnswersRounds e two (asked (Full full) c.args.options) c.args.marking (texts_in (Full full) ring e.chart) (rounds c.args.rounds.numbers.now b) result before after) c.is_empty.ensures
    (subst (λ (q : CheckOptions). AnswersRounds e two q c.args.marking (texts_in (Full full) ring e.chart) (rounds c.args.rounds.numbers.now c.is_empty.result) result before after) c.for_people.ensures
    c.judge_rounds-in-Full.ensures)))
