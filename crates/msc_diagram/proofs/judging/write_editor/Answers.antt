use Rattle.std.proofs.Common.{ℕ, false, None, List, [], ◌++◌, Err, length, sym, ap, ◌∙◌, subst}
use Rattle.std.specs.Io.KnownBytes.{Appends}
use Rattle.std.proofs.lemmas.Result.{err_from_is_err_and}
use Rattle.msc_diagram.proofs.Above.{all_stale}
use Rattle.msc_diagram.proofs.Answering.{all_end, all_stop, all_stop_below}
use Rattle.msc_diagram.specs.Checks.{with_options}
use Rattle.msc_diagram.specs.Counts.{counts_of_all, AreStale}
use Rattle.msc_diagram.specs.Judging.{asked}
use Rattle.msc_diagram.specs.Scenarios.{cases_text}
use Rattle.msc_diagram.specs.Stale.{each_stale, stale_editor}
use Rattle.msc_diagram.specs.Telling.{PutsCases, TellsCases}
use Rattle.msc_diagram.specs.declared.cases.Asked.{Asked}
use Rattle.msc_diagram.specs.declared.cases.RaceFormat.TheVariants as shapes
use Rattle.msc_diagram.specs.declared.check.ScenarioCheck.{ScenarioCheck}
use Rattle.msc_diagram.specs.declared.judging.DiagramFormat.TheVariants as formats
use Rattle.msc_diagram.specs.declared.judging.Judged.{Judged}
use Rattle.msc_diagram.specs.declared.place.EventPlace.{EventPlace}
use Rattle.msc_diagram.proofs.judging.write_editor.Goals as goal

-- what is asked for editors, with this check
abbrev asked_by : ScenarioCheck → Asked
asked_by q = record { check = q; format = shapes.Editor }

-- what is answered
abbrev judged : ℕ → ℕ → Judged
judged listed stale = record { listed = listed; accepted = None; stale = stale }

pub returns-in_err-print_cases : goal.returns-in_err-print_cases
returns-in_err-print_cases g c =
    let exit = err_from_is_err_and c.from_residual-in_err-print_cases.result c.from_residual-in_err-print_cases.ensures.1 in
    let scenarios = g.S.Source.scenarios c.args.scenarios.now in
    let q = asked formats.Editor c.args.check in
    let is = c.with_options.ensures ∙ ap (with_options c.args.check) c.for_editors.ensures in
    let page : List ℕ = c.new-page.result.bytes.items in
    let last : List ℕ = c.print_cases.new.page.bytes.items in
    let before = g.W.Write.contents c.args.writer.now in let after = g.W.Write.contents c.print_cases.new.writer in
    let f = c.in_err-print_cases.field-0.0 in
    rw (exit.1, exit.2) (all_stop g.W.Write.contents c.args.top.now scenarios c.args.check formats.Editor (asked_by q) page
    (λ l cases are. are) (λ p. 0) tt (λ cases told. told) (counts_of_all 0) tt (λ cases. ap (λ (t : List ℕ). t ++ cases_text false q 1 [] cases) (sym c.new-page.ensures))
    f c.args.writer.now c.print_cases.new.writer c.print_cases.new.reported last
    (subst (λ (x : ScenarioCheck). TellsCases (asked_by x) scenarios [] c.print_cases.new.reported before after page last (Err f)) is
    (subst (λ (above : List (EventPlace × EventPlace)). TellsCases (asked_by c.with_options.result) scenarios above c.print_cases.new.reported before after page last (Err f))
    c.new-reported.ensures c.in_err-print_cases.ensures)))

pub returns-in_err-print_stale : goal.returns-in_err-print_stale
returns-in_err-print_stale g c =
    let exit = err_from_is_err_and c.from_residual-in_err-print_stale.result c.from_residual-in_err-print_stale.ensures.1 in
    let scenarios = g.S.Source.scenarios c.args.scenarios.now in
    let q = asked formats.Editor c.args.check in
    let is = c.with_options.ensures ∙ ap (with_options c.args.check) c.for_editors.ensures in
    let page : List ℕ = c.new-page.result.bytes.items in
    let last : List ℕ = c.print_cases.new.page.bytes.items in
    let before = g.W.Write.contents c.args.writer.now in let after = g.W.Write.contents c.print_cases.new.writer in
    let passed = c.in_ok-print_cases.field-0 in
    rw (exit.1, exit.2) (all_stop_below g.W.Write.contents c.args.top.now scenarios c.args.check formats.Editor (asked_by q) page
    (λ l cases are. are) (λ p. 0) tt (λ cases told. told) (counts_of_all 0) tt (λ cases. ap (λ (t : List ℕ). t ++ cases_text false q 1 [] cases) (sym c.new-page.ensures))
    c.args.writer.now c.print_cases.new.writer c.print_cases.new.reported last passed
    (subst (λ (x : ScenarioCheck). PutsCases (asked_by x) scenarios [] c.print_cases.new.reported before after page last passed) is
    (subst (λ (above : List (EventPlace × EventPlace)). PutsCases (asked_by c.with_options.result) scenarios above c.print_cases.new.reported before after page last passed)
    c.new-reported.ensures c.in_ok-print_cases.ensures)))

pub returns : goal.returns
returns g c =
    let scenarios = g.S.Source.scenarios c.args.scenarios.now in
    let q = asked formats.Editor c.args.check in
    let is = c.with_options.ensures ∙ ap (with_options c.args.check) c.for_editors.ensures in
    let page : List ℕ = c.new-page.result.bytes.items in
    let last : List ℕ = c.print_cases.new.page.bytes.items in
    let final : List ℕ = c.print_stale.new.page.bytes.items in
    let before = g.W.Write.contents c.args.writer.now in let after = g.W.Write.contents c.print_cases.new.writer in
    let passed = c.in_ok-print_cases.field-0 in
    let p = subst (λ (x : ScenarioCheck). PutsCases (asked_by x) scenarios [] c.print_cases.new.reported before after page last passed) is
    (subst (λ (above : List (EventPlace × EventPlace)). PutsCases (asked_by c.with_options.result) scenarios above c.print_cases.new.reported before after page last passed)
    c.new-reported.ensures c.in_ok-print_cases.ensures) in
    let stale = c.in_ok-stale.stale.items in
    let are = all_stale scenarios q stale p.cases (subst (λ (x : ScenarioCheck). AreStale scenarios x stale) is c.in_ok-stale.ensures) p.are in
    let listed = c.len.ensures.value ∙ ap length p.reported in
    let marks = c.len-2.ensures ∙ c.in_ok-stale.stale.ok.0 ∙ ap length are in
    all_end g.W.Write.contents c.args.top.now scenarios c.args.check formats.Editor (asked_by q) page
    (λ l cases are. are) (λ p. 0) tt (λ cases told. told)
    c.args.writer.now c.print_cases.new.writer c.write_all.new.self c.print_cases.new.reported last final (each_stale q.marks stale_editor c.as_slice.result.now) passed _
    p (ap (λ (t : List ℕ). t ++ cases_text false q 1 [] p.cases) (sym c.new-page.ensures)) c.in_ok-print_stale.ensures
    (ap (each_stale q.marks stale_editor) (c.as_slice.ensures.value ∙ are))
    (λ j. judged (listed j) (marks j))
    (subst (Appends (g.W.Write.contents c.print_cases.new.writer) (g.W.Write.contents c.write_all.new.self)) c.as_slice-2.ensures.value c.in_ok-write_all.ensures.bytes)
