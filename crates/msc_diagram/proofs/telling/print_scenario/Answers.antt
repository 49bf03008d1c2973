use Rattle.std.proofs.Common.{◌≡◌, ℕ, List, ◌++◌, [], refl, sym, subst}
use Rattle.std.specs.Prelude.{Bool}
use Rattle.std.proofs.lemmas.List.{append-nil}
use Rattle.std.proofs.lemmas.Result.{err_from_is_err_and}
use Rattle.msc_print.proofs.Putting.{fails_within, pages_in, pages_then}
use Rattle.msc_judge.specs.Findings.{texts}
use Rattle.msc_judge.specs.Telling.{race_text, told_from}
use Rattle.msc_diagram.specs.Scenarios.{head_text}
use Rattle.msc_diagram.proofs.telling.print_scenario.Goals as goal

-- the head and the races
pub returns-in_err-print_by : goal.returns-in_err-print_by
returns-in_err-print_by g c runs are =
    let exit = err_from_is_err_and c.from_residual-in_err-print_by.result c.from_residual-in_err-print_by.ensures.1 in
    let r = g.R.Renderer in
    let rows = c.args.rows.now in
    let s = rows.listing.now in
    let text = race_text (texts r.heading_text r.run_text r.finding_text r.end_text rows.renderer.now s.judged.chart) s.judged rows.options runs in
    let head : List ℕ = head_text c.args.head.number c.args.scenario.now.choices c.args.head.races in
    let page : List ℕ = c.args.page.now.bytes.items in
    let told : List ℕ = told_from text rows.options.most c.args.new.first c.args.new.pairs.now in
    rw (exit.1, exit.2) (fails_within Bool (Unit {0}) _ _ _ _ page c.print_head.new.page.bytes.items c.print_by.new.page.bytes.items c.print_by.new.page.bytes.items head told [] _ (sym (append-nil (head ++ told)))
    (pages_in _ page c.print_head.new.page.bytes.items head (subst (λ (l : List ℕ). c.print_head.new.page.bytes.items ≡ page ++ head_text c.args.head.number l c.args.head.races) c.as_slice.ensures c.in_ok-print_head.ensures))
    (c.in_err-print_by.ensures.put told (runs, are, refl)))

pub returns : goal.returns
returns g c runs are =
    let r = g.R.Renderer in
    let rows = c.args.rows.now in
    let s = rows.listing.now in
    let text = race_text (texts r.heading_text r.run_text r.finding_text r.end_text rows.renderer.now s.judged.chart) s.judged rows.options runs in
    let head : List ℕ = head_text c.args.head.number c.args.scenario.now.choices c.args.head.races in
    let page : List ℕ = c.args.page.now.bytes.items in
    let told : List ℕ = told_from text rows.options.most c.args.new.first c.args.new.pairs.now in
    pages_then _ _ _ page c.print_head.new.page.bytes.items c.print_by.new.page.bytes.items head told
    (pages_in _ page c.print_head.new.page.bytes.items head (subst (λ (l : List ℕ). c.print_head.new.page.bytes.items ≡ page ++ head_text c.args.head.number l c.args.head.races) c.as_slice.ensures c.in_ok-print_head.ensures))
    (c.in_ok-print_by.ensures.put told (runs, are, refl))
