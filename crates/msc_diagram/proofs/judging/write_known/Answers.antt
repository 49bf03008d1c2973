use Rattle.std.proofs.Common.{◌≡◌, ℕ, true, List, [], ◌++◌, Err, length, sym, ap, ap₂, ◌∙◌, subst}
use Rattle.std.specs.Io.KnownBytes.{Appends}
use Rattle.std.proofs.lemmas.Result.{err_from_is_err_and}
use Rattle.msc_diagram.proofs.Answering.{all_end, all_stop, all_stop_below}
use Rattle.msc_diagram.proofs.Above.{above_agrees, above_begins, counts_agree, known_stale}
use Rattle.msc_diagram.specs.Counts.{counts_text, diagram_end, place_counts}
use Rattle.msc_diagram.specs.Judging.{judged_of}
use Rattle.msc_diagram.specs.Stale.{each_stale, stale_line, stale_marks}
use Rattle.msc_diagram.specs.Scenarios.{cases_text, diagram_head}
use Rattle.msc_diagram.specs.Telling.{above_text, PutsCases, TellsCases}
use Rattle.msc_diagram.specs.declared.cases.Asked.{Asked}
use Rattle.msc_diagram.specs.declared.cases.RaceFormat.TheVariants as shapes
use Rattle.msc_diagram.specs.declared.judging.DiagramFormat.TheVariants as formats
use Rattle.msc_diagram.specs.declared.place.EventPlace.{EventPlace}
use Rattle.msc_diagram.proofs.judging.write_known.Goals as goal

-- what stands above the scenarios is on the page
headed : (page top head above counts : List ℕ) → page ≡ top ++ above → top ≡ head → above ≡ counts → (text : List ℕ) → (head ++ counts) ++ text ≡ page ++ text
headed page top head above counts put is same text =
    ap (λ (t : List ℕ). t ++ text) (sym (put ∙ ap₂ (λ (s t : List ℕ). s ++ t) is same))

pub returns-in_err-passed : goal.returns-in_err-passed
returns-in_err-passed g c =
    let exit = err_from_is_err_and c.from_residual-in_err-passed.result c.from_residual-in_err-passed.ensures.1 in
    let q = c.args.check in let diagram_style = c.args.diagram_style in let scenarios = (g.S.Source.scenarios c.args.scenarios.now) in
    let above = c.args.above in let stale = c.args.stale.now in
    let a : Asked = record { check = q; format = shapes.Lines diagram_style.words } in
    let page : List ℕ = c.print_counts.new.page.bytes.items in
    let last : List ℕ = c.print_cases.new.page.bytes.items in
    let head : List ℕ = diagram_head c.args.top.now (length scenarios) in
    let top = c.in_ok-print_top.ensures ∙ ap (λ (t : List ℕ). t ++ diagram_head c.args.top.now c.len-count.result) c.new-page.ensures ∙ ap (λ (n : ℕ). diagram_head c.args.top.now n) c.len-count.ensures in
    let f = c.in_err-passed.field-0.0 in
    let begins = above_begins scenarios q diagram_style above stale c.requires in
    rw (exit.1, exit.2) (all_stop g.W.Write.contents c.args.top.now scenarios q (formats.Lines diagram_style) a page (λ l cases are. are) (λ p. 0) tt (λ cases told. told) begins.0 begins.1
    (λ cases. headed page c.print_top.new.page.bytes.items head (above_text q above) (counts_text q begins.0) c.in_ok-print_counts.ensures top begins.2
    (cases_text true q 1 [] cases))
    f c.args.writer.now c.print_cases.new.writer c.print_cases.new.reported last
    (subst (λ (above : List (EventPlace × EventPlace)). TellsCases a scenarios above c.print_cases.new.reported (g.W.Write.contents c.args.writer.now) (g.W.Write.contents c.print_cases.new.writer) page last (Err f))
    c.new-reported.ensures c.in_err-passed.ensures))

pub returns-in_err-lines : goal.returns-in_err-lines
returns-in_err-lines g c =
    let exit = err_from_is_err_and c.from_residual-in_err-lines.result c.from_residual-in_err-lines.ensures.1 in
    let q = c.args.check in let diagram_style = c.args.diagram_style in let scenarios = (g.S.Source.scenarios c.args.scenarios.now) in
    let above = c.args.above in let stale = c.args.stale.now in
    let a : Asked = record { check = q; format = shapes.Lines diagram_style.words } in
    let page : List ℕ = c.print_counts.new.page.bytes.items in
    let last : List ℕ = c.print_cases.new.page.bytes.items in
    let head : List ℕ = diagram_head c.args.top.now (length scenarios) in
    let top = c.in_ok-print_top.ensures ∙ ap (λ (t : List ℕ). t ++ diagram_head c.args.top.now c.len-count.result) c.new-page.ensures ∙ ap (λ (n : ℕ). diagram_head c.args.top.now n) c.len-count.ensures in
    let begins = above_begins scenarios q diagram_style above stale c.requires in
    rw (exit.1, exit.2) (all_stop_below g.W.Write.contents c.args.top.now scenarios q (formats.Lines diagram_style) a page (λ l cases are. are) (λ p. 0) tt (λ cases told. told) begins.0 begins.1
    (λ cases. headed page c.print_top.new.page.bytes.items head (above_text q above) (counts_text q begins.0) c.in_ok-print_counts.ensures top begins.2
    (cases_text true q 1 [] cases))
    c.args.writer.now c.print_cases.new.writer c.print_cases.new.reported last c.in_ok-passed.passed
    (subst (λ (above : List (EventPlace × EventPlace)). PutsCases a scenarios above c.print_cases.new.reported (g.W.Write.contents c.args.writer.now) (g.W.Write.contents c.print_cases.new.writer) page last c.in_ok-passed.passed)
    c.new-reported.ensures c.in_ok-passed.ensures))

pub returns-in_err-print_bottom : goal.returns-in_err-print_bottom
returns-in_err-print_bottom g c =
    let exit = err_from_is_err_and c.from_residual-in_err-print_bottom.result c.from_residual-in_err-print_bottom.ensures.1 in
    let q = c.args.check in let diagram_style = c.args.diagram_style in let scenarios = (g.S.Source.scenarios c.args.scenarios.now) in
    let above = c.args.above in let stale = c.args.stale.now in
    let a : Asked = record { check = q; format = shapes.Lines diagram_style.words } in
    let page : List ℕ = c.print_counts.new.page.bytes.items in
    let last : List ℕ = c.print_cases.new.page.bytes.items in
    let head : List ℕ = diagram_head c.args.top.now (length scenarios) in
    let top = c.in_ok-print_top.ensures ∙ ap (λ (t : List ℕ). t ++ diagram_head c.args.top.now c.len-count.result) c.new-page.ensures ∙ ap (λ (n : ℕ). diagram_head c.args.top.now n) c.len-count.ensures in
    let begins = above_begins scenarios q diagram_style above stale c.requires in
    rw (exit.1, exit.2) (all_stop_below g.W.Write.contents c.args.top.now scenarios q (formats.Lines diagram_style) a page (λ l cases are. are) (λ p. 0) tt (λ cases told. told) begins.0 begins.1
    (λ cases. headed page c.print_top.new.page.bytes.items head (above_text q above) (counts_text q begins.0) c.in_ok-print_counts.ensures top begins.2
    (cases_text true q 1 [] cases))
    c.args.writer.now c.print_cases.new.writer c.print_cases.new.reported last c.in_ok-passed.passed
    (subst (λ (above : List (EventPlace × EventPlace)). PutsCases a scenarios above c.print_cases.new.reported (g.W.Write.contents c.args.writer.now) (g.W.Write.contents c.print_cases.new.writer) page last c.in_ok-passed.passed)
    c.new-reported.ensures c.in_ok-passed.ensures))

pub returns : goal.returns
returns g c =
    let q = c.args.check in let diagram_style = c.args.diagram_style in let scenarios = (g.S.Source.scenarios c.args.scenarios.now) in
    let above = c.args.above in let stale = c.args.stale.now in
    let a : Asked = record { check = q; format = shapes.Lines diagram_style.words } in
    let page : List ℕ = c.print_counts.new.page.bytes.items in
    let last : List ℕ = c.print_cases.new.page.bytes.items in
    let head : List ℕ = diagram_head c.args.top.now (length scenarios) in
    let top = c.in_ok-print_top.ensures ∙ ap (λ (t : List ℕ). t ++ diagram_head c.args.top.now c.len-count.result) c.new-page.ensures ∙ ap (λ (n : ℕ). diagram_head c.args.top.now n) c.len-count.ensures in
    let final : List ℕ = c.print_bottom.new.page.bytes.items in
    let passed = c.in_ok-passed.passed in
    let counts = c.counts_from-counts.result in
    let p = subst (λ (above : List (EventPlace × EventPlace)). PutsCases a scenarios above c.print_cases.new.reported (g.W.Write.contents c.args.writer.now) (g.W.Write.contents c.print_cases.new.writer) page last passed)
    c.new-reported.ensures c.in_ok-passed.ensures in
    let same = c.counts_from-counts.ensures ∙ counts_agree scenarios q above stale p.cases c.len.result c.requires p.are (c.len.ensures.value ∙ ap length p.reported) in
    let are_stale = known_stale scenarios q above stale p.cases c.requires p.are in
    let lines : c.as_slice.result.now ≡ each_stale q.marks stale_line (stale_marks q p.cases)
    = c.as_slice.ensures.value ∙ c.in_ok-lines.ensures ∙ ap (each_stale q.marks stale_line) are_stale in
    all_end g.W.Write.contents c.args.top.now scenarios q (formats.Lines diagram_style) a page (λ l cases are. are) (λ p. 0) tt (λ cases told. told)
    c.args.writer.now c.print_cases.new.writer c.write_all.new.self c.print_cases.new.reported last final (diagram_end diagram_style.drawn counts c.as_slice.result.now passed) passed _
    p (headed page c.print_top.new.page.bytes.items head (above_text q above) (counts_text q (place_counts q p.cases)) c.in_ok-print_counts.ensures top
    (above_agrees scenarios q above stale p.cases c.requires p.are) (cases_text true q 1 [] p.cases))
    c.in_ok-print_bottom.ensures
    (λ j. diagram_end diagram_style.drawn (same j) (lines j) (p.counted j))
    (λ j. judged_of (formats.Lines diagram_style) (same j) (are_stale j))
    (subst (Appends (g.W.Write.contents c.print_cases.new.writer) (g.W.Write.contents c.write_all.new.self)) c.as_slice-2.ensures.value c.in_ok-write_all.ensures.bytes)
