use Rattle.std.proofs.Common.{◌≡◌, ℕ, false, List, [], ◌++◌, Err, length, sym, ap, ◌∙◌, append_assoc, subst}
use Rattle.std.specs.Io.KnownBytes.{Appends}
use Rattle.std.proofs.lemmas.Result.{err_from_is_err_and}
use Rattle.msc_diagram.proofs.Answering.{all_end, all_stop, all_stop_below}
use Rattle.msc_diagram.proofs.Same.{counted_agree, stale_agree}
use Rattle.msc_diagram.specs.Checks.{with_options}
use Rattle.msc_diagram.specs.Closing.{closing_text}
use Rattle.msc_diagram.specs.Counts.{counts_of_all}
use Rattle.msc_diagram.specs.Full.{AreFullTexts}
use Rattle.msc_diagram.specs.Judging.{asked, judged_of, AreTextsIn}
use Rattle.msc_diagram.specs.Scenarios.{cases_text, AreTold, Case}
use Rattle.msc_diagram.specs.Stale.{each_stale, stale_shown}
use Rattle.msc_diagram.specs.Tallies.{counts_of, tally_at}
use Rattle.msc_diagram.specs.Telling.{AreToldBy, PutsCases, TellsCases}
use Rattle.msc_diagram.specs.declared.cases.Asked.{Asked}
use Rattle.msc_diagram.specs.declared.cases.RaceFormat.TheVariants as shapes
use Rattle.msc_diagram.specs.declared.check.ScenarioCheck.{ScenarioCheck}
use Rattle.msc_diagram.specs.declared.full.FullRaces.{FullRaces}
use Rattle.msc_diagram.specs.declared.judging.DiagramFormat.TheVariants as formats
use Rattle.msc_diagram.specs.declared.place.EventPlace.{EventPlace}
use Rattle.msc_diagram.proofs.judging.write_found.Goals as goal

-- what is asked of scenarios, with this check
abbrev asked_by : ScenarioCheck → FullRaces → Asked
asked_by q races = record { check = q; format = shapes.Full races }

-- what is known of the texts is known of those of so many scenarios
told_of : (q : ScenarioCheck) (races : FullRaces) (n : ℕ) → races.scenarios ≡ n → (cases : List Case) → AreToldBy (asked_by q races) [] cases
    → AreTold (AreTextsIn (formats.Full races.shown) q.queues n (tally_at races.tally.now)) q 1 [] cases
told_of q races n same cases told =
    subst (λ (m : ℕ). AreTold (λ i first new s texts. AreFullTexts races.shown m q.queues i first (counts_of races.tally.now s new) s texts) q 1 [] cases) same told

pub returns-in_err-passed : goal.returns-in_err-passed
returns-in_err-passed g c top =
    let exit = err_from_is_err_and c.from_residual.result c.from_residual.ensures.1 in
    let races = c.args.races in
    let scenarios = g.S.Source.scenarios c.args.scenarios.now in
    let q = asked (formats.Full races.shown) c.args.check in
    let is = c.with_options.ensures ∙ ap (with_options c.args.check) c.for_people.ensures in
    let page : List ℕ = c.new-page.result.bytes.items in
    let last : List ℕ = c.print_cases.new.page.bytes.items in
    let before = g.W.Write.contents c.args.writer.now in let after = g.W.Write.contents c.print_cases.new.writer in
    let f = c.in_err-passed.field-0.0 in
    rw (exit.1, exit.2) (all_stop g.W.Write.contents top scenarios c.args.check (formats.Full races.shown) (asked_by q races) page
    (λ l cases are. are) (tally_at races.tally.now) c.requires.counted (told_of q races (length scenarios) c.requires.number)
    (counts_of_all 0) tt (λ cases. ap (λ (t : List ℕ). t ++ cases_text false q 1 [] cases) (sym c.new-page.ensures))
    f c.args.writer.now c.print_cases.new.writer c.print_cases.new.reported last
    (subst (λ (k : ScenarioCheck). TellsCases (asked_by k races) scenarios [] c.print_cases.new.reported before after page last (Err f)) is
    (subst (λ (above : List (EventPlace × EventPlace)). TellsCases (asked_by c.with_options.result races) scenarios above c.print_cases.new.reported before after page last (Err f))
    c.new-reported.ensures c.in_err-passed.ensures)))

pub returns-in_err-print_stale : goal.returns-in_err-print_stale
returns-in_err-print_stale g c top =
    let exit = err_from_is_err_and c.from_residual-in_err-print_stale.result c.from_residual-in_err-print_stale.ensures.1 in
    let races = c.args.races in
    let scenarios = g.S.Source.scenarios c.args.scenarios.now in
    let q = asked (formats.Full races.shown) c.args.check in
    let is = c.with_options.ensures ∙ ap (with_options c.args.check) c.for_people.ensures in
    let page : List ℕ = c.new-page.result.bytes.items in
    let last : List ℕ = c.print_cases.new.page.bytes.items in
    let before = g.W.Write.contents c.args.writer.now in let after = g.W.Write.contents c.print_cases.new.writer in
    let passed = c.in_ok-passed.passed in
    rw (exit.1, exit.2) (all_stop_below g.W.Write.contents top scenarios c.args.check (formats.Full races.shown) (asked_by q races) page
    (λ l cases are. are) (tally_at races.tally.now) c.requires.counted (told_of q races (length scenarios) c.requires.number)
    (counts_of_all 0) tt (λ cases. ap (λ (t : List ℕ). t ++ cases_text false q 1 [] cases) (sym c.new-page.ensures))
    c.args.writer.now c.print_cases.new.writer c.print_cases.new.reported last passed
    (subst (λ (k : ScenarioCheck). PutsCases (asked_by k races) scenarios [] c.print_cases.new.reported before after page last passed) is
    (subst (λ (above : List (EventPlace × EventPlace)). PutsCases (asked_by c.with_options.result races) scenarios above c.print_cases.new.reported before after page last passed)
    c.new-reported.ensures c.in_ok-passed.ensures)))

pub returns-in_err-print_closing : goal.returns-in_err-print_closing
returns-in_err-print_closing g c top =
    let exit = err_from_is_err_and c.from_residual-in_err-print_closing.result c.from_residual-in_err-print_closing.ensures.1 in
    let races = c.args.races in
    let scenarios = g.S.Source.scenarios c.args.scenarios.now in
    let q = asked (formats.Full races.shown) c.args.check in
    let is = c.with_options.ensures ∙ ap (with_options c.args.check) c.for_people.ensures in
    let page : List ℕ = c.new-page.result.bytes.items in
    let last : List ℕ = c.print_cases.new.page.bytes.items in
    let before = g.W.Write.contents c.args.writer.now in let after = g.W.Write.contents c.print_cases.new.writer in
    let passed = c.in_ok-passed.passed in
    rw (exit.1, exit.2) (all_stop_below g.W.Write.contents top scenarios c.args.check (formats.Full races.shown) (asked_by q races) page
    (λ l cases are. are) (tally_at races.tally.now) c.requires.counted (told_of q races (length scenarios) c.requires.number)
    (counts_of_all 0) tt (λ cases. ap (λ (t : List ℕ). t ++ cases_text false q 1 [] cases) (sym c.new-page.ensures))
    c.args.writer.now c.print_cases.new.writer c.print_cases.new.reported last passed
    (subst (λ (k : ScenarioCheck). PutsCases (asked_by k races) scenarios [] c.print_cases.new.reported before after page last passed) is
    (subst (λ (above : List (EventPlace × EventPlace)). PutsCases (asked_by c.with_options.result races) scenarios above c.print_cases.new.reported before after page last passed)
    c.new-reported.ensures c.in_ok-passed.ensures)))

pub returns : goal.returns
returns g c top =
    let races = c.args.races in
    let scenarios = g.S.Source.scenarios c.args.scenarios.now in
    let q = asked (formats.Full races.shown) c.args.check in
    let is = c.with_options.ensures ∙ ap (with_options c.args.check) c.for_people.ensures in
    let page : List ℕ = c.new-page.result.bytes.items in
    let last : List ℕ = c.print_cases.new.page.bytes.items in
    let final : List ℕ = c.print_closing.new.page.bytes.items in
    let before = g.W.Write.contents c.args.writer.now in let after = g.W.Write.contents c.print_cases.new.writer in
    let passed = c.in_ok-passed.passed in
    let counts = c.args.counts in let stale = c.args.stale.now in
    let p = subst (λ (k : ScenarioCheck). PutsCases (asked_by k races) scenarios [] c.print_cases.new.reported before after page last passed) is
    (subst (λ (above : List (EventPlace × EventPlace)). PutsCases (asked_by c.with_options.result races) scenarios above c.print_cases.new.reported before after page last passed)
    c.new-reported.ensures c.in_ok-passed.ensures) in
    let known = c.requires.counts in
    let same = known.2 ∙ counted_agree scenarios q known.0 p.cases known.1 p.are in
    let are_stale = known.3 ∙ stale_agree scenarios q known.0 p.cases known.1 p.are in
    let number = c.requires.number in
    let told : List ℕ = each_stale q.marks (stale_shown races.shown) stale in
    let closing : List ℕ = closing_text races.shown q.marks counts (length stale) q.options.most races.scenarios passed in
    all_end g.W.Write.contents top scenarios c.args.check (formats.Full races.shown) (asked_by q races) page
    (λ l cases are. are) (tally_at races.tally.now) c.requires.counted (told_of q races (length scenarios) number)
    c.args.writer.now c.print_cases.new.writer c.write_all.new.self c.print_cases.new.reported last final (told ++ closing) passed _
    p (ap (λ (t : List ℕ). t ++ cases_text false q 1 [] p.cases) (sym c.new-page.ensures))
    (c.in_ok-print_closing.ensures ∙ ap (λ (t : List ℕ). t ++ closing) c.in_ok-print_stale.ensures ∙ append_assoc last told closing)
    (λ j. each_stale q.marks (stale_shown races.shown) (are_stale j) ++ closing_text races.shown q.marks (same j) (length (are_stale j)) q.options.most (number j) (p.counted j))
    (λ j. judged_of (formats.Full races.shown) (same j) (are_stale j))
    (subst (Appends (g.W.Write.contents c.print_cases.new.writer) (g.W.Write.contents c.write_all.new.self)) c.as_slice.ensures.value c.in_ok-write_all.ensures.bytes)
