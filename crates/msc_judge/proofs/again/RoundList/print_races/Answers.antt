use Rattle.std.proofs.Common.{ℕ, ◌∙◌, ap, subst, length}
use Rattle.msc_print.specs.Prints.{Prints}
use Rattle.msc_print.specs.Rows.{below}
use Rattle.msc_race.specs.Wired.{IsEnforced}
use Rattle.msc_judge.specs.Between.{is_told, told_of, told_with}
use Rattle.msc_judge.specs.Findings.{texts}
use Rattle.msc_judge.specs.Telling.{race_text, told_from}
use Rattle.msc_judge.proofs.BetweenLemmas.{told_races}
use Rattle.msc_judge.proofs.Listed.{all_of, can_print_all}
use Rattle.msc_judge.proofs.RowTexts.{rows_are_told}
use Rattle.msc_judge.proofs.again.RoundList.print_races.Goals as goal

pub print_pairs-requires-clause-pairs : goal.print_pairs-requires-clause-pairs
print_pairs-requires-clause-pairs g c e inside =
    let d = c.args.self.now.rounds.numbers.now in
    let s = c.args.self.now.rounds.listing.now in
    let is = subst IsEnforced c.enforced.ensures c.facts.ensures.order in
    can_print_all _ s.judged (told_with d s.judged s.allowed e) c.requires (told_races d s.judged s.allowed is e)

pub returns-in_err-print_pairs : goal.returns-in_err-print_pairs
returns-in_err-print_pairs g c runs are =
    let r = g.R.Renderer in
    let l = c.args.self.now in
    let d = l.rounds.numbers.now in
    let s = l.rounds.listing.now in
    let text = race_text (texts r.heading_text r.run_text r.finding_text r.end_text l.renderer.now s.judged.chart) s.judged l.options runs in
    let first : ℕ = c.number_in-first.result in
    subst (Prints c.args.printer.now c.print_pairs.new.printer)
    (rows_are_told l.options.most text first (below (told_with d s.judged s.allowed) (length s.judged.chart.events))
    ∙ ap (told_from text l.options.most first) (all_of (is_told d s.judged s.allowed) (length s.judged.chart.events))
    ∙ ap (λ (n : ℕ). told_from text l.options.most n (told_of d s.judged s.allowed)) c.number_in-first.ensures)
    (c.print_pairs.ensures.printed runs are)

pub returns : goal.returns
returns g c runs are =
    let r = g.R.Renderer in
    let l = c.args.self.now in
    let d = l.rounds.numbers.now in
    let s = l.rounds.listing.now in
    let text = race_text (texts r.heading_text r.run_text r.finding_text r.end_text l.renderer.now s.judged.chart) s.judged l.options runs in
    let first : ℕ = c.number_in-first.result in
    subst (Prints c.args.printer.now c.print_pairs.new.printer)
    (rows_are_told l.options.most text first (below (told_with d s.judged s.allowed) (length s.judged.chart.events))
    ∙ ap (told_from text l.options.most first) (all_of (is_told d s.judged s.allowed) (length s.judged.chart.events))
    ∙ ap (λ (n : ℕ). told_from text l.options.most n (told_of d s.judged s.allowed)) c.number_in-first.ensures)
    (c.print_pairs.ensures.printed runs are)
