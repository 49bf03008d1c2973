use Rattle.std.proofs.Common.{◌≡◌, ℕ, List, true, None, Ok, Err, length, ap, ◌∙◌, subst}
use Rattle.std.proofs.lemmas.Result.{err_from_is_err_and}
use Rattle.msc_print.specs.Pages.{Writes}
use Rattle.msc_race.specs.Views.{wiring_of}
use Rattle.msc_reason.specs.Marked.{cause_in}
use Rattle.msc_race.specs.Wired.{EnforcedChart}
use Rattle.msc_reason.specs.Selected.{selected, Selected}
use Rattle.msc_reason.specs.declared.left_out.LeftOut.{LeftOut}
use Rattle.msc_judge.specs.Findings.{heading_of, left_of, texts, totals_in, AreShown}
use Rattle.msc_judge.specs.Telling.{listed_text}
use Rattle.msc_judge.specs.declared.marking.Marking.{Marking}
use Rattle.msc_judge.specs.declared.options.CheckOptions.{CheckOptions}
use Rattle.msc_judge.specs.declared.renderer.Heading.{Heading}
use Rattle.msc_judge.specs.declared.renderer.Totals.{Totals}
use Rattle.msc_judge.proofs.Answered.{answers_list, answers_nothing}
use Rattle.msc_judge.proofs.judging.judge.Goals as goal

pub returns-in_err-listing : goal.returns-in_err-listing
returns-in_err-listing g c =
    let exit = err_from_is_err_and c.from_residual.result c.from_residual.ensures.1 in
    answers_nothing c.the_witness_reverses.ensures.exists c.short_witnesses_show.ensures.exists _ _ _ c.facts.ensures.order c.facts.ensures.chart _ _ _ (exit.1 ∙ ap Err exit.2)

pub returns-in_err-heading : goal.returns-in_err-heading
returns-in_err-heading g c =
    let exit = err_from_is_err_and c.from_residual-in_err-heading.result c.from_residual-in_err-heading.ensures.1 in
    answers_nothing c.the_witness_reverses.ensures.exists c.short_witnesses_show.ensures.exists _ _ _ c.facts.ensures.order c.facts.ensures.chart _ _ _ (exit.1 ∙ ap Err exit.2)

-- what was found, by the races that are listed
found : (e : EnforcedChart) (q : CheckOptions) (m : Marking) (s : Selected) (l : LeftOut) (h : Heading) (t : Totals)
    → s ≡ selected e l q.closest → l ≡ left_of q m → h ≡ heading_of s.judged s.closest s.allowed (cause_in s.judged)
    → t ≡ totals_in q.most (length m.stale.now) None h
    → t ≡ totals_in q.most (length m.stale.now) None (heading_of e q.closest (left_of q m) (cause_in e))
found e q m s l h t list left heading totals =
    totals ∙ ap (totals_in q.most (length m.stale.now) None)
    (heading ∙ ap (λ (x : Selected). heading_of x.judged x.closest x.allowed (cause_in x.judged)) list
    ∙ ap (λ (k : LeftOut). heading_of e q.closest k (cause_in e)) left)

pub returns-in-Ok : goal.returns-in-Ok
returns-in-Ok g c =
    let r = g.R.Renderer in
    let q = c.args.check.options in
    let m = c.args.check.marking in
    let e = c.args.check.enforced in
    let s = c.args.check.renderer.now in
    let before = g.W.Write.contents c.args.writer.now in
    let after = g.W.Write.contents c.write_by.new.writer in
    answers_list c.the_witness_reverses.ensures.exists c.short_witnesses_show.ensures.exists q m e c.facts.ensures.order c.facts.ensures.chart
    (texts r.heading_text r.run_text r.finding_text r.end_text s e.chart) (Ok c.totals_in-totals.result) before after
    (rw c.in-Ok.is at (subst (λ (x : Selected). (text : List ℕ) → (runs : ℕ × ℕ → List ℕ) × AreShown q.short (wiring_of x.judged) runs
    × (text ≡ listed_text (texts r.heading_text r.run_text r.finding_text r.end_text s x.judged.chart) x.judged q m true runs) → Writes c.write_by.result before after text) c.in_ok-listing.ensures c.write_by.ensures.written))
    (found e q m c.in_ok-listing.listing c.left_of-left.result c.in_ok-heading.heading c.totals_in-totals.result c.in_ok-listing.ensures c.left_of-left.ensures c.in_ok-heading.ensures c.totals_in-totals.ensures)

pub returns : goal.returns
returns g c =
    let r = g.R.Renderer in
    let q = c.args.check.options in
    let m = c.args.check.marking in
    let e = c.args.check.enforced in
    let s = c.args.check.renderer.now in
    let before = g.W.Write.contents c.args.writer.now in
    let after = g.W.Write.contents c.write_by.new.writer in
    answers_list c.the_witness_reverses.ensures.exists c.short_witnesses_show.ensures.exists q m e c.facts.ensures.order c.facts.ensures.chart
    (texts r.heading_text r.run_text r.finding_text r.end_text s e.chart) (Err c.in-Err.fault) before after
    (rw c.in-Err.is at (subst (λ (x : Selected). (text : List ℕ) → (runs : ℕ × ℕ → List ℕ) × AreShown q.short (wiring_of x.judged) runs
    × (text ≡ listed_text (texts r.heading_text r.run_text r.finding_text r.end_text s x.judged.chart) x.judged q m true runs) → Writes c.write_by.result before after text) c.in_ok-listing.ensures c.write_by.ensures.written))
    tt
