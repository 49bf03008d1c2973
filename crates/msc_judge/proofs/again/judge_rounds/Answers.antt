use Rattle.std.proofs.Common.{◌≡◌, ℕ, List, ◌++◌, false, Ok, Err, Some, length, ap, ap₂, ◌∙◌, subst}
use Rattle.std.proofs.lemmas.Result.{err_from_is_err_and}
use Rattle.msc_chart.specs.Drawings.{Drawing, IsAccepted}
use Rattle.msc_print.specs.Pages.{Writes}
use Rattle.msc_race.specs.Views.{wiring_of}
use Rattle.msc_race.specs.Wired.{EnforcedChart, IsEnforced}
use Rattle.msc_reason.specs.Marked.{cause_in}
use Rattle.msc_reason.specs.Selected.{Selected}
use Rattle.msc_reason.specs.declared.left_out.LeftOut.{LeftOut}
use Rattle.msc_judge.specs.Between.{told_of}
use Rattle.msc_judge.specs.Findings.{heading_of, texts, totals_in, AreShown}
use Rattle.msc_judge.specs.Telling.{listed_text, rounds_from}
use Rattle.msc_judge.specs.declared.renderer.Heading.{Heading}
use Rattle.msc_judge.proofs.Answered.{answers_none, answers_rounds}
use Rattle.msc_judge.proofs.again.judge_rounds.Goals as goal

pub returns-in_err-listing : goal.returns-in_err-listing
returns-in_err-listing g c =
    let exit = err_from_is_err_and c.from_residual.result c.from_residual.ensures.1 in
    answers_none c.the_witness_reverses.ensures.exists c.short_witnesses_show.ensures.exists _ _ _ c.facts-2.ensures.order c.facts-2.ensures.chart _
    c.args.rounds.listing.now.judged (subst IsEnforced c.enforced.ensures c.facts.ensures.order) (subst (λ (x : EnforcedChart). IsAccepted x.chart) c.enforced.ensures c.facts.ensures.chart) _ _ _ (exit.1 ∙ ap Err exit.2)

pub returns-in_err-heading : goal.returns-in_err-heading
returns-in_err-heading g c =
    let exit = err_from_is_err_and c.from_residual-in_err-heading.result c.from_residual-in_err-heading.ensures.1 in
    answers_none c.the_witness_reverses.ensures.exists c.short_witnesses_show.ensures.exists _ _ _ c.facts-2.ensures.order c.facts-2.ensures.chart _
    c.args.rounds.listing.now.judged (subst IsEnforced c.enforced.ensures c.facts.ensures.order) (subst (λ (x : EnforcedChart). IsAccepted x.chart) c.enforced.ensures c.facts.ensures.chart) _ _ _ (exit.1 ∙ ap Err exit.2)

pub returns-in_err-count : goal.returns-in_err-count
returns-in_err-count g c =
    let exit = err_from_is_err_and c.from_residual-in_err-count.result c.from_residual-in_err-count.ensures.1 in
    answers_none c.the_witness_reverses.ensures.exists c.short_witnesses_show.ensures.exists _ _ _ c.facts-2.ensures.order c.facts-2.ensures.chart _
    c.args.rounds.listing.now.judged (subst IsEnforced c.enforced.ensures c.facts.ensures.order) (subst (λ (x : EnforcedChart). IsAccepted x.chart) c.enforced.ensures c.facts.ensures.chart) _ _ _ (exit.1 ∙ ap Err exit.2)

pub returns-in-Ok : goal.returns-in-Ok
returns-in-Ok g c =
    let r = g.R.Renderer in
    let r' = g.S.Renderer in
    let q = c.args.check.options in
    let m = c.args.check.marking in
    let e = c.args.check.enforced in
    let two = c.args.rounds.listing.now.judged in
    let s = c.args.check.renderer.now in
    let t' = texts r'.heading_text r'.run_text r'.finding_text r'.end_text c.args.second.now two.chart in
    let before = g.W.Write.contents c.args.writer.now in
    let after = g.W.Write.contents c.write_by.new.writer in
    let h : Heading = c.in_ok-heading.heading in
    let heading = c.in_ok-heading.ensures
    ∙ ap (λ (x : Selected). heading_of x.judged x.closest x.allowed (cause_in x.judged)) c.in_ok-listing.ensures
    ∙ ap (λ (l : LeftOut). heading_of e q.closest l (cause_in e)) c.left_of-left.ensures in
    let judged = ap (λ (x : Selected). x.judged) c.in_ok-listing.ensures in
    let Written : EnforcedChart → Drawing → LeftOut → Type 0 = λ x d l.
    (text : List ℕ) → (xs ys : List ℕ)
    × ((runs : ℕ × ℕ → List ℕ) × AreShown q.short (wiring_of x) runs × (xs ≡ listed_text (texts r.heading_text r.run_text r.finding_text r.end_text s x.chart) x q m false runs))
    × ((runs : ℕ × ℕ → List ℕ) × AreShown q.short (wiring_of two) runs × (ys ≡ rounds_from t' two q (length m.stale.now) runs h (told_of d two l)))
    × (text ≡ xs ++ ys) → Writes c.write_by.result before after text in
    let known : LeftOut = c.args.rounds.listing.now.allowed in
    let d = c.args.rounds.numbers.now in
    answers_rounds c.the_witness_reverses.ensures.exists c.short_witnesses_show.ensures.exists q m e c.facts-2.ensures.order c.facts-2.ensures.chart
    (texts r.heading_text r.run_text r.finding_text r.end_text s e.chart)
    two (subst IsEnforced c.enforced.ensures c.facts.ensures.order) (subst (λ (x : EnforcedChart). IsAccepted x.chart) c.enforced.ensures c.facts.ensures.chart) t'
    (Ok c.totals_in-totals.result) before after h heading
    (rw c.in-Ok.is at (subst (λ (l : LeftOut). Written e e.chart l) c.requires.kinds (subst (λ (y : Drawing). Written e y known) c.requires.one (subst (λ (x : EnforcedChart). Written x d known) judged c.write_by.ensures.written))))
    (c.totals_in-totals.ensures ∙ ap (λ (n : ℕ). totals_in q.most (length m.stale.now) (Some n) h)
    (c.in_ok-count.ensures ∙ ap₂ (λ (y : Drawing) (l : LeftOut). length (told_of y two l)) c.requires.one c.requires.kinds))

pub returns : goal.returns
returns g c =
    let r = g.R.Renderer in
    let r' = g.S.Renderer in
    let q = c.args.check.options in
    let m = c.args.check.marking in
    let e = c.args.check.enforced in
    let two = c.args.rounds.listing.now.judged in
    let s = c.args.check.renderer.now in
    let t' = texts r'.heading_text r'.run_text r'.finding_text r'.end_text c.args.second.now two.chart in
    let before = g.W.Write.contents c.args.writer.now in
    let after = g.W.Write.contents c.write_by.new.writer in
    let h : Heading = c.in_ok-heading.heading in
    let heading = c.in_ok-heading.ensures
    ∙ ap (λ (x : Selected). heading_of x.judged x.closest x.allowed (cause_in x.judged)) c.in_ok-listing.ensures
    ∙ ap (λ (l : LeftOut). heading_of e q.closest l (cause_in e)) c.left_of-left.ensures in
    let judged = ap (λ (x : Selected). x.judged) c.in_ok-listing.ensures in
    let Written : EnforcedChart → Drawing → LeftOut → Type 0 = λ x d l.
    (text : List ℕ) → (xs ys : List ℕ)
    × ((runs : ℕ × ℕ → List ℕ) × AreShown q.short (wiring_of x) runs × (xs ≡ listed_text (texts r.heading_text r.run_text r.finding_text r.end_text s x.chart) x q m false runs))
    × ((runs : ℕ × ℕ → List ℕ) × AreShown q.short (wiring_of two) runs × (ys ≡ rounds_from t' two q (length m.stale.now) runs h (told_of d two l)))
    × (text ≡ xs ++ ys) → Writes c.write_by.result before after text in
    let known : LeftOut = c.args.rounds.listing.now.allowed in
    let d = c.args.rounds.numbers.now in
    answers_rounds c.the_witness_reverses.ensures.exists c.short_witnesses_show.ensures.exists q m e c.facts-2.ensures.order c.facts-2.ensures.chart
    (texts r.heading_text r.run_text r.finding_text r.end_text s e.chart)
    two (subst IsEnforced c.enforced.ensures c.facts.ensures.order) (subst (λ (x : EnforcedChart). IsAccepted x.chart) c.enforced.ensures c.facts.ensures.chart) t'
    (Err c.in-Err.fault) before after h heading
    (rw c.in-Err.is at (subst (λ (l : LeftOut). Written e e.chart l) c.requires.kinds (subst (λ (y : Drawing). Written e y known) c.requires.one (subst (λ (x : EnforcedChart). Written x d known) judged c.write_by.ensures.written))))
    tt
