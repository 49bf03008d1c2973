use Rattle.std.proofs.Common.{◌≡◌, ℕ, Bool, not, List, length, nat_eq, Ok, Err, refl, inl, sym, ap, ◌∙◌, subst}
use Rattle.std.proofs.lemmas.Result.{err_from_is_err_and}
use Rattle.msc_chart.specs.Rounds.{two_rounds}
use Rattle.msc_judge.specs.Findings.{Answers}
use Rattle.msc_judge.specs.Rounds.{AnswersRounds}
use Rattle.msc_race.specs.Wired.{IsEnforced}
use Rattle.msc_reason.specs.Selected.{Selected}
use Rattle.msc_report.specs.Following.{ring_steps, AreStepsOf}
use Rattle.msc_text.specs.Judging.{asked, has_ring, round_texts_in, texts_in}
use Rattle.msc_text.proofs.Barred.{steps_known, told_known}
use Rattle.msc_text.proofs.Judgements.{told_once, told_unrolled}
use Rattle.msc_text.proofs.judging.judge_by.Goals as goal

pub returns-in_err-ring : goal.returns-in_err-ring
returns-in_err-ring g c marks marked =
    let exit = err_from_is_err_and c.from_residual.result c.from_residual.ensures.1 in
    rw (exit.1, exit.2) (inl refl)

pub returns-in_err-steps : goal.returns-in_err-steps
returns-in_err-steps g c marks marked =
    let exit = err_from_is_err_and c.from_residual-in_err-steps.result c.from_residual-in_err-steps.ensures.1 in
    rw (exit.1, exit.2) (inl refl)

-- the steps of the ring are steps of the chart
pub judge_in-requires-clause-ring : goal.judge_in-requires-clause-ring
judge_in-requires-clause-ring g c =
    let d = c.args.enforced.chart in
    let steps = c.as_slice-2.ensures.value ∙ c.in_ok-steps.ensures ∙ ap ring_steps c.as_slice.ensures.value in
    subst (AreStepsOf d) (sym steps) (steps_known d c.in_ok-ring.ring.items (told_known d c.args.enforced.queues c.args.format c.in_ok-ring.ring.items c.in_ok-ring.ensures))

pub judge_rounds_of-requires-clause-ring : goal.judge_rounds_of-requires-clause-ring
judge_rounds_of-requires-clause-ring g c =
    let d = c.args.enforced.chart in
    let steps = c.as_slice-2.ensures.value ∙ c.in_ok-steps.ensures ∙ ap ring_steps c.as_slice.ensures.value in
    subst (AreStepsOf d) (sym steps) (steps_known d c.in_ok-ring.ring.items (told_known d c.args.enforced.queues c.args.format c.in_ok-ring.ring.items c.in_ok-ring.ensures))

-- whether there is a ring
never_so : {b : Bool} (ring : List ℕ) → b ≡ nat_eq (length ring) 0 → not b ≡ has_ring ring
never_so ring is = ap not is

pub returns-in_err-totals : goal.returns-in_err-totals
returns-in_err-totals g c marks marked =
    let exit = err_from_is_err_and c.from_residual-in_err-totals.result c.from_residual-in_err-totals.ensures.1 in
    let ring = c.in_ok-ring.ring.items in
    let steps = c.as_slice-2.ensures.value ∙ c.in_ok-steps.ensures ∙ ap ring_steps c.as_slice.ensures.value in
    rw (c.in_default.is, exit.1, exit.2) (told_once g.W.Write.contents c.args.enforced c.args.options marks c.args.marking c.args.format ring (not c.is_empty-never.result) (Err c.in_err-totals.field-0.0) c.args.writer.now c.judge_in.new.writer
    c.facts.ensures.chart c.facts.ensures.order marked c.in_ok-ring.ensures (never_so ring (c.is_empty-never.ensures ∙ ap (λ (n : ℕ). nat_eq n 0) c.in_ok-ring.ring.ok.0))
    (subst (λ (l : List (ℕ × ℕ)). Answers c.args.enforced (asked c.args.format c.args.options) c.args.marking (texts_in c.args.format l c.args.enforced.chart) (Err c.in_err-totals.field-0.0) (g.W.Write.contents c.args.writer.now) (g.W.Write.contents c.judge_in.new.writer))
    steps c.in_err-totals.ensures))

pub returns-in_default : goal.returns-in_default
returns-in_default g c marks marked =
    let ring = c.in_ok-ring.ring.items in
    let steps = c.as_slice-2.ensures.value ∙ c.in_ok-steps.ensures ∙ ap ring_steps c.as_slice.ensures.value in
    rw c.in_default.is (told_once g.W.Write.contents c.args.enforced c.args.options marks c.args.marking c.args.format ring (not c.is_empty-never.result) (Ok c.in_ok-totals.totals) c.args.writer.now c.judge_in.new.writer
    c.facts.ensures.chart c.facts.ensures.order marked c.in_ok-ring.ensures (never_so ring (c.is_empty-never.ensures ∙ ap (λ (n : ℕ). nat_eq n 0) c.in_ok-ring.ring.ok.0))
    (subst (λ (l : List (ℕ × ℕ)). Answers c.args.enforced (asked c.args.format c.args.options) c.args.marking (texts_in c.args.format l c.args.enforced.chart) (Ok c.in_ok-totals.totals) (g.W.Write.contents c.args.writer.now) (g.W.Write.contents c.judge_in.new.writer))
    steps c.in_ok-totals.ensures))

pub returns-in_err-found : goal.returns-in_err-found
returns-in_err-found g c marks marked =
    let exit = err_from_is_err_and c.from_residual-in_err-found.result c.from_residual-in_err-found.ensures.1 in
    let listing = c.in_ok-listing.ensures in
    let same = rw c.in-Some.is at c.requires.rounds in
    let ring = c.in_ok-ring.ring.items in
    let steps = c.as_slice-2.ensures.value ∙ c.in_ok-steps.ensures ∙ ap ring_steps c.as_slice.ensures.value in
    let e = c.args.enforced in
    let two = c.in_ok-listing.listing.judged in
    rw (c.in-Some.is, exit.1, exit.2) (told_unrolled g.W.Write.contents e two c.args.options marks c.args.marking c.args.format ring (not c.is_empty-never.result) (Err c.in_err-found.field-0.0) c.args.writer.now c.judge_rounds_of.new.writer
    c.facts.ensures.chart c.facts.ensures.order marked c.in_ok-ring.ensures (never_so ring (c.is_empty-never.ensures ∙ ap (λ (n : ℕ). nat_eq n 0) c.in_ok-ring.ring.ok.0))
    (ap (λ (s : Selected). s.judged.chart) listing ∙ c.in_ok-both.ensures.chart ∙ c.two.ensures ∙ ap two_rounds same)
    (ap (λ (s : Selected). s.judged.queues) listing ∙ c.in_ok-both.ensures.queues ∙ c.queues.ensures)
    (subst (λ (s : Selected). IsEnforced s.judged) (sym listing) c.facts-2.ensures.order)
    (subst (λ (l : List (ℕ × ℕ)). AnswersRounds e two (asked c.args.format c.args.options) c.args.marking (texts_in c.args.format l e.chart) (round_texts_in c.args.format l e.chart) (Err c.in_err-found.field-0.0) (g.W.Write.contents c.args.writer.now) (g.W.Write.contents c.judge_rounds_of.new.writer))
    steps c.in_err-found.ensures))

pub returns : goal.returns
returns g c marks marked =
    let listing = c.in_ok-listing.ensures in
    let same = rw c.in-Some.is at c.requires.rounds in
    let ring = c.in_ok-ring.ring.items in
    let steps = c.as_slice-2.ensures.value ∙ c.in_ok-steps.ensures ∙ ap ring_steps c.as_slice.ensures.value in
    let e = c.args.enforced in
    let two = c.in_ok-listing.listing.judged in
    rw c.in-Some.is (told_unrolled g.W.Write.contents e two c.args.options marks c.args.marking c.args.format ring (not c.is_empty-never.result) (Ok c.in_ok-found.found) c.args.writer.now c.judge_rounds_of.new.writer
    c.facts.ensures.chart c.facts.ensures.order marked c.in_ok-ring.ensures (never_so ring (c.is_empty-never.ensures ∙ ap (λ (n : ℕ). nat_eq n 0) c.in_ok-ring.ring.ok.0))
    (ap (λ (s : Selected). s.judged.chart) listing ∙ c.in_ok-both.ensures.chart ∙ c.two.ensures ∙ ap two_rounds same)
    (ap (λ (s : Selected). s.judged.queues) listing ∙ c.in_ok-both.ensures.queues ∙ c.queues.ensures)
    (subst (λ (s : Selected). IsEnforced s.judged) (sym listing) c.facts-2.ensures.order)
    (subst (λ (l : List (ℕ × ℕ)). AnswersRounds e two (asked c.args.format c.args.options) c.args.marking (texts_in c.args.format l e.chart) (round_texts_in c.args.format l e.chart) (Ok c.in_ok-found.found) (g.W.Write.contents c.args.writer.now) (g.W.Write.contents c.judge_rounds_of.new.writer))
    steps c.in_ok-found.ensures))
