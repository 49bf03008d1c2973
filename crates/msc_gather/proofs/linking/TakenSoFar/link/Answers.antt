use Rattle.std.proofs.Common.{ℕ, ◌≡◌, true, Option, Some, None, inl, inr, sym, ap, subst, ◌∙◌, arith}
use Rattle.std.proofs.lemmas.List.{get_or_default}
use Rattle.msc_chart.specs.Charts.{is_input}
use Rattle.msc_chart.specs.Wirings.{wired_by}
use Rattle.msc_chart.proofs.ListLemmas.{clash}
use Rattle.msc_chart.proofs.Drawn.{output_or_input, output_not_local}
use Rattle.msc_gather.specs.Heads.{IsLink}
use Rattle.msc_gather.specs.Marks.{is_marked}
use Rattle.msc_gather.proofs.LinkLemmas.{link_local, link_input, link_marked, link_left}
use Rattle.msc_gather.proofs.linking.TakenSoFar.link.Goals as goal

pub returns-then-is_local : goal.returns-then-is_local
returns-then-is_local c = λ logs seated sound marks holds.
    link_local logs seated c.args.x (sym c.is_local.ensures ∙ c.if-is_local.true)

pub returns-then-not-is_output : goal.returns-then-not-is_output
returns-then-not-is_output c = λ logs seated sound marks holds.
    let away = sym c.is_local.ensures ∙ c.if-is_local.false in
    let input : is_input c.args.w.now.chart.now.events c.args.x ≡ true =
    elim (output_or_input c.args.w.now.chart.now.events c.args.x c.requires.known away) [
      | inl o ↦ clash (c.is_output.ensures ∙ o) c.if-not-is_output.true
      | inr i ↦ i
    ] in
    subst (λ (w : ℕ). IsLink (wired_by c.args.w.now) logs c.args.x (Some w))
    (sym c.other_end-other.ensures.value)
    (link_input logs seated c.args.x input)

pub returns-then-marks-other : goal.returns-then-marks-other
returns-then-marks-other c = λ logs seated sound marks holds.
    let output = sym c.is_output.ensures ∙ c.if-not-is_output.false in
    let marked = ap (is_marked c.args.marks.now) (sym c.other_end-other.ensures.value)
    ∙ c.if-marks-other.true in
    let read = c.index.ensures
    ∙ get_or_default c.args.self.now.before.items c.args.x c.index.result.now None
    (omega (arith, c.requires.known, c.requires.long)) in
    subst (λ (o : Option ℕ). IsLink (wired_by c.args.w.now) logs c.args.x o) (sym read)
    (link_marked logs seated c.args.x sound marks holds output marked)

pub returns : goal.returns
returns c = λ logs seated sound marks holds.
    let output = sym c.is_output.ensures ∙ c.if-not-is_output.false in
    let unmarked = ap (is_marked c.args.marks.now) (sym c.other_end-other.ensures.value)
    ∙ c.if-marks-other.false in
    let inside = c.requires.queues c.args.x c.requires.known
    (output_not_local c.args.w.now.chart.now.events c.args.x output) in
    let read = c.index-2.ensures
    ∙ get_or_default c.args.self.now.last.items c.queue-at.result c.index-2.result.now None
    (omega (arith, inside, c.queue-at.ensures)) in
    subst (λ (o : Option ℕ). IsLink (wired_by c.args.w.now) logs c.args.x o)
    (sym (rw c.queue-at.ensures at read))
    (link_left logs seated c.args.x sound marks holds output unmarked)
