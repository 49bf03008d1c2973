use Rattle.std.proofs.Common.{ℕ, ◌<◌, ◌+◌, List, ◌++◌, length, ap, sym, ◌∙◌, append_assoc, arith}
use Rattle.std.proofs.lemmas.List.{drop_more}
use Rattle.std.specs.Prelude.{get_or, drop, option_map}
use Rattle.msc_print.proofs.KnownBytes.{Appends-append}
use Rattle.msc_report.specs.Lines.{pair_text}
use Rattle.msc_report.specs.Reasons.{chain_text, step_word}
use Rattle.msc_report.proofs.reasons.write_chain.Goals as goal

-- src/reasons.rt:62:5
pub loop-to-preserved : goal.loop-to-preserved
loop-to-preserved g c =
    let steps = c.args.steps.now in
    let d = c.args.chart.now in
    let blanks = c.args.blanks.now in
    let event_positions = option_map (λ s. s.now) c.args.event_positions in
    let at : ℕ = c.loop-to.to-index in
    let from : ℕ = c.loop-to.from in
    let to : ℕ = get_or steps at 0 in
    let inv = c.loop-to.invariant in
    let within : at < length steps = omega (arith, c.loop-to-test.true) in
    let line : List ℕ = pair_text event_positions blanks (step_word d from to) d from to in (
      inv.0 ++ line,
      inv.1 ∙ ap (λ (rest : List ℕ). inv.0 ++ chain_text event_positions blanks d from rest) (drop_more steps at 0 within)
          ∙ sym (append_assoc inv.0 line (chain_text event_positions blanks d to (drop (at + 1) steps))),
      Appends-append _ _ _ inv.0 line inv.2 c.in_ok-write_step.ensures,
      c.requires.steps_known at 0 within,
    )
