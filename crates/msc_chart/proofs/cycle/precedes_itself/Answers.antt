use Rattle.std.proofs.Common.{◌∙◌, inl, inr, sym, arith}
use Rattle.std.proofs.lemmas.Bool.{lt-ltb, ltb-true}
use Rattle.msc_chart.specs.Charts.{kind, partner}
use Rattle.msc_chart.proofs.Drawn.{output_from, not_both}
use Rattle.msc_chart.proofs.CycleLemmas.{found, cycle_from}
use Rattle.msc_chart.proofs.cycle.precedes_itself.Goals as goal

pub returns-then-is_output : goal.returns-then-is_output
unfolding kind
returns-then-is_output c = (
  λ below. cycle_from _ _ _ _ c.requires.matched c.requires.lines c.reach.ensures.sound c.requires.from (inl (ltb-true _ _ below)),
  λ cycle. elim (found _ _ _ _ c.requires.matched c.requires.lines c.reach.ensures.sound c.requires.from cycle c.reach.ensures.closed) [
    | inl below ↦ lt-ltb _ _ below
    | inr input ↦ absurd (not_both c.args.events.now c.args.e (output_from c.args.events.now c.args.e c.requires.from (sym c.is_output.ensures ∙ c.if-is_output.true)) input.0)
  ],
)

pub returns-else-low-event : goal.returns-else-low-event
unfolding partner
returns-else-low-event c = (
  λ passed. cycle_from _ _ _ _ c.requires.matched c.requires.lines c.reach.ensures.sound c.requires.from (inr (c.is_passed.ensures.0 passed)),
  λ cycle. elim (found _ _ _ _ c.requires.matched c.requires.lines c.reach.ensures.sound c.requires.from cycle c.reach.ensures.closed) [
    | inl below ↦ absurd (omega arith)
    | inr input ↦ c.is_passed.ensures.1 input.1
  ],
)
