use Rattle.std.proofs.Common.{◌≡◌, ◌++◌, ◌∷◌, drop}
use Rattle.json.specs.Token.{begin_array}
use Rattle.msc_record.proofs.MarkLemmas.{steps_tokens}
use Rattle.msc_record.proofs.flow.write_steps.Given as goal

-- the events so far follow the bracket; those that are left are to follow
abbrev pub invariant-loop-step : goal.invariant-loop-step
invariant-loop-step l = record {
  before : l.writer.before ≡ l.fn.writer.before;
  tokens : l.writer.tokens ++ steps_tokens l.fn.uri (drop l.step-index l.steps) ≡ l.fn.writer.tokens ++ (begin_array ∷ steps_tokens l.fn.uri l.steps);
}
