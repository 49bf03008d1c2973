use Rattle.std.proofs.Common.{◌≡◌, ◌<◌, ◌++◌, ℕ, List, length, drop}
use Rattle.std.specs.Io.KnownBytes.{Appends}
use Rattle.std.specs.Prelude.{option_map}
use Rattle.msc_report.specs.Reasons.{chain_text}
use Rattle.msc_report.proofs.reasons.write_chain.Given as goal

-- of the chain so much has gone out that the rest of it, from where it stands, is left
abbrev pub invariant-loop-to : goal.invariant-loop-to
invariant-loop-to g l =
    let event_positions = option_map (λ s. s.now) l.event_positions in
    (out : List ℕ) × (chain_text event_positions l.blanks l.chart l.first l.steps ≡ out ++ chain_text event_positions l.blanks l.chart l.from (drop l.to-index l.steps))
    × Appends (g.W.Write.contents l.fn.writer) (g.W.Write.contents l.writer) out × (l.from < length l.chart.events)
