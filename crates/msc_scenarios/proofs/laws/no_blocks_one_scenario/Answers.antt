use Rattle.std.proofs.Common.{◌+◌, map, length, sym, ap, ◌∙◌}
use Rattle.msc_mermaid.specs.declared.TheConstants.{DEPTH_LIMIT}
use Rattle.msc_scenarios.specs.Counting.{capped}
use Rattle.msc_scenarios.proofs.ManyLemmas.{as_many}
use Rattle.msc_scenarios.proofs.QuietLemmas.{quiet_choose}
use Rattle.msc_scenarios.proofs.laws.no_blocks_one_scenario.Goals as goal

pub returns : goal.returns
returns c = λ rounds d h.
    let none = ap (map (λ w. w.choices)) (quiet_choose (DEPTH_LIMIT + 1) rounds d.statements h) in
    (none, sym (as_many (DEPTH_LIMIT + 1) rounds d.statements) ∙ ap (λ xs. capped (length xs)) none)
