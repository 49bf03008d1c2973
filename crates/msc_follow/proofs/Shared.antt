-- The lemmas on lists, on steps and on events that this crate takes from those below.
pub use Rattle.msc_chart.proofs.ListLemmas.{by_test, clash, first_occurs, occurs_at, IsDistinct, Steps-map}
pub use Rattle.msc_race.proofs.Pasts.Pigeons.{head_or_behind}
pub use Rattle.msc_race.proofs.Runs.EventLemmas.{before_differs, before_parts, controlled_or_input, input_below, not_both, output_below, output_controlled, partner_of_input, partner_of_output}
pub use Rattle.msc_chart.proofs.Drawn.{output_not_local}
