-- The lemmas on lists, on steps, on numbers and on tests that this crate takes from those below.
pub use Rattle.msc_chart.proofs.ListLemmas.{by_test, clash, occurs-head, occurs-left, occurs-right, occurs-push, occurs_other, until-within, until-append, until-other, until-self, Steps-append, Steps-map, Steps-parts, Steps-push, step_at, first_occurs, before_first_fails, filter-first}
pub use Rattle.msc_chart.proofs.Numbers.{count_below, count-less, find_below, descend, any_below, none_of_any, some_of_any, any_from, sum_below, sum-less, count-le}
pub use Rattle.msc_chart.proofs.Left.{is_left, left_from, left_parts, left_less}
pub use Rattle.msc_chart.proofs.Waiting.{waiting_from, waiting_parts, taken}
pub use Rattle.msc_race.proofs.Runs.EventLemmas.{before_differs, before_parts, controlled_no_input, controlled_or_input, input_below, not_both, output_below, output_controlled, partner_of_input, partner_of_output}
pub use Rattle.msc_race.proofs.Runs.Standing.{until_swapped, until_until}
