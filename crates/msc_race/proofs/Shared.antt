-- The lemmas on lists, on steps, on numbers and on tests that this crate takes from the one below.
pub use Rattle.msc_chart.proofs.ListLemmas.{by_test, clash, occurs-left, occurs-push, until-within, until-append, Steps-map, Steps-push, step_at, first_occurs, before_first_fails, filter-first}
pub use Rattle.msc_chart.proofs.Numbers.{count_below, count-le, count-less, find_below, descend, any_below, none_of_any, some_of_any, any_from, sum_below, sum-less}
