use Rattle.std.proofs.Common.{true}
use Rattle.msc_reason.proofs.CountingLaws.{closest_without, none_closest, spanned}
use Rattle.msc_reason.proofs.laws.every_race_that_counts_spans_a_closest_one.Goals as goal

pub returns-clause-spans : goal.returns-clause-spans
returns-clause-spans c e is accepted allowed causes are x y its =
    spanned e is accepted c.each_race_has_one_kind.ensures.one allowed causes are x y its

pub returns-clause-none : goal.returns-clause-none
returns-clause-none c e is accepted allowed causes are =
    none_closest e is accepted c.each_race_has_one_kind.ensures.one allowed causes are

pub returns-clause-all : goal.returns-clause-all
returns-clause-all c e is accepted allowed empty x y = closest_without e (c.ends_share_queues.ensures e.queues e.chart accepted) allowed empty x y

pub returns-clause-list : goal.returns-clause-list
returns-clause-list c e is accepted allowed causes are empty =
    let listed = c.what_counts_is_listed.ensures.closest e is accepted allowed causes are in
    let closest = closest_without e (c.ends_share_queues.ensures e.queues e.chart accepted) allowed empty in
    record {
      closest = λ x y. (λ its. (listed x y).0 ((closest x y).1 its), λ there. (closest x y).0 ((listed x y).1 there));
      ascending = (c.what_counts_is_listed.ensures.ascending e allowed true causes).1;
    }
