use Rattle.msc_chart.proofs.RoundEventLaws.{round_by_round, stay_as_they_are, of_one_round, texts_stay, names_stay}
use Rattle.msc_chart.proofs.laws.lines_are_done_round_by_round.Goals as goal

pub returns : goal.returns
returns c = record { drawn = round_by_round; events = stay_as_they_are; messages = of_one_round; texts = texts_stay; names = names_stay }
