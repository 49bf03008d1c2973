use Rattle.std.proofs.Common.{ℕ, ◌≡◌, ◌∙◌, sym, ap, subst}
use Rattle.msc_chart.specs.Drawings.{Drawing}
use Rattle.msc_chart.specs.Rounds.{event_of, number_of, two_rounds}
use Rattle.msc_ready.specs.Rounds.{BeginsSecond}
use Rattle.msc_ready.proofs.Between.{known_two, line_start_of, second_begins, second_known, second_on}
use Rattle.msc_ready.proofs.rounds.RoundBlockedPairs.second_round.Goals as goal

-- the number that is answered
number_is : (d : Drawing) (start first n : ℕ) → first ≡ event_of 2 d.events start → n ≡ number_of 2 d.events first 1
    → n ≡ number_of 2 d.events (event_of 2 d.events start) 1
number_is d start first n event value = value ∙ ap (λ (e : ℕ). number_of 2 d.events e 1) event

pub place-first-requires : goal.place-first-requires
place-first-requires c =
    let d = c.args.self.now.numbers.now in
    let chart = c.chart-chart.ensures ∙ ap (λ r. r.chart) c.ready-2.ensures ∙ c.args.self.now.two in
    let known = rw c.args.self.now.two at c.requires.known in
    let begin = line_start_of d c.args.x c.instance_of.result c.line-start.result.0 c.line-start.result.1 known (rw chart at c.instance_of.ensures) (rw chart at c.line-start.ensures.range) in
    record { known = known_two d (two_rounds d) c.line-start.result.0 (λ _. two_rounds d) begin.known }

pub returns-clause-begins : goal.returns-clause-begins
returns-clause-begins c =
    let d = c.args.self.now.numbers.now in
    let chart = c.chart-chart.ensures ∙ ap (λ r. r.chart) c.ready-2.ensures ∙ c.args.self.now.two in
    let known = rw c.args.self.now.two at c.requires.known in
    let begin = line_start_of d c.args.x c.instance_of.result c.line-start.result.0 c.line-start.result.1 known (rw chart at c.instance_of.ensures) (rw chart at c.line-start.ensures.range) in
    let is = number_is d c.line-start.result.0 c.place-first.result.0 c.number.result c.place-first.ensures.event c.number.ensures.value in
    subst (BeginsSecond d c.args.x) (sym is) (second_begins d c.requires.accepted c.args.x c.line-start.result.0 begin)

pub returns-clause-known : goal.returns-clause-known
returns-clause-known c =
    let d = c.args.self.now.numbers.now in
    let chart = c.chart-chart.ensures ∙ ap (λ r. r.chart) c.ready-2.ensures ∙ c.args.self.now.two in
    let known = rw c.args.self.now.two at c.requires.known in
    let begin = line_start_of d c.args.x c.instance_of.result c.line-start.result.0 c.line-start.result.1 known (rw chart at c.instance_of.ensures) (rw chart at c.line-start.ensures.range) in
    let is = number_is d c.line-start.result.0 c.place-first.result.0 c.number.result c.place-first.ensures.event c.number.ensures.value in
    rw (c.args.self.now.two, is) (second_known d c.requires.accepted c.args.x c.line-start.result.0 begin)

pub returns-clause-line : goal.returns-clause-line
returns-clause-line c =
    let d = c.args.self.now.numbers.now in
    let chart = c.chart-chart.ensures ∙ ap (λ r. r.chart) c.ready-2.ensures ∙ c.args.self.now.two in
    let known = rw c.args.self.now.two at c.requires.known in
    let begin = line_start_of d c.args.x c.instance_of.result c.line-start.result.0 c.line-start.result.1 known (rw chart at c.instance_of.ensures) (rw chart at c.line-start.ensures.range) in
    let is = number_is d c.line-start.result.0 c.place-first.result.0 c.number.result c.place-first.ensures.event c.number.ensures.value in
    rw (c.args.self.now.two, is) (second_on d c.requires.accepted c.args.x c.line-start.result.0 begin)
