use Rattle.std.proofs.Common.{◌≡◌, ◌≢◌, ℕ, length, get_or, ap, sym, ◌∙◌, subst, arith}
use Rattle.std.proofs.lemmas.Bool.{eqb-true, eq-eqb}
use Rattle.msc_chart.specs.Charts.{partner}
use Rattle.msc_chart.specs.Orders.{queue}
use Rattle.msc_chart.specs.Runs.{state}
use Rattle.msc_race.proofs.Making.LinkLemmas.{any_default}
use Rattle.msc_race.proofs.Runs.EventLemmas.{input_below, input_not_local}
use Rattle.msc_ready.specs.Beginnings.{IsHead}
use Rattle.msc_ready.specs.Held.{wiring_of}
use Rattle.msc_ready.proofs.Begun.Heads.{head_first}
use Rattle.msc_ready.proofs.beginning.Beginning.has_arrived.Goals as goal

pub queue-requires-clause-known : goal.queue-requires-clause-known
queue-requires-clause-known c = input_below _ _ c.requires.input

pub queue-requires-clause-message : goal.queue-requires-clause-message
queue-requires-clause-message c = input_not_local _ _ c.requires.input

pub index-head-requires : goal.index-head-requires
index-head-requires c =
    let d = c.args.ready.now.chart in
    let at = c.queue.ensures in
    let below = c.queue_numbers_are_bounded.ensures.numbers c.args.ready.now.queues d c.args.x c.facts.ensures.chart
    (input_below d.events c.args.x c.requires.input) (input_not_local d.events c.args.x c.requires.input) in
    let each = c.requires.heads.each in
    omega (arith, at, below, each)

pub other_end-requires : goal.other_end-requires
other_end-requires c = rw c.chart.ensures (input_below _ _ c.requires.input)

pub returns : goal.returns
returns c =
    let d = c.args.ready.now.chart in
    let chart = wiring_of c.args.ready.now in
    let heads = c.args.self.now.heads.items in
    let input = input_below d.events c.args.x c.requires.input in
    let at = c.queue.ensures in
    let q : ℕ = queue chart c.args.x in
    let below = c.queue_numbers_are_bounded.ensures.numbers c.args.ready.now.queues d c.args.x c.facts.ensures.chart
    input (input_not_local d.events c.args.x c.requires.input) in
    let each = c.requires.heads.each in
    let read : c.index-head.result.now ≡ get_or heads q 0 =
    c.index-head.ensures ∙ any_default heads c.queue.result c.index-head.result.now 0 (omega (arith, at, below, each)) ∙ ap (λ (k : ℕ). get_or heads k 0) at in
    let head : IsHead (length d.events) (state chart q c.args.self.now.run.items) c.index-head.result.now =
    subst (λ (h : ℕ). IsHead (length d.events) (state chart q c.args.self.now.run.items) h) (sym read) (c.requires.heads.head q below) in
    let other = rw c.chart.ensures at c.other_end.ensures.value in
    let within = c.facts.ensures.chart.matched.in_range c.args.x input in
    let differs : partner d.events c.args.x ≢ length d.events = λ same. omega (arith, same, within) in
    let told = head_first (length d.events) _ c.index-head.result.now (partner d.events c.args.x) head differs in
    (λ h. told.0 (eqb-true _ _ h ∙ other), λ first. eq-eqb _ _ (told.1 first ∙ sym other))
