use Rattle.std.proofs.Common.{◌≡◌, length, ap, ◌∙◌, arith}
use Rattle.std.specs.Vec.{with_items}
use Rattle.std.proofs.lemmas.List.{with_items_is}
use Rattle.bit_rows.specs.Rows.{word_count}
use Rattle.bit_rows.proofs.Bits.{words_enough}
use Rattle.msc_race.proofs.Making.RowLemmas.{row_from}
use Rattle.msc_race.proofs.choosing.Choice.free.Goals as goal

pub clear-requires : goal.clear-requires
clear-requires c =
    let parted = with_items_is c.in_ok-row.row c.part.new.row (c.part.auto.row ∙ c.deref_mut.ensures.len) in
    let size = c.part.auto.row ∙ ap length c.deref_mut.ensures.value ∙ c.in_ok-row.ensures.words in
    let now = ap length (c.deref_mut-2.ensures.value ∙ parted) ∙ size in
    let number = c.events.ensures.number in
    let enough = words_enough c.events.result in
    let known = c.requires.settled.known in
    omega (arith, now, number, enough, known)

pub returns-clause-row : goal.returns-clause-row
returns-clause-row c =
    let parted = with_items_is c.in_ok-row.row c.part.new.row (c.part.auto.row ∙ c.deref_mut.ensures.len) in
    let size = c.part.auto.row ∙ ap length c.deref_mut.ensures.value ∙ c.in_ok-row.ensures.words in
    let cleared = with_items_is (with_items c.in_ok-row.row c.part.new.row) c.clear.new.row (c.clear.auto.row ∙ c.deref_mut-2.ensures.len) in
    let now = c.clear.auto.row ∙ ap length (c.deref_mut-2.ensures.value ∙ parted) ∙ size in
    let number = c.events.ensures.number in
    let few = c.requires.settled.accepted.few_events in
    let words : length c.clear.new.row ≡ word_count (length c.args.self.now.wiring.chart.now.events) = rw number at now in
    rw cleared (row_from _ c.clear.new.row words (omega (arith, few)))
