use Rattle.std.proofs.Common.{ap, ◌∙◌, take, ◌+◌, arith}
use Rattle.msc_race.proofs.Pasts.PlaceLemmas.{cut_behind, until_less}
use Rattle.msc_race.proofs.short.up_to.Goals as goal

pub overflow_add-place : goal.overflow_add-place
overflow_add-place c =
    let less = until_less c.args.events.items c.args.f c.requires in
    let place = rw c.deref.ensures.value at c.place_of-place.ensures in
    let size = c.args.events.ok in
    let small = c.args.events.small in
    omega (arith, less, place, size.0, size.1, small)

pub returns : goal.returns
returns c =
    let place = rw c.deref.ensures.value at c.place_of-place.ensures in
    c.truncate.ensures.items ∙ ap (λ n. take (n + 1) c.args.events.items) place ∙ cut_behind c.args.events.items c.args.f c.requires
