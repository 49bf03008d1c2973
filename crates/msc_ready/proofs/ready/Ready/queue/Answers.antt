use Rattle.std.proofs.Common.{◌∙◌, arith, subst}
use Rattle.std.proofs.lemmas.List.{get_or_read}
use Rattle.msc_ready.specs.Held.{ReadyChart, wiring_of}
use Rattle.msc_ready.specs.QueueNumbers.{AreQueueNumbers}
use Rattle.msc_ready.proofs.ready.Ready.queue.Goals as goal

pub index-requires : goal.index-requires
index-requires c =
    let are = subst (λ (r : ReadyChart). AreQueueNumbers (wiring_of r) c.self.inside.queue_numbers.items)
    c.self.view_is c.self.invariant.2 in
    let many = are.many in
    omega (arith, many, c.requires.known)

pub returns : goal.returns
returns c =
    let are = subst (λ (r : ReadyChart). AreQueueNumbers (wiring_of r) c.self.inside.queue_numbers.items)
    c.self.view_is c.self.invariant.2 in
    let many = are.many in
    get_or_read c.self.inside.queue_numbers.items c.args.e c.index.result.now (omega (arith, many, c.requires.known))
    c.index.ensures 0 ∙ are.each c.args.e c.requires.known c.requires.message
