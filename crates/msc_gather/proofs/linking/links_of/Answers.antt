use Rattle.std.proofs.Common.{arith}
use Rattle.std.proofs.lemmas.List.{length-map}
use Rattle.msc_gather.specs.Held.{log_lists}
use Rattle.msc_gather.proofs.LinkLemmas.{joined_known, joined_once}
use Rattle.msc_gather.proofs.Tables.{no_links, more_links, all_links}
use Rattle.msc_gather.proofs.linking.links_of.Goals as goal

pub of-requires-clause-known : goal.of-requires-clause-known
of-requires-clause-known c =
    rw (c.deref.ensures.value, c.in_ok-events.ensures)
    (λ e there. (joined_known c.requires.logs e there).0)

pub of-requires-clause-once : goal.of-requires-clause-once
of-requires-clause-once c = rw (c.deref.ensures.value, c.in_ok-events.ensures)
    (joined_once c.requires.logs)

pub loop-x-init : goal.loop-x-init
loop-x-init c = no_links _ _ _ c.new-links.ensures.items

pub link-requires-clause-known : goal.link-requires-clause-known
link-requires-clause-known c = omega (arith, c.loop-x-test.true, c.events-x-end.ensures.number)

pub link-requires-clause-marks : goal.link-requires-clause-marks
link-requires-clause-marks c = c.requires.marks.long

pub link-requires-clause-long : goal.link-requires-clause-long
link-requires-clause-long c = c.in_ok-taken.ensures.long

pub link-requires-clause-queues : goal.link-requires-clause-queues
link-requires-clause-queues c = c.in_ok-taken.ensures.queues

pub loop-x-preserved : goal.loop-x-preserved
loop-x-preserved c =
    let many = length-map c.args.logs.now (λ v. v.items) in
    let taken = rw (c.deref.ensures.value, c.in_ok-events.ensures) at c.in_ok-taken.ensures in
    let is_link = c.link.ensures (log_lists c.args.logs.now) (rw many c.requires.seated)
    (rw many c.requires.logs) c.requires.marks taken in
    more_links c.link.result c.loop-x.invariant is_link c.in_ok-push.ensures.items

pub returns : goal.returns
returns c =
    all_links
    (omega (arith, c.loop-x.auto, c.loop-x-test.false, c.events-x-end.ensures.number))
    c.loop-x.invariant
