use Rattle.std.proofs.Common.{sym, ◌∙◌, arith}
use Rattle.msc_race.proofs.Making.ComingLemmas.{has_head, has_last, head_read, last_read}
use Rattle.msc_race.proofs.Making.ChangeLemmas.{last_known, sent_first, sent_later}
use Rattle.msc_race.proofs.queued_run.QueuedRun.send.Goals as goal

pub queue-q-requires-clause-message : goal.queue-q-requires-clause-message
queue-q-requires-clause-message c = c.requires.coming.message

pub index-last-requires : goal.index-last-requires
index-last-requires c = let q = c.queue-q.ensures in let len = c.args.self.now.lasts.ok.0 in let within = has_last c.requires.coming in omega (arith, within, q, len)

pub index_mut-requires : goal.index_mut-requires
index_mut-requires c = let q = c.queue-q.ensures in let len = c.args.self.now.lasts.ok.0 in let within = has_last c.requires.coming in omega (arith, within, q, len)

pub index-requires : goal.index-requires
index-requires c = let q = c.queue-q.ensures in let len = c.args.self.now.heads.ok.0 in let within = has_head c.requires.coming in omega (arith, within, q, len)

pub index_mut-requires-then-index-events : goal.index_mut-requires-then-index-events
index_mut-requires-then-index-events c = let q = c.queue-q.ensures in let len = c.args.self.now.heads.ok.0 in let within = has_head c.requires.coming in omega (arith, within, q, len)

pub index_mut-requires-else-index-events : goal.index_mut-requires-else-index-events
index_mut-requires-else-index-events c =
    let here = c.requires.coming in
    let last = last_read here _ _ _ c.queue-q.ensures c.index-last.ensures in
    let head = head_read here _ _ _ c.queue-q.ensures c.index.ensures in
    let known = last_known here (λ none. c.if-index-events.false (head ∙ none ∙ sym c.events.ensures.number)) in
    let next = here.were.next in
    let len = c.args.self.now.next.ok.0 in
    omega (arith, last, known, next, len)

pub returns-then-index-events-clause-queues : goal.returns-then-index-events-clause-queues
returns-then-index-events-clause-queues c =
    let here = c.requires.coming in
    let head = head_read here _ _ _ c.queue-q.ensures c.index.ensures in
    rw c.queue-q.ensures (sent_first here c.requires.output (sym head ∙ c.if-index-events.true ∙ c.events.ensures.number)
    c.put_where.new.self c.put_where.ensures.words (rw c.other_end.ensures.value at c.put_where.ensures.numbers))

pub returns-else-index-events-clause-queues : goal.returns-else-index-events-clause-queues
returns-else-index-events-clause-queues c =
    let here = c.requires.coming in
    let last = last_read here _ _ _ c.queue-q.ensures c.index-last.ensures in
    let head = head_read here _ _ _ c.queue-q.ensures c.index.ensures in
    rw (last, c.queue-q.ensures) (sent_later here c.requires.output (λ none. c.if-index-events.false (head ∙ none ∙ sym c.events.ensures.number)))
