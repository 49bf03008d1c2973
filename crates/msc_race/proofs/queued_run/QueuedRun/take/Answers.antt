use Rattle.std.proofs.Common.{sym, ◌∙◌, arith}
use Rattle.msc_race.proofs.Making.ComingLemmas.{has_head, has_last, last_read, next_read}
use Rattle.msc_race.proofs.Making.ChangeLemmas.{following_known, taken_last, taken_more}
use Rattle.msc_race.proofs.queued_run.QueuedRun.take.Goals as goal

pub queue-q-requires-clause-message : goal.queue-q-requires-clause-message
queue-q-requires-clause-message c = c.requires.coming.message

pub index-requires : goal.index-requires
index-requires c = let q = c.queue-q.ensures in let len = c.args.self.now.lasts.ok.0 in let within = has_last c.requires.coming in omega (arith, within, q, len)

pub index_mut-requires : goal.index_mut-requires
index_mut-requires c = let q = c.queue-q.ensures in let len = c.args.self.now.heads.ok.0 in let within = has_head c.requires.coming in omega (arith, within, q, len)

pub index_mut-requires-else-index-output : goal.index_mut-requires-else-index-output
index_mut-requires-else-index-output c = let q = c.queue-q.ensures in let len = c.args.self.now.heads.ok.0 in let within = has_head c.requires.coming in omega (arith, within, q, len)

pub other_end-requires : goal.other_end-requires
other_end-requires c =
    let here = c.requires.coming in
    let last = last_read here _ _ _ c.queue-q.ensures c.index.ensures in
    let follows = next_read here _ _ _ c.other_end-output.ensures.value c.index-following.ensures in
    let known = following_known here c.requires.input (λ same. c.if-index-output.false (last ∙ same ∙ sym c.other_end-output.ensures.value)) in
    omega (arith, follows, known)

pub returns-then-index-output-clause-queues : goal.returns-then-index-output-clause-queues
returns-then-index-output-clause-queues c =
    let here = c.requires.coming in
    let last = last_read here _ _ _ c.queue-q.ensures c.index.ensures in
    rw (c.queue-q.ensures, c.events-events.ensures.number) (taken_last here c.requires.input (sym last ∙ c.if-index-output.true ∙ c.other_end-output.ensures.value)
    c.clear.new.self c.clear.ensures.words c.clear.ensures.numbers)

pub returns-else-index-output-clause-queues : goal.returns-else-index-output-clause-queues
returns-else-index-output-clause-queues c =
    let here = c.requires.coming in
    let last = last_read here _ _ _ c.queue-q.ensures c.index.ensures in
    let follows = next_read here _ _ _ c.other_end-output.ensures.value c.index-following.ensures in
    rw (c.queue-q.ensures, follows) (taken_more here c.requires.input (λ same. c.if-index-output.false (last ∙ same ∙ sym c.other_end-output.ensures.value))
    c.clear.new.self c.put_where.new.self c.clear.ensures.words c.put_where.ensures.words
    c.clear.ensures.numbers (rw (c.other_end.ensures.value, follows) at c.put_where.ensures.numbers))
