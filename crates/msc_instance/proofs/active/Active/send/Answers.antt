use Rattle.std.proofs.Common.{◌≡◌, ℕ, ◌<◌, length, get_or, ap, sym, subst, ◌∙◌}
use Rattle.msc_chart.specs.Charts.{message}
use Rattle.msc_chart.specs.declared.queue.Queues.{Queues}
use Rattle.msc_chart.specs.Drawings.{Drawing}
use Rattle.msc_chart.specs.Orders.{queue_of}
use Rattle.msc_chart.proofs.Drawn.{output_not_local, output_controlled}
use Rattle.msc_fifo.specs.Ends.{HasRoom}
use Rattle.msc_execution.specs.Roles.{NumberedOutlet}
use Rattle.msc_instance.specs.Active.{HasPut}
use Rattle.msc_instance.proofs.Numbered.{outlet_number}
use Rattle.msc_instance.proofs.Sound.{due_fits, its_outlet, its_outlets, its_room, has_sent}
use Rattle.msc_instance.proofs.active.Active.send.Goals as goal

pub message_of-m-requires-clause-message : goal.message_of-m-requires-clause-message
message_of-m-requires-clause-message c =
    output_not_local c.args.chart.now.events c.args.self.now.next c.requires.output

-- the queue of the message
queue_is : (queues : Queues) (d : Drawing) {q m n : ℕ} → q ≡ queue_of queues d m → m ≡ n
    → q ≡ queue_of queues d n
queue_is queues d at same = at ∙ ap (queue_of queues d) same

pub outlet_at-k-requires-clause-there : goal.outlet_at-k-requires-clause-there
outlet_at-k-requires-clause-there c =
    let r = c.requires in
    let d = c.args.chart.now in let a = c.args.self.now in
    let due = output_controlled d.events a.next r.output in
    rw (
      c.as_slice.ensures.value,
      queue_is c.args.post.now.queues c.args.chart.now c.queue.ensures c.message_of-m.ensures.value,
    )
    (its_outlet d c.args.post.now a r.sound r.within due r.ready r.output)

pub put_one-requires : goal.put_one-requires
put_one-requires c =
    let r = c.requires in
    let d = c.args.chart.now in let a = c.args.self.now in
    let k = c.outlet_at-k.result in let o = c.index_mut.result.now in
    let due = output_controlled d.events a.next r.output in
    let lt : k < length a.outlets.items = rw (← c.as_slice.ensures.value) c.outlet_at-k.ensures.within in
    let here = ap (λ l. outlet_number (get_or l k o)) (sym c.as_slice.ensures.value)
    ∙ c.outlet_at-k.ensures.number o
    ∙ queue_is c.args.post.now.queues c.args.chart.now c.queue.ensures c.message_of-m.ensures.value
    in
    subst (λ (x : NumberedOutlet). HasRoom x.1) (sym c.index_mut.ensures.value)
    (its_room d c.args.post.now a r.sound r.within due r.ready r.output k o lt here)

pub note-requires-clause-room : goal.note-requires-clause-room
note-requires-clause-room c =
    let r = c.requires in
    due_fits c.args.chart.now c.args.post.now c.args.self.now r.sound r.within
    (output_controlled c.args.chart.now.events c.args.self.now.next r.output) r.ready

pub returns-clause-sound : goal.returns-clause-sound
returns-clause-sound c =
    let r = c.requires in
    let d = c.args.chart.now in let a = c.args.self.now in
    let k = c.outlet_at-k.result in let o = c.index_mut.result.now in
    let due = output_controlled d.events a.next r.output in
    let lt : k < length a.outlets.items = rw (← c.as_slice.ensures.value) c.outlet_at-k.ensures.within in
    let here = ap (λ l. outlet_number (get_or l k o)) (sym c.as_slice.ensures.value)
    ∙ c.outlet_at-k.ensures.number o
    ∙ queue_is c.args.post.now.queues c.args.chart.now c.queue.ensures c.message_of-m.ensures.value
    in
    let put : HasPut (message d.events a.next) a.clock c.in-Some.now (get_or a.outlets.items k o)
    c.put_one.new.outlet =
    rw (← c.message_of-m.ensures.value, ← c.index_mut.ensures.value) c.in-Some.ensures.put in
    has_sent d c.args.post.now a r.sound r.within due r.ready r.output k o lt here c.put_one.new.outlet
    c.in-Some.now c.note.new.self put
    c.note.ensures.noted c.note.ensures.room

pub outlet_at-k-requires-clause-ascending : goal.outlet_at-k-requires-clause-ascending
outlet_at-k-requires-clause-ascending c =
    let r = c.requires in
    let d = c.args.chart.now in let a = c.args.self.now in
    let due = output_controlled d.events a.next r.output in
    rw c.as_slice.ensures.value (its_outlets d c.args.post.now a r.sound r.within due r.ready r.output)
