use Rattle.std.proofs.Common.{◌≡◌, ◌++◌, ◌∷◌, [], ℕ, List, All, Option, option_to_list, length, length-append, ap, sym, subst, ◌∙◌, arith, rules}
use Rattle.msc_fifo.specs.Ends.{OutletState}
use Rattle.msc_fifo.specs.Views.{knows}
use Rattle.msc_fifo.specs.Settling.{AreSendersOf}
use Rattle.msc_fifo.specs.Parts.{ArePartsOf}
use Rattle.msc_fifo.proofs.GatherLemmas.{all_front, rooms_front, senders_snoc, parts_snoc, parts_length}
use Rattle.msc_fifo.proofs.parts.+gather_parts.Goals as goal

pub gather_parts-requires : goal.gather_parts-requires
gather_parts-requires t c = let popped = c.in-Some.ensures.items in
    let room = c.pop-in-Some.ensures.items ∙ ap (λ (o : Option ℕ). c.pop-in-Some.new.self.items ++ option_to_list o) c.unwrap-room.ensures in
    let len = ap length popped ∙ length-append c.pop.new.self.items (c.in-Some.outlet ∷ []) in
    let fits = c.requires.parts.1 in (
      search rules,
      (
        c.requires.seat,
        (
          all_front (λ o. o.queue.table ≡ c.args.ticket.now.table_id) c.pop.new.self.items (c.in-Some.outlet ∷ []) (subst (λ (os : List OutletState). All (λ o. o.queue.table ≡ c.args.ticket.now.table_id) os) popped c.requires.queue),
          (c.requires.inlet, ((rooms_front c.args.outlets.items c.pop.new.self.items c.in-Some.outlet c.args.rooms.items c.pop-in-Some.new.self.items c.unwrap-room.result c.requires.rooms popped room).0, (c.requires.parts.0, omega arith))),
        ),
      ),
    )

pub push_reserved-requires : goal.push_reserved-requires
push_reserved-requires t c = let popped = c.in-Some.ensures.items in
    let len = ap length popped ∙ length-append c.pop.new.self.items (c.in-Some.outlet ∷ []) in
    let fits = c.requires.parts.1 in
    let same = parts_length c.pop.new.self.items c.gather_parts.new.parts.items c.gather_parts.ensures.parts in
    let cap = c.gather_parts.ensures.capacity in
    let ok = c.gather_parts.new.parts.ok in
    omega arith

pub returns-in-Some-clause-senders : goal.returns-in-Some-clause-senders
returns-in-Some-clause-senders t c = let popped = c.in-Some.ensures.items in let v = c.part.ensures.view in
    subst (λ os. AreSendersOf os (knows c.part.new.ticket).senders) (sym popped)
    (subst (λ xs. AreSendersOf (c.pop.new.self.items ++ c.in-Some.outlet ∷ []) xs) (sym (ap (λ u. u.senders) v.3)) (senders_snoc c.pop.new.self.items (knows c.gather_parts.new.ticket).senders c.in-Some.outlet v.0 c.gather_parts.ensures.senders v.2))

pub returns-in-Some-clause-parts : goal.returns-in-Some-clause-parts
returns-in-Some-clause-parts t c = let popped = c.in-Some.ensures.items in
    subst (λ os. ArePartsOf os c.push_reserved.new.self.items) (sym popped)
    (subst (λ ps. ArePartsOf (c.pop.new.self.items ++ c.in-Some.outlet ∷ []) ps) (sym c.push_reserved.ensures.items) (parts_snoc c.pop.new.self.items c.gather_parts.new.parts.items c.in-Some.outlet c.part.result c.gather_parts.ensures.parts c.part.ensures.part))
