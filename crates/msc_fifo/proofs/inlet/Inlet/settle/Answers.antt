use Rattle.std.proofs.Common.{◌≤◌, ℕ, List, length, sym, ap, ◌∙◌, subst, arith}
use Rattle.msc_fifo.specs.declared.rule.TicketView.{TicketView}
use Rattle.msc_fifo.specs.Views.{knows}
use Rattle.msc_fifo.specs.Settling.{AreShownIn}
use Rattle.msc_fifo.specs.Ends.{InletState}
use Rattle.msc_fifo.proofs.AnswerLemmas.{starts, answered, shown, next_part, part_answered, all_answered, parts_proper, part_prefix, part_account, parts_none}
use Rattle.msc_fifo.proofs.inlet.Inlet.settle.Goals as goal

pub loop-part-init : goal.loop-part-init
loop-part-init c = let e = c.self.inside in let i = c.self.invariant in let is = c.self.view_is in let view = c.gather_parts.ensures.view in
    let told = answered c.args.self c.args.outlets.items (knows c.gather_parts.new.ticket) c.count-claimed.result c.requires.outlets c.count-claimed.ensures.told c.gather_parts.ensures.senders
    (ap (λ (v : TicketView). v.made) view ∙ i.1.1 ∙ ap (λ (s : InletState). s.senders) is)
    (ap (λ (v : TicketView). v.got) view ∙ i.1.2 ∙ ap (λ (s : InletState). s.got) is)
    (ap (λ (v : TicketView). v.clocks) view ∙ ap (λ (s : InletState). s.clocks) is)
    (parts_proper c.args.outlets.items c.gather_parts.new.parts.items c.gather_parts.ensures.parts) in (
      ap (λ (s : InletState). s.got) is,
      starts c.args.self c.args.outlets.items c.count-claimed.result c.gather_parts.new.parts.items c.args.senders.items c.gather_parts.ensures.parts told
          (omega (arith, c.args.senders.ok.0, c.requires.senders, c.requires.outlets.count)),
    )

pub account-requires-clause-room : goal.account-requires-clause-room
account-requires-clause-room c = let n = next_part c.args.self c.args.outlets.items c.count-claimed.result c.loop-part.parts.items c.pop.new.self.items c.loop-part.senders.items c.in-Some.part c.loop-part.invariant.1 c.in-Some.ensures.items in
    subst (λ (l : List ℕ). length l ≤ c.in-Some.part.room) (sym n.part.put) n.part.room

pub account-requires-clause-prefix : goal.account-requires-clause-prefix
account-requires-clause-prefix c = let n = next_part c.args.self c.args.outlets.items c.count-claimed.result c.loop-part.parts.items c.pop.new.self.items c.loop-part.senders.items c.in-Some.part c.loop-part.invariant.1 c.in-Some.ensures.items in
    part_prefix c.args.self.senders c.args.self.got c.as_slice.result.now n.o c.in-Some.part n.part n.learned_is (c.as_slice.ensures.value ∙ c.loop-part.invariant.0)

pub index_mut-requires : goal.index_mut-requires
index_mut-requires c = let n = next_part c.args.self c.args.outlets.items c.count-claimed.result c.loop-part.parts.items c.pop.new.self.items c.loop-part.senders.items c.in-Some.part c.loop-part.invariant.1 c.in-Some.ensures.items in
    let lt = n.learned_is.number in let size = c.loop-part.invariant.1.size in let is = n.part.sender in let ok = c.loop-part.senders.ok in omega arith

pub loop-part-preserved : goal.loop-part-preserved
loop-part-preserved c = let r = c.account.ensures in let same = c.as_slice.ensures.value ∙ c.loop-part.invariant.0 in (
  c.loop-part.invariant.0,
  part_answered c.args.self c.args.outlets.items c.count-claimed.result c.loop-part.parts.items c.pop.new.self.items c.loop-part.senders.items c.in-Some.part c.account.result c.requires.outlets c.loop-part.invariant.1 c.in-Some.ensures.items
      (λ o part l. part_account c.args.self.senders c.args.self.got c.as_slice.result.now o c.in-Some.part c.account.result part l same r.put r.taken r.left r.closed),
)

pub returns-clause-accounts : goal.returns-clause-accounts
returns-clause-accounts c = all_answered c.args.self c.args.outlets.items c.count-claimed.result c.loop-part.parts.items c.loop-part.senders.items c.loop-part.invariant.1 (parts_none c.loop-part.parts.items (omega (arith, c.loop-part.parts.ok.0, c.in_default.ensures.cases.0)))

pub returns-clause-places : goal.returns-clause-places
returns-clause-places c = let i = c.self.invariant in let is = c.self.view_is in let view = c.gather_parts.ensures.view in
    let told = answered c.args.self c.args.outlets.items (knows c.gather_parts.new.ticket) c.count-claimed.result c.requires.outlets c.count-claimed.ensures.told c.gather_parts.ensures.senders
    (ap (λ (v : TicketView). v.made) view ∙ i.1.1 ∙ ap (λ (s : InletState). s.senders) is)
    (ap (λ (v : TicketView). v.got) view ∙ i.1.2 ∙ ap (λ (s : InletState). s.got) is)
    (ap (λ (v : TicketView). v.clocks) view ∙ ap (λ (s : InletState). s.clocks) is)
    (parts_proper c.args.outlets.items c.gather_parts.new.parts.items c.gather_parts.ensures.parts) in
    record {
      log = told.log;
      is_log = told.is_log;
      places_are = shown c.args.self c.args.outlets.items (knows c.gather_parts.new.ticket).senders told.log c.read_places-places.result.items c.requires.outlets c.gather_parts.ensures.senders told.is_log
          (let size = told.size in omega (arith, c.read_places-places.result.ok.0, c.read_places-places.ensures.count))
          (subst (λ (v : TicketView). AreShownIn v.senders c.read_places-places.result.items) c.count-claimed.ensures.same c.read_places-places.ensures.places);
    }
