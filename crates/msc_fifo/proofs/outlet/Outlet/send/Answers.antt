use Rattle.std.proofs.Common.{◌≡◌, ◌+◌, ◌<◌, ◌++◌, ◌∷◌, [], sym, ap, ◌∙◌, subst, length, arith, rules}
use Rattle.msc_fifo.specs.declared.entry.Entry.TheVariants.{Message}
use Rattle.msc_fifo.specs.declared.rule.TicketView.{TicketView}
use Rattle.msc_fifo.specs.Claims.{claim}
use Rattle.msc_fifo.specs.Ends.{HasRoom, OutletState}
use Rattle.msc_fifo.specs.Views.{claims_in, knows, resting, outlet_view, left_of}
use Rattle.msc_fifo.proofs.OutletLemmas.{sent, proper_more}
use Rattle.msc_fifo.proofs.outlet.Outlet.send.Goals as goal

pub invariant_of-self : goal.invariant_of-self
invariant_of-self c = let e = c.self.inside in let i = c.self.invariant in let opened = c.if-self.false in let at = c.deref.ensures in
    let claims = claims_in (knows e.ticket).senders in
    let base = i.1 ∙ (λ j. outlet_view (left_of e.quota e.put.items (opened j)) (resting (sym at j).shared.key e.sender e.put.items (opened j) claims)) in
    let now = c.put-place.ensures.view _ _ _ _ base in
    let more = claims_in (knows c.put-place.new.ticket).senders in
    let more_is : more ≡ claims ++ claim c.put-place.result.0 (Message e.sender c.args.m) (c.args.clock + 1) c.put-place.result.1 ∷ [] = ap (λ (v : TicketView). claims_in v.senders) now in
    let lt : length e.put.items < e.quota = omega arith in
    let known = sent _ e.quota e.sender c.args.m c.put-place.result.0 (c.args.clock + 1) c.put-place.result.1 e.put.items c.push_reserved.new.self.items claims more _ lt c.push_reserved.ensures.items more_is now in
    let len = c.push_reserved.ensures.len in let cap = c.push_reserved.ensures.capacity in
    let room = i.3 in (
      search rules,
      known ∙ (λ j. outlet_view (left_of e.quota c.push_reserved.new.self.items (sym opened j)) (resting (at j).shared.key e.sender c.push_reserved.new.self.items (sym opened j) more)),
      omega arith,
      omega arith,
      proper_more claims more c.put-place.result.0 e.sender c.args.m (c.args.clock + 1) c.put-place.result.1 more_is (omega arith) c.put-place.ensures.above i.4,
      i.5,
    )

pub returns-clause-claims : goal.returns-clause-claims
returns-clause-claims c = let e = c.self.inside in let i = c.self.invariant in let opened = c.if-self.false in let at = c.deref.ensures in
    let claims = claims_in (knows e.ticket).senders in
    let base = i.1 ∙ (λ j. outlet_view (left_of e.quota e.put.items (opened j)) (resting (sym at j).shared.key e.sender e.put.items (opened j) claims)) in
    let now = c.put-place.ensures.view _ _ _ _ base in
    ap (λ (v : TicketView). claims_in v.senders) now ∙ ap (λ (s : OutletState). s.claims ++ claim c.put-place.result.0 (Message s.sender c.args.m) (c.args.clock + 1) c.put-place.result.1 ∷ []) c.self.view_is

pub returns-then-len-self-clause-room : goal.returns-then-len-self-clause-room
returns-then-len-self-clause-room c = λ room going.
    let own = subst HasRoom (sym c.self.view_is) room in
    let less : length c.self.inside.put.items < c.self.inside.quota = own.1 in
    absurd (omega (arith, c.self.inside.put.ok.0))
