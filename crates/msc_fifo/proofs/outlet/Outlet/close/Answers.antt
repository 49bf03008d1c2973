use Rattle.std.proofs.Common.{◌≡◌, ◌++◌, ◌∷◌, [], true, sym, ap, ◌∙◌, rules}
use Rattle.msc_fifo.specs.declared.entry.Entry.TheVariants.{Ended}
use Rattle.msc_fifo.specs.declared.rule.TicketView.{TicketView}
use Rattle.msc_fifo.specs.Claims.{claim}
use Rattle.msc_fifo.specs.Ends.{OutletState}
use Rattle.msc_fifo.specs.Views.{claims_in, knows, resting, outlet_view, left_of}
use Rattle.msc_fifo.proofs.OutletLemmas.{ended, proper_mark}
use Rattle.msc_fifo.proofs.outlet.Outlet.close.Goals as goal

pub invariant_of-self : goal.invariant_of-self
invariant_of-self c = let e = c.self.inside in let i = c.self.invariant in let opened = c.if-self.false in let at = c.deref.ensures in
    let claims = claims_in (knows e.ticket).senders in
    let base = i.1 ∙ (λ j. outlet_view (left_of e.quota e.put.items (opened j)) (resting (sym at j).shared.key e.sender e.put.items (opened j) claims)) in
    let now = c.put_mark.ensures.view _ _ _ _ base in
    let more = claims_in (knows c.put_mark.new.ticket).senders in
    let more_is : more ≡ claims ++ claim c.put_mark.result (Ended e.sender) 0 0 ∷ [] = ap (λ (v : TicketView). claims_in v.senders) now in
    let known = ended _ e.quota e.sender c.put_mark.result e.put.items claims more _ more_is now in
    (search rules, known ∙ (λ j. outlet_view (left_of e.quota e.put.items true) (resting (at j).shared.key e.sender e.put.items true more)), i.2, i.3, proper_mark claims more c.put_mark.result e.sender more_is i.4, i.5)

pub returns-clause-claims : goal.returns-clause-claims
returns-clause-claims c was = let e = c.self.inside in let i = c.self.invariant in let opened = c.if-self.false in let at = c.deref.ensures in
    let claims = claims_in (knows e.ticket).senders in
    let base = i.1 ∙ (λ j. outlet_view (left_of e.quota e.put.items (opened j)) (resting (sym at j).shared.key e.sender e.put.items (opened j) claims)) in
    let now = c.put_mark.ensures.view _ _ _ _ base in
    (c.put_mark.result, ap (λ (v : TicketView). claims_in v.senders) now ∙ ap (λ (s : OutletState). s.claims ++ claim c.put_mark.result (Ended s.sender) 0 0 ∷ []) c.self.view_is)
