use Rattle.std.proofs.Common.{◌-◌, ◌<◌, ◌≤◌, ℕ, false, sym, ap, ◌∙◌, subst, refl, arith}
use Rattle.msc_fifo.specs.declared.entry.Entry.{Entry}
use Rattle.msc_fifo.specs.declared.rule.Sender.{Sender}
use Rattle.msc_fifo.specs.Claims.{is_message}
use Rattle.msc_fifo.specs.Entries.{sender_of}
use Rattle.msc_fifo.specs.World.{IsSmall, code}
use Rattle.msc_fifo.specs.Lists.{Each}
use Rattle.msc_fifo.specs.Views.{outlet_view, resting}
use Rattle.msc_fifo.specs.Moves.{after_offer, after_claim, after_date, after_show, after_store}
use Rattle.msc_fifo.proofs.OutletSteps.{offers_keep, claims_keep, dates_keep, shows_keep, stores_keep}
use Rattle.msc_fifo.proofs.PutLemmas.{quiet_of, only_of, step_of, claim_of, waits, waits_dated, ready_after}
use Rattle.msc_fifo.proofs.steps.put.Goals as goal

pub fetch_max-requires : goal.fetch_max-requires
fetch_max-requires g c = let seat = c.requires.seat in let r = c.requires.rest in
    (seat.0, omega (arith, seat.2), offers_keep _ _ _ _ _ _ (quiet_of _ _ _ r.4) (only_of _ _ _ r.4) refl)

pub fetch_add-place-requires : goal.fetch_add-place-requires
fetch_add-place-requires g c = let seat = c.requires.seat in let r = c.requires.rest in
    let v1 = step_of (after_offer c.args.offer) _ _ _ _ r.4 c.fetch_max.ensures.2.0 in
    (c.fetch_max.ensures.0 ∙ seat.0, omega (arith, seat.2), claims_keep _ _ _ _ _ _ (quiet_of _ _ _ v1) (only_of _ _ _ v1) refl refl (ap sender_of c.requires.said ∙ r.6) (subst (λ (n : ℕ). 0 < n) (sym (ap (λ v. v.room) v1)) r.5))

pub load-clock-requires : goal.load-clock-requires
load-clock-requires g c = let seat = c.requires.seat in let r = c.requires.rest in
    let v1 = step_of (after_offer c.args.offer) _ _ _ _ r.4 c.fetch_max.ensures.2.0 in
    let v2 = claim_of _ _ _ _ _ _ v1 c.fetch_add-place.ensures.2.0 in
    let message = ap is_message c.requires.said ∙ c.requires.message in
    (c.fetch_add-place.ensures.0 ∙ c.fetch_max.ensures.0 ∙ seat.0, omega (arith, seat.2), dates_keep _ _ _ _ _ _ (quiet_of _ _ _ v2) (only_of _ _ _ v2) (waits _ _ _ message) message)

pub store-requires : goal.store-requires
store-requires g c = let seat = c.requires.seat in let r = c.requires.rest in
    let v1 = step_of (after_offer c.args.offer) _ _ _ _ r.4 c.fetch_max.ensures.2.0 in
    let v2 = claim_of _ _ _ _ _ _ v1 c.fetch_add-place.ensures.2.0 in
    let v3 = step_of (after_date c.load-clock.result) _ _ _ _ v2 c.load-clock.ensures.2.0 in
    let message = ap is_message c.requires.said ∙ c.requires.message in
    let fits = (subst (Each (λ (x : Sender). c.fetch_add-place.result < x.places)) (only_of _ _ _ v1) c.fetch_add-place.ensures.2.2).0 in
    (c.load-clock.ensures.0 ∙ c.fetch_add-place.ensures.0 ∙ c.fetch_max.ensures.0 ∙ seat.0, omega (arith, seat.2, fits), shows_keep _ _ _ _ _ _ _ _ (quiet_of _ _ _ v3) (only_of _ _ _ v3) (waits_dated _ c.load-clock.result _ _ message) refl refl)

pub store-requires-2 : goal.store-requires-2
store-requires-2 g c = let seat = c.requires.seat in let r = c.requires.rest in
    let v1 = step_of (after_offer c.args.offer) _ _ _ _ r.4 c.fetch_max.ensures.2.0 in
    let v2 = claim_of _ _ _ _ _ _ v1 c.fetch_add-place.ensures.2.0 in
    let v3 = step_of (after_date c.load-clock.result) _ _ _ _ v2 c.load-clock.ensures.2.0 in
    let v4 = step_of (after_show c.load-clock.result) _ _ _ _ v3 c.store.ensures.2.0 in
    let message = ap is_message c.requires.said ∙ c.requires.message in
    let fits = (subst (Each (λ (x : Sender). c.fetch_add-place.result < x.places)) (only_of _ _ _ v1) c.fetch_add-place.ensures.2.2).0 in (
      c.store.ensures.0 ∙ c.load-clock.ensures.0 ∙ c.fetch_add-place.ensures.0 ∙ c.fetch_max.ensures.0 ∙ seat.0,
      omega (arith, seat.2, fits),
      stores_keep _ _ _ _ _ _ _ _ (quiet_of _ _ _ v4) (only_of _ _ _ v4) (waits_dated _ c.load-clock.result _ _ message) refl (c.code_of.ensures ∙ ap code (sym c.requires.said)) (subst IsSmall (sym c.requires.said) c.requires.small) refl,
    )

pub returns-clause-view : goal.returns-clause-view
returns-clause-view g c room i put claims is =
    let v1 = step_of (after_offer c.args.offer) _ _ _ _ is c.fetch_max.ensures.2.0 in
    let v2 = claim_of _ _ _ _ _ _ v1 c.fetch_add-place.ensures.2.0 in
    let v3 = step_of (after_date c.load-clock.result) _ _ _ _ v2 c.load-clock.ensures.2.0 in
    let v4 = step_of (after_show c.load-clock.result) _ _ _ _ v3 c.store.ensures.2.0 in
    let v5 = step_of after_store _ _ _ _ v4 c.store-2.ensures.2.0 in
    v5 ∙ ap (λ (e : Entry). outlet_view (room - 1) (after_store (after_show c.load-clock.result (after_date c.load-clock.result (after_claim c.fetch_add-place.result e (after_offer c.args.offer (resting c.args.row.now.shared.key i put false claims))))))) c.requires.said

pub returns-clause-above : goal.returns-clause-above
returns-clause-above g c = let r = c.requires.rest in
    let v1 = step_of (after_offer c.args.offer) _ _ _ _ r.4 c.fetch_max.ensures.2.0 in
    let v2 = claim_of _ _ _ _ _ _ v1 c.fetch_add-place.ensures.2.0 in
    let above = (subst (Each (λ (x : Sender). x.ready ≤ c.load-clock.result)) (only_of _ _ _ v2) c.load-clock.ensures.2.2).0 in
    subst (λ (n : ℕ). n ≤ c.load-clock.result) (ready_after _ _ _) above

pub returns-clause-place : goal.returns-clause-place
returns-clause-place g c = let r = c.requires.rest in
    let v1 = step_of (after_offer c.args.offer) _ _ _ _ r.4 c.fetch_max.ensures.2.0 in
    (subst (Each (λ (x : Sender). c.fetch_add-place.result < x.places)) (only_of _ _ _ v1) c.fetch_add-place.ensures.2.2).0
