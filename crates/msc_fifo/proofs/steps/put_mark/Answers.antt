use Rattle.std.proofs.Common.{◌-◌, ◌<◌, ℕ, false, sym, ap, ◌∙◌, subst, refl, arith}
use Rattle.msc_fifo.specs.declared.entry.Entry.{Entry}
use Rattle.msc_fifo.specs.declared.rule.Sender.{Sender}
use Rattle.msc_fifo.specs.Claims.{is_message}
use Rattle.msc_fifo.specs.Entries.{sender_of}
use Rattle.msc_fifo.specs.World.{IsSmall, code}
use Rattle.msc_fifo.specs.Lists.{Each}
use Rattle.msc_fifo.specs.Views.{outlet_view, resting}
use Rattle.msc_fifo.specs.Moves.{after_claim, after_store}
use Rattle.msc_fifo.proofs.OutletSteps.{claims_keep, stores_keep}
use Rattle.msc_fifo.proofs.PutLemmas.{quiet_of, only_of, step_of, claim_of, waits_mark, shown_mark}
use Rattle.msc_fifo.proofs.steps.put_mark.Goals as goal

pub fetch_add-mark-requires : goal.fetch_add-mark-requires
fetch_add-mark-requires g c = let seat = c.requires.seat in let r = c.requires.rest in
    (seat.0, omega (arith, seat.2), claims_keep _ _ _ _ _ _ (quiet_of _ _ _ r.4) (only_of _ _ _ r.4) refl refl (ap sender_of c.requires.said ∙ r.6) (subst (λ (n : ℕ). 0 < n) (sym (ap (λ v. v.room) r.4)) r.5))

pub store-requires : goal.store-requires
store-requires g c = let seat = c.requires.seat in let r = c.requires.rest in
    let v2 = claim_of _ _ _ _ _ _ r.4 c.fetch_add-mark.ensures.2.0 in
    let mark = ap is_message c.requires.said ∙ c.requires.mark in
    let fits = (subst (Each (λ (x : Sender). c.fetch_add-mark.result < x.places)) (only_of _ _ _ r.4) c.fetch_add-mark.ensures.2.2).0 in (
      c.fetch_add-mark.ensures.0 ∙ seat.0,
      omega (arith, seat.2, fits),
      stores_keep _ _ _ _ _ _ _ _ (quiet_of _ _ _ v2) (only_of _ _ _ v2) (waits_mark _ _ _ mark) refl (c.code_of.ensures ∙ ap code (sym c.requires.said)) (subst IsSmall (sym c.requires.said) c.requires.small) (shown_mark _ _ _),
    )

pub returns-clause-view : goal.returns-clause-view
returns-clause-view g c room i put claims is =
    let v2 = claim_of _ _ _ _ _ _ is c.fetch_add-mark.ensures.2.0 in
    let v5 = step_of after_store _ _ _ _ v2 c.store.ensures.2.0 in
    v5 ∙ ap (λ (e : Entry). outlet_view (room - 1) (after_store (after_claim c.fetch_add-mark.result e (resting c.args.row.now.shared.key i put false claims)))) c.requires.said

pub returns-clause-place : goal.returns-clause-place
returns-clause-place g c = let r = c.requires.rest in
    (subst (Each (λ (x : Sender). c.fetch_add-mark.result < x.places)) (only_of _ _ _ r.4) c.fetch_add-mark.ensures.2.2).0
