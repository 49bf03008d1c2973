use Rattle.std.proofs.Common.{ℕ, ◌+◌, ◌∙◌, sym, ap, subst, arith}
use Rattle.msc_fifo.specs.declared.places.Place.{Place}
use Rattle.msc_fifo.specs.Entries.{sender_of}
use Rattle.msc_fifo.specs.Settlement.{message_of}
use Rattle.msc_fifo.specs.Moves.{Seated, IsClaimOf}
use Rattle.msc_fifo.proofs.InletSteps.{reads_entry, reads_clock}
use Rattle.msc_fifo.proofs.steps.read.Goals as goal

pub load-requires : goal.load-requires
load-requires c = let seat = c.requires.seat in (seat.0, omega (arith, seat.2, c.requires.fits), reads_entry _ _ _ _ _ c.requires.inlet)

pub load-clock-requires : goal.load-clock-requires
load-clock-requires c = let seat = c.requires.seat in
    (c.load.ensures.0 ∙ seat.0, omega (arith, seat.2, c.requires.fits), reads_clock _ _ _ _ _ (ap (λ (m : Seated). m.0.gets) c.load.ensures.2.0 ∙ c.requires.inlet))

pub returns-clause-place : goal.returns-clause-place
returns-clause-place c k of at =
    let item = c.load.ensures.2.1 k of (ap (λ (n : ℕ). n + n + 2) (sym at)) in
    let later = subst (λ (m : Seated). IsClaimOf k m.0.senders) (sym c.load.ensures.2.0) of in
    let clock = c.load-clock.ensures.2.1 k later (ap (λ (n : ℕ). n + n + 3) (sym at)) in
    let place : ℕ → Place = λ n. record { sender = sender_of k.entry; message = message_of k.entry; clock = n } in
    c.of.ensures k.entry (c.entry_of-entry.ensures.some k.entry item.1 item.0) ∙ ap place clock
