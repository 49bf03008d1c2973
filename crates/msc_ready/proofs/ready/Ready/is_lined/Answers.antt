use Rattle.std.proofs.Common.{◌∙◌, sym}
use Rattle.msc_ready.specs.Held.{wiring_of, ready_in}
use Rattle.msc_ready.proofs.Shared.{clash}
use Rattle.msc_ready.proofs.Holding.{lined_not, lined_parts, lined_when}
use Rattle.msc_ready.proofs.ready.Ready.is_lined.Goals as goal

pub returns-then-not-is_awaited : goal.returns-then-not-is_awaited
returns-then-not-is_awaited c =
    let self = c.args.self.now in
    lined_not (wiring_of self) (ready_in self) c.args.e c.args.f
    (λ h. clash (c.is_awaited.ensures ∙ (lined_parts (wiring_of self) (ready_in self) c.args.e c.args.f h).0) c.if-not-is_awaited.true)

pub returns-then-not-is_input : goal.returns-then-not-is_input
returns-then-not-is_input c =
    let self = c.args.self.now in
    lined_not (wiring_of self) (ready_in self) c.args.e c.args.f
    (λ h. clash (c.is_input.ensures ∙ (lined_parts (wiring_of self) (ready_in self) c.args.e c.args.f h).1) c.if-not-is_input.true)

pub returns-then-not-is_input-2 : goal.returns-then-not-is_input-2
returns-then-not-is_input-2 c =
    let self = c.args.self.now in
    lined_not (wiring_of self) (ready_in self) c.args.e c.args.f
    (λ h. clash (c.is_input-2.ensures ∙ (lined_parts (wiring_of self) (ready_in self) c.args.e c.args.f h).2) c.if-not-is_input-2.true)

pub returns : goal.returns
returns c =
    let self = c.args.self.now in
    lined_when (wiring_of self) (ready_in self) c.args.e c.args.f _ (sym c.is_awaited.ensures ∙ c.if-not-is_awaited.false)
    (sym c.is_input.ensures ∙ c.if-not-is_input.false) (sym c.is_input-2.ensures ∙ c.if-not-is_input-2.false) c.share_queue.ensures
