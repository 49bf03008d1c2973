use Rattle.std.proofs.Common.{true, false, length, refl, ap, sym, ◌∙◌}
use Rattle.msc_ready.specs.Held.{wiring_of, ready_in}
use Rattle.msc_ready.proofs.Shared.{clash}
use Rattle.msc_ready.proofs.Begun.Marks.{mark_read}
use Rattle.msc_ready.proofs.Begun.Next.{never_again, may_controlled, never_behind, may_loose, may_awaited}
use Rattle.msc_ready.proofs.beginning.Beginning.may_come.Goals as goal

pub returns-then-index : goal.returns-then-index
returns-then-index c =
    let r = c.args.ready.now in
    let self = c.args.self.now in
    let there = mark_read (length r.chart.events) self.run.items self.done.items c.args.x c.index.result.now c.requires.held.marks c.requires.known c.index.ensures in
    never_again (wiring_of r) (ready_in r) self.run.items c.args.x c.requires.known false refl (sym there ∙ c.if-index.true)

pub returns-then-not-is_input : goal.returns-then-not-is_input
returns-then-not-is_input c =
    let r = c.args.ready.now in
    let self = c.args.self.now in
    let there = mark_read (length r.chart.events) self.run.items self.done.items c.args.x c.index.result.now c.requires.held.marks c.requires.known c.index.ensures in
    may_controlled (wiring_of r) (ready_in r) self.run.items c.args.x c.requires.known _ (sym c.is_input.ensures ∙ c.if-not-is_input.true) (sym there ∙ c.if-index.false) c.is_settled.ensures

pub returns-then-not-has_arrived : goal.returns-then-not-has_arrived
returns-then-not-has_arrived c =
    let r = c.args.ready.now in
    let self = c.args.self.now in
    never_behind (wiring_of r) (ready_in r) self.run.items c.args.x c.requires.known (sym c.is_input.ensures ∙ c.if-not-is_input.false) false refl
    (λ first. clash (c.has_arrived.ensures.1 first) c.if-not-has_arrived.true)

pub returns-then-not-is_ready : goal.returns-then-not-is_ready
returns-then-not-is_ready c =
    let r = c.args.ready.now in
    let self = c.args.self.now in
    let there = mark_read (length r.chart.events) self.run.items self.done.items c.args.x c.index.result.now c.requires.held.marks c.requires.known c.index.ensures in
    let loose = ap (ready_in r) (sym (rw c.chart.ensures at c.instance_of.ensures)) ∙ sym c.is_ready.ensures ∙ c.if-not-is_ready.true in
    may_loose (wiring_of r) (ready_in r) self.run.items c.args.x c.requires.known (sym c.is_input.ensures ∙ c.if-not-is_input.false) true refl
    (sym there ∙ c.if-index.false) (c.has_arrived.ensures.0 c.if-not-has_arrived.false) loose

pub returns : goal.returns
returns c =
    let r = c.args.ready.now in
    let self = c.args.self.now in
    let there = mark_read (length r.chart.events) self.run.items self.done.items c.args.x c.index.result.now c.requires.held.marks c.requires.known c.index.ensures in
    let set = ap (ready_in r) (sym (rw c.chart.ensures at c.instance_of.ensures)) ∙ sym c.is_ready.ensures ∙ c.if-not-is_ready.false in
    may_awaited (wiring_of r) (ready_in r) self.run.items c.args.x c.requires.known (sym c.is_input.ensures ∙ c.if-not-is_input.false) _
    (sym there ∙ c.if-index.false) (c.has_arrived.ensures.0 c.if-not-has_arrived.false) set c.is_settled-2.ensures
