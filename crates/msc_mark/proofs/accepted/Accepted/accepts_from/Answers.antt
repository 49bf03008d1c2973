use Rattle.std.proofs.Common.{◌≡◌, ◌<◌, ◌≤◌, false, length, sym, subst}
use Rattle.msc_mark.specs.Accepting.{acceptance, accepts_from}
use Rattle.msc_mark.proofs.Looking.{accepts_named, accepts_none, told_by}
use Rattle.msc_mark.proofs.accepted.Accepted.accepts_from.Goals as goal

pub returns-then-i-as_slice : goal.returns-then-i-as_slice
returns-then-i-as_slice c =
    let a = acceptance c.self.inside.marks.now c.self.inside.chart.now c.self.inside.queues in
    let i = c.index-i.result.now in let e = c.args.e in let f = c.args.f in
    let is = told_by a c.args.self.now c.self.inside.at.items e i c.self.view_is c.self.invariant.numbers c.requires.e_known c.index-i.ensures in
    let past = subst (λ ms. length ms ≤ i) c.as_slice.ensures c.if-i-as_slice.true in
    subst (λ v. false ≡ accepts_from v.marks v.chart v.queues e f) c.self.view_is (sym (accepts_none a e i is f past))

pub has-requires-clause-mark : goal.has-requires-clause-mark
has-requires-clause-mark c =
    let i = c.index-i.result.now in
    let inside = subst (λ ms. i < length ms) c.as_slice.ensures c.if-i-as_slice.false in
    subst (λ n. i < length n.marks) (sym c.self.invariant.named) inside

pub has-requires-clause-event : goal.has-requires-clause-event
has-requires-clause-event c =
    let f = c.args.f in
    subst (λ n. f < length n.chart.events) (sym c.self.invariant.named)
    (subst (λ v. f < length v.chart.events) (sym c.self.view_is) c.requires.f_known)

pub returns : goal.returns
returns c =
    let a = acceptance c.self.inside.marks.now c.self.inside.chart.now c.self.inside.queues in
    let i = c.index-i.result.now in let e = c.args.e in let f = c.args.f in
    let is = told_by a c.args.self.now c.self.inside.at.items e i c.self.view_is c.self.invariant.numbers c.requires.e_known c.index-i.ensures in
    let inside = subst (λ ms. i < length ms) c.as_slice.ensures c.if-i-as_slice.false in
    subst (λ v. c.has.result ≡ accepts_from v.marks v.chart v.queues e f) c.self.view_is
    (accepts_named a e i is f c.self.inside.named c.has.result inside c.self.invariant.named c.has.ensures)
