use Rattle.std.proofs.Common.{◌≡◌, ◌<◌, ◌≤◌, ◌&&◌, not, false, length, get_or, sym, ap, subst}
use Rattle.std.specs.Prelude.{is_some}
use Rattle.msc_mark.specs.Accepting.{acceptance, mark_for}
use Rattle.msc_mark.proofs.Looking.{has_mark, has_none, told_by}
use Rattle.msc_mark.proofs.accepted.Accepted.is_left.Goals as goal

pub returns-then-i-as_slice : goal.returns-then-i-as_slice
returns-then-i-as_slice c =
    let a = acceptance c.self.inside.marks.now c.self.inside.chart.now c.self.inside.queues in
    let i = c.index-i.result.now in let e = c.args.e in
    let noted = not (get_or c.args.fitting.now e false) in
    let is = told_by a c.args.self.now c.self.inside.at.items e i c.self.view_is c.self.invariant.numbers c.requires.known c.index-i.ensures in
    let past = subst (λ ms. length ms ≤ i) c.as_slice.ensures c.if-i-as_slice.true in
    subst (λ v. false ≡ (is_some (mark_for v.marks v.queues e) && noted)) c.self.view_is (sym (ap (λ b. b && noted) (has_none a e i is past)))

pub returns : goal.returns
returns c =
    let a = acceptance c.self.inside.marks.now c.self.inside.chart.now c.self.inside.queues in
    let i = c.index-i.result.now in let e = c.args.e in
    let noted = not (get_or c.args.fitting.now e false) in
    let is = told_by a c.args.self.now c.self.inside.at.items e i c.self.view_is c.self.invariant.numbers c.requires.known c.index-i.ensures in
    let inside = subst (λ ms. i < length ms) c.as_slice.ensures c.if-i-as_slice.false in
    subst (λ v. noted ≡ (is_some (mark_for v.marks v.queues e) && noted)) c.self.view_is (sym (ap (λ b. b && noted) (has_mark a e i is inside)))
