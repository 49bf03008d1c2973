use Rattle.std.proofs.Common.{◌∙◌, arith}
use Rattle.msc_mark.proofs.Rows.{number_known, number_told, number_within}
use Rattle.msc_mark.proofs.named.NamedEvents.has.Goals as goal

pub index-requires-2 : goal.index-requires-2
index-requires-2 c =
    let s = c.self.inside in
    let known = number_known c.args.self.now s.marks.now s.chart.now s.numbers.items s.rows.items c.self.view_is c.self.invariant c.args.i c.args.f c.requires.mark c.requires.event in
    let size = s.numbers.ok.0 in
    omega (arith, known, size)

pub has-requires : goal.has-requires
has-requires c =
    let s = c.self.inside in
    number_within c.args.self.now s.marks.now s.chart.now s.numbers.items s.rows.items c.self.view_is c.self.invariant c.args.i c.args.f c.index-2.result.now c.as_slice-row.result.now c.index.result.now c.requires.mark c.requires.event c.as_slice-row.ensures c.index.ensures c.index-2.ensures

pub returns : goal.returns
returns c = λ m there.
    let s = c.self.inside in
    c.has.ensures
    ∙ number_told c.args.self.now s.marks.now s.chart.now s.numbers.items s.rows.items c.self.view_is c.self.invariant c.args.i c.args.f c.index-2.result.now c.as_slice-row.result.now c.index.result.now m c.requires.mark c.requires.event c.as_slice-row.ensures c.index.ensures c.index-2.ensures there
