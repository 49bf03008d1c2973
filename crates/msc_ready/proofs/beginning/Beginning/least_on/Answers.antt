use Rattle.std.proofs.Common.{below_more, inl, inr, arith}
use Rattle.std.proofs.lemmas.Bool.{cases_lt}
use Rattle.msc_ready.proofs.Shared.{clash}
use Rattle.msc_ready.proofs.Begun.Barred.{front_read}
use Rattle.msc_ready.proofs.beginning.Beginning.least_on.Goals as goal

pub loop-x-init : goal.loop-x-init
loop-x-init c = λ y below comes.
    let d = c.args.ready.now.chart in
    let front = c.requires.held.lines.front c.args.i c.requires.line in
    let read = front_read d c.args.self.now.run.items c.args.self.now.fronts.items c.args.i c.index-x.result.now c.requires.held.lines c.requires.line c.index-x.ensures in
    let may = comes.1.1.may in
    clash (front.passed y (omega (arith, below, read)) may.event comes.0) may.new

pub is_barred-requires-clause-later : goal.is_barred-requires-clause-later
is_barred-requires-clause-later c =
    let d = c.args.ready.now.chart in
    let read = front_read d c.args.self.now.run.items c.args.self.now.fronts.items c.args.i c.index-x.result.now c.requires.held.lines c.requires.line c.index-x.ensures in
    let auto = c.loop-x.auto in
    omega (arith, read, auto)

pub returns-then-is_barred : goal.returns-then-is_barred
returns-then-is_barred c = λ y comes. elim (cases_lt y c.loop-x.x) [
  | inl less ↦ c.loop-x.invariant y less comes
  | inr past ↦ c.is_barred.ensures.barred c.if-is_barred.true y past comes.0 comes.1.1
]

pub returns-then-comes_among : goal.returns-then-comes_among
returns-then-comes_among c = record {
  itself = (c.is_barred.ensures.on_line c.if-is_barred.false, c.comes_among.ensures.0 c.if-comes_among.true);
  none_below = c.loop-x.invariant;
}

pub loop-x-preserved : goal.loop-x-preserved
loop-x-preserved c = below_more _ _ c.loop-x.invariant (λ comes. clash (c.comes_among.ensures.1 comes.1) c.if-comes_among.false)

pub returns : goal.returns
returns c = λ x comes.
    let below = comes.1.1.may.event in
    let last = c.loop-x-test.false in
    let all = c.events-x-end.ensures in
    c.loop-x.invariant x (omega (arith, below, last, all)) comes
