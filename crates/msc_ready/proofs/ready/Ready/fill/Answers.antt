use Rattle.std.proofs.Common.{inl, inr, below_more, ◌∙◌, arith}
use Rattle.msc_ready.specs.Held.{ready_of, wiring_of}
use Rattle.msc_ready.proofs.Shared.{clash}
use Rattle.msc_ready.proofs.Runs.Keeping.{HaveOneLine}
use Rattle.msc_ready.proofs.Runs.Fewer.{ready_told}
use Rattle.msc_ready.proofs.ready.Ready.fill.Goals as goal

pub loop-x-init : goal.loop-x-init
loop-x-init c = record {
  square = c.requires.square;
  sound = λ x y h. clash h (c.requires.blank x y);
  plain = λ z below. absurd (omega (arith, below));
}

pub loop-x-preserved : goal.loop-x-preserved
loop-x-preserved c =
    let i = c.loop-x.invariant in
    let plain = c.put_plain.ensures in
    record {
      square = c.put_plain.auto.rows ∙ i.square;
      sound = plain.sound;
      plain = below_more _ _ (λ z below y within h. plain.kept z y (i.plain z below y within h)) plain.row;
    }

pub loop-x-2-preserved : goal.loop-x-2-preserved
loop-x-2-preserved c =
    let i = c.loop-x-2.invariant in
    let over = c.put_over.ensures in
    record {
      square = c.put_over.auto.rows ∙ i.square;
      sound = over.sound;
      plain = λ z below y within h. over.kept z y (i.plain z below y within h);
      over = below_more _ _ (λ z below y within h. over.kept z y (i.over z below y within h)) over.row;
    }

pub returns : goal.returns
returns c =
    let r = c.args.self.now in
    let accepted = c.facts.ensures.chart in
    let lines : HaveOneLine (wiring_of r) = λ x y ix iy. c.inputs_share_lines.ensures r.queues r.chart x y accepted ix iy in
    let told = ready_told (wiring_of r) (ready_of c.args.lines.now) (c.ends_share_queues.ensures r.queues r.chart accepted) lines in
    let i = c.loop-x-2.invariant in
    let last = c.loop-x-2-test.false in
    let all = c.events-x-end-2.ensures in
    record {
      square = i.square;
      exact = λ x y below within. (
        i.sound x y,
        λ h. elim ((told x y).0 h) [
          | inl plain ↦ i.plain x below y within plain
          | inr over ↦ i.over x (omega (arith, below, last, all)) y within over
        ],
      );
    }
