use Rattle.std.proofs.Common.{ℕ, length, below_more, arith}
use Rattle.bit_rows.specs.Tables.{cell}
use Rattle.msc_ready.specs.Held.{ready_of, wiring_of}
use Rattle.msc_ready.proofs.Shared.{clash}
use Rattle.msc_ready.proofs.Putting.{put_kept, put_sound, put_there}
use Rattle.msc_ready.proofs.ready.Ready.put_plain.Goals as goal
use Rattle.msc_ready.proofs.ready.Ready.put_plain.Goals.{then-is_plain, else-is_plain}

pub loop-y-init : goal.loop-y-init
loop-y-init c = record { sound = c.requires.sound; kept = λ x y h. h; row = λ z below. absurd (omega (arith, below)) }

pub loop-y-preserved : goal.loop-y-preserved
loop-y-preserved c =
    let r = c.args.self.now in
    let n : ℕ = length r.chart.events in
    let i = c.loop-y.invariant in
    let now = cell n c.loop-y.rows in
    elim c.if-is_plain.branch [
      | then-is_plain w ↦
          let last = cell n w.put.new.words in
          let put = rw c.events-events.ensures at w.put.ensures in
          let plain = c.is_plain.ensures.0 w.if-is_plain.true in
          rw w.rows-is (record {
            sound = put_sound (wiring_of r) (ready_of c.args.lines.now) now last c.args.x c.loop-y.y put plain i.sound;
            kept = λ x y h. put_kept now last c.args.x c.loop-y.y put x y (i.kept x y h);
            row = below_more _ _ (λ z below h. put_kept now last c.args.x c.loop-y.y put c.args.x z (i.row z below h)) (λ h. put_there now last c.args.x c.loop-y.y put);
          })
      | else-is_plain w ↦ rw w.rows-is (record {
        sound = i.sound;
        kept = i.kept;
        row = below_more _ _ i.row (λ h. clash (c.is_plain.ensures.1 h) w.if-is_plain.false);
      })
    ]

pub returns-clause-row : goal.returns-clause-row
returns-clause-row c y below h =
    let last = c.loop-y-test.false in
    let all = c.events-events.ensures in
    c.loop-y.invariant.row y (omega (arith, below, last, all)) h
