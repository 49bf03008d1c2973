use Rattle.std.proofs.Common.{◌≡◌, ◌⊎◌, ◌+◌, ◌++◌, inl, inr, arith, false, length, None, sym, ap, ◌∙◌}
use Rattle.std.proofs.lemmas.List.{length-replicate}
use Rattle.std.specs.Prelude.{replicate}
use Rattle.msc_picture.specs.Rows.{begins_segment}
use Rattle.msc_draw.specs.Marking.{bar_by}
use Rattle.msc_draw.proofs.MarkingLemmas.{same_marking, turned_new, turned_same}
use Rattle.msc_draw.proofs.marking.Marking.turn.Goals as goal
use Rattle.msc_draw.proofs.marking.Marking.turn.Goals.{else-e-gt0-via-then-e-gt0+else-begins_segment, else-e-gt0-via-else-e-gt0}

pub returns-else-e-gt0 : goal.returns-else-e-gt0
returns-else-e-gt0 c =
    let m = c.args.self.now in
    let events = c.args.chart.now.events in
    let e = c.args.e in
    let inner : (e ≡ 0) ⊎ (begins_segment events e ≡ false) =
    elim c.else-e-gt0.branch [
      | else-e-gt0-via-then-e-gt0+else-begins_segment w ↦ inr (sym w.begins_segment.ensures ∙ w.if-begins_segment.false)
      | else-e-gt0-via-else-e-gt0 w ↦ inl (omega arith)
    ] in
    record {
      told = λ told h. turned_same events e told m.bars.items m.upper m.lower m.begun m.reach
          m.told h inner;
      tables = c.requires.tables;
    }

pub returns-in_ok-begin : goal.returns-in_ok-begin
returns-in_ok-begin c =
    let m = c.args.self.now in
    let next = c.begin.new.self in
    let events = c.args.chart.now.events in
    let e = c.args.e in
    let n = length events in
    let fresh = c.in_ok-begin.ensures.fresh in
    let begins = sym c.begins_segment.ensures ∙ c.if-begins_segment.true in
    record {
      told = λ told h.
          same_marking events (e + 1) told
          (m.bars.items ++ bar_by events m.upper m.lower m.begun m.reach)
          next.bars.items (replicate n false) next.upper (replicate n false) next.lower e
          next.begun None next.reach m.told next.told c.in_ok-begin.ensures.bars fresh.upper
          fresh.lower fresh.begun fresh.reach c.in_ok-begin.ensures.told
          (turned_new events e told m.bars.items m.upper m.lower m.begun m.reach m.told h
          c.facts.ensures.in_text_order c.if-e-gt0.true c.requires.known begins);
      tables = record {
        upper = ap length fresh.upper ∙ length-replicate n false;
        lower = ap length fresh.lower ∙ length-replicate n false;
        within = omega (arith, fresh.begun, c.requires.known);
      };
    }
