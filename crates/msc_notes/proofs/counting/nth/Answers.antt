use Rattle.std.proofs.Common.{◌≡◌, ◌<◌, true, false, length, map, sym, ◌∙◌, arith}
use Rattle.std.proofs.lemmas.List.{length-map}
use Rattle.std.proofs.lemmas.Option.{slice_get_within}
use Rattle.msc_notes.specs.Events.{statement_view}
use Rattle.msc_notes.specs.Sorts.{is_of}
use Rattle.msc_notes.proofs.Counted.{listed_at, counted_yes, counted_no, none_more_yes, none_more_no}
use Rattle.msc_notes.proofs.counting.nth.Goals as goal
use Rattle.msc_notes.proofs.counting.nth.Goals.{then-is_of+else-left-eq0, else-is_of}

pub loop-e-preserved : goal.loop-e-preserved
loop-e-preserved c =
    let ss = map statement_view c.args.events.now in let e = c.loop-e.e in
    let s = statement_view c.index-events-e.result in let sort = c.args.sort in let count = c.args.count in
    let listed = listed_at c.args.events.now e c.index-events-e.result c.loop-e-test.true c.index-events-e.is in
    let sum = c.loop-e.invariant.left in let none = c.loop-e.invariant.none in
    elim c.if-is_of.branch [
      | then-is_of+else-left-eq0 w ↦
          let is : is_of sort s ≡ true = sym c.is_of.ensures ∙ w.if-is_of.true in
          record {
            left = omega (arith, sum, counted_yes sort count ss e s listed is, w.left-is, w.if-left-eq0.false);
            none = none_more_yes sort count ss e c.loop-e.left sum w.if-left-eq0.false none;
          }
      | else-is_of w ↦
          let is : is_of sort s ≡ false = sym c.is_of.ensures ∙ w.if-is_of.false in
          record {
            left = omega (arith, sum, counted_no sort count ss e s listed is, w.left-is);
            none = none_more_no sort count ss e s listed is none;
          }
    ]

pub returns-then-left-eq0 : goal.returns-then-left-eq0
returns-then-left-eq0 c =
    let sum = c.loop-e.invariant.left in
    record {
      statement = statement_view c.index-events-e.result;
      listed = listed_at c.args.events.now c.loop-e.e c.index-events-e.result c.loop-e-test.true c.index-events-e.is;
      is_one = sym c.is_of.ensures ∙ c.if-is_of.true;
      earlier = omega (arith, sum, c.if-left-eq0.true);
    }

pub returns : goal.returns
returns c = λ e n.
    let ss = map statement_view c.args.events.now in
    let long : length ss ≡ length c.args.events.now = simp length-map in
    let inside : e < length ss = slice_get_within ss e n.statement n.listed in
    c.loop-e.invariant.none e (omega (arith, long, inside)) n
