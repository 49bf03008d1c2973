use Rattle.std.proofs.Common.{◌≡◌, ◌+◌, ◌*◌, [], ◌∷◌, ◌++◌, length, take, ap, sym, subst, ◌∙◌, arith, length-append}
use Rattle.msc_place.specs.Positions.{IsPosition}
use Rattle.msc_place.specs.Marks.{AreMarksTo}
use Rattle.msc_place.proofs.PositionLemmas.{room_behind, position_moved}
use Rattle.msc_place.proofs.MarkLemmas.{mark_more}
use Rattle.msc_place.proofs.index.marks_of.Goals as goal

pub moved-here-requires-clause-line : goal.moved-here-requires-clause-line
moved-here-requires-clause-line c =
    let text = c.args.text.now in let k = c.loop-k.k in
    (room_behind text (k * 256) (k * 256 + 256) c.loop-k.here.line c.loop-k.here.column c.loop-k.invariant.here (omega arith) (omega arith) (omega arith)).0

pub moved-here-requires-clause-column : goal.moved-here-requires-clause-column
moved-here-requires-clause-column c =
    let text = c.args.text.now in let k = c.loop-k.k in
    (room_behind text (k * 256) (k * 256 + 256) c.loop-k.here.line c.loop-k.here.column c.loop-k.invariant.here (omega arith) (omega arith) (omega arith)).1

pub loop-k-preserved : goal.loop-k-preserved
loop-k-preserved c =
    let text = c.args.text.now in let k = c.loop-k.k in let here = c.moved-here.result in
    let items = c.in_ok-push-2.ensures.items in
    let marks = c.loop-k.marks.items in
    let next : k * 256 + 256 ≡ (k + 1) * 256 = omega arith in
    let moved = position_moved text (k * 256) (k * 256 + 256) here.line here.column (omega arith) (c.moved-here.ensures (take (k * 256) text) c.loop-k.invariant.here) in
    let is : IsPosition text ((k + 1) * 256) here.line here.column =
    subst (λ n. IsPosition text n here.line here.column) next moved in
    let long : length (marks ++ here ∷ []) ≡ k + 1 + 1 =
    length-append marks (here ∷ []) ∙ omega (arith, c.loop-k.invariant.each) in
    record {
      here = is;
      each = ap length items ∙ long;
      known =
          subst (λ ms. AreMarksTo text ms (k + 1 + 1)) (sym items)
          (mark_more text marks (k + 1) here c.loop-k.invariant.each c.loop-k.invariant.known is);
    }
