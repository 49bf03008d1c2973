use Rattle.std.proofs.Common.{◌≡◌, ◌*◌, ◌/◌, ◌≤◌, length, take, subst, sym, arith}
use Rattle.msc_place.specs.Positions.{IsPosition}
use Rattle.msc_place.proofs.PositionLemmas.{room_behind, position_moved}
use Rattle.msc_place.proofs.MarkLemmas.{mark_before}
use Rattle.msc_place.proofs.index.Lines.position.Goals as goal

pub moved-requires-clause-line : goal.moved-requires-clause-line
moved-requires-clause-line c =
    let text = c.self.inside.text.now in let at = c.args.at in let mark = c.index.result.now in
    let same : text ≡ c.args.self.now = c.self.view_is in
    let le : at ≤ length text = subst (λ t. at ≤ length t) (sym same) c.requires in
    let h = mark_before text c.self.inside.marks.items at mark c.self.invariant le c.index.ensures in
    (room_behind text (at / 256 * 256) at mark.line mark.column h (omega arith) le (omega (arith, c.self.told))).0

pub moved-requires-clause-column : goal.moved-requires-clause-column
moved-requires-clause-column c =
    let text = c.self.inside.text.now in let at = c.args.at in let mark = c.index.result.now in
    let same : text ≡ c.args.self.now = c.self.view_is in
    let le : at ≤ length text = subst (λ t. at ≤ length t) (sym same) c.requires in
    let h = mark_before text c.self.inside.marks.items at mark c.self.invariant le c.index.ensures in
    (room_behind text (at / 256 * 256) at mark.line mark.column h (omega arith) le (omega (arith, c.self.told))).1

pub moved-requires-clause-first : goal.moved-requires-clause-first
moved-requires-clause-first c =
    let text = c.self.inside.text.now in let at = c.args.at in let mark = c.index.result.now in
    let same : text ≡ c.args.self.now = c.self.view_is in
    let le : at ≤ length text = subst (λ t. at ≤ length t) (sym same) c.requires in
    let h = mark_before text c.self.inside.marks.items at mark c.self.invariant le c.index.ensures in
    (room_behind text (at / 256 * 256) at mark.line mark.column h (omega arith) le (omega (arith, c.self.told))).2

pub returns : goal.returns
returns c =
    let text = c.self.inside.text.now in let at = c.args.at in let mark = c.index.result.now in
    let same : text ≡ c.args.self.now = c.self.view_is in
    let le : at ≤ length text = subst (λ t. at ≤ length t) (sym same) c.requires in
    let h = mark_before text c.self.inside.marks.items at mark c.self.invariant le c.index.ensures in
    subst (λ t. IsPosition t at c.moved.result.line c.moved.result.column) same
    (position_moved text (at / 256 * 256) at _ _ (omega arith) (c.moved.ensures (take (at / 256 * 256) text) h))
