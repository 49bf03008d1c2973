use Rattle.std.proofs.Common.{◌≡◌, ◌≢◌, ◌⊎◌, ◌+◌, take, drop, count_by, inl, inr, ap, ◌∙◌, arith}
use Rattle.std.proofs.lemmas.List.{take_rest}
use Rattle.std.proofs.lemmas.Grind.{common_steps}
use Rattle.msc_place.specs.Positions.{is_line_end, begins_character}
use Rattle.msc_place.proofs.PositionLemmas.{moved_by}
use Rattle.msc_place.proofs.position.Position.moved.Goals as goal
use Rattle.msc_place.proofs.position.Position.moved.Goals.{then-start-eq0, else-start-eq0}

pub returns : goal.returns
returns c = λ before h.
    let s = c.line_start-start.result in let bytes = c.args.bytes.now in
    let lines : c.line_ends.result ≡ count_by is_line_end (take s bytes) = grind (arith, common_steps) in
    let columns : c.columns.result ≡ count_by begins_character (drop s bytes) =
    c.columns.ensures.count ∙ ap (count_by begins_character) (take_rest bytes s) in
    let from : ((s ≡ 0) × (c.if-start-eq0.column ≡ c.args.self.column)) ⊎ ((s ≢ 0) × (c.if-start-eq0.column ≡ 1)) =
    elim c.if-start-eq0.branch [
      | then-start-eq0 w ↦ inl (w.if-start-eq0.true, w.column-is)
      | else-start-eq0 w ↦ inr (w.if-start-eq0.false, w.column-is)
    ] in
    moved_by before bytes s c.args.self.line c.args.self.column _ _ c.if-start-eq0.column h c.line_start-start.ensures from
    (ap (λ n. c.args.self.line + n) lines) (ap (λ n. c.if-start-eq0.column + n) columns)
