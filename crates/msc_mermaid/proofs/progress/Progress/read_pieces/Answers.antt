use Rattle.std.proofs.Common.{◌+◌, [], length, take, drop, count_by, get_or, sym, ap, ◌∙◌, arith}
use Rattle.std.proofs.lemmas.Result.{err_from_is_err_and}
use Rattle.msc_mermaid.specs.Lines.{further, is_counted}
use Rattle.msc_mermaid.specs.White.{front}
use Rattle.msc_mermaid.proofs.ColumnLemmas.{column_add}
use Rattle.msc_mermaid.proofs.ReadingLemmas.{next_room, reads_next, fails_next, reads_end, spot_is}
use Rattle.msc_mermaid.proofs.progress.Progress.read_pieces.Goals as goal

pub returns-in_err-read_piece : goal.returns-in_err-read_piece
returns-in_err-read_piece c =
    let l = c.loop-piece in let bytes = c.args.bytes.now in let p = err_from_is_err_and c.from_residual.result c.from_residual.ensures.1 in
    let piece = (get_or c.args.pieces.now l.piece-index (record { ref_ptr = (0, 0); now = [] })).now in
    let width = ap (λ n. take n (drop l.at bytes)) c.white_in_front-white.ensures.length in
    let own = c.counted.ensures.value ∙ ap (count_by is_counted) (c.first-in-loop-piece.ensures ∙ ap (take c.white_in_front-white.result) c.behind-rest.ensures ∙ width) in
    let column = ap (λ n. l.column + n) own ∙ ap (λ n. n + count_by is_counted (take (front 0 piece) (drop l.at bytes))) l.invariant.1 ∙ sym (column_add l.at (front 0 piece) bytes) in
    let spot = spot_is l.self.start c.args.line bytes (l.at + front 0 piece) _ _ column (c.further.ensures ∙ ap (λ n. further l.self.start (l.at + n)) c.white_in_front-white.ensures.length) in
    rw (p.1, p.2, ← l.invariant.2) (fails_next (λ x. x.now) c.args.pieces.now l.piece-index _ c.loop-piece-test.true c.args.cross c.args.line bytes l.at l.self _ _ spot c.behind-rest.ensures _ c.in_err-read_piece.ensures)

pub overflow_add-begin : goal.overflow_add-begin
overflow_add-begin c =
    let l = c.loop-piece in
    let more = next_room (λ x. x.now) c.args.pieces.now l.piece-index (record { ref_ptr = (0, 0); now = [] }) c.loop-piece-test.true in
    omega (arith, l.invariant.0, more, c.white_in_front-white.ensures.within)

pub overflow_add-at-in-loop-piece : goal.overflow_add-at-in-loop-piece
overflow_add-at-in-loop-piece c =
    let l = c.loop-piece in
    let more = next_room (λ x. x.now) c.args.pieces.now l.piece-index (record { ref_ptr = (0, 0); now = [] }) c.loop-piece-test.true in
    omega (arith, l.invariant.0, more)

pub loop-piece-preserved : goal.loop-piece-preserved
loop-piece-preserved c =
    let l = c.loop-piece in let bytes = c.args.bytes.now in
    let more = next_room (λ x. x.now) c.args.pieces.now l.piece-index (record { ref_ptr = (0, 0); now = [] }) c.loop-piece-test.true in
    let piece = (get_or c.args.pieces.now l.piece-index (record { ref_ptr = (0, 0); now = [] })).now in
    let width = ap (λ n. take n (drop l.at bytes)) c.white_in_front-white.ensures.length in
    let own = c.counted.ensures.value ∙ ap (count_by is_counted) (c.first-in-loop-piece.ensures ∙ ap (take c.white_in_front-white.result) c.behind-rest.ensures ∙ width) in
    let column = ap (λ n. l.column + n) own ∙ ap (λ n. n + count_by is_counted (take (front 0 piece) (drop l.at bytes))) l.invariant.1 ∙ sym (column_add l.at (front 0 piece) bytes) in
    let spot = spot_is l.self.start c.args.line bytes (l.at + front 0 piece) _ _ column (c.further.ensures ∙ ap (λ n. further l.self.start (l.at + n)) c.white_in_front-white.ensures.length) in
    let wide = c.counted-column-in-loop-piece.ensures.value ∙ ap (count_by is_counted) (c.first-passed.ensures ∙ ap (take (length piece + 1)) c.behind-rest.ensures) in
    let next = ap (λ n. l.column + n) wide ∙ ap (λ n. n + count_by is_counted (take (length piece + 1) (drop l.at bytes))) l.invariant.1 ∙ sym (column_add l.at (length piece + 1) bytes) in (
      omega (arith, l.invariant.0, more),
      next,
      sym (reads_next (λ x. x.now) c.args.pieces.now l.piece-index _ c.loop-piece-test.true c.args.cross c.args.line bytes l.at l.self _ _ spot c.behind-rest.ensures c.read_piece.new.self c.in_ok-read_piece.ensures) ∙ l.invariant.2,
    )

pub returns : goal.returns
returns c =
    let l = c.loop-piece in
    sym l.invariant.2 ∙ reads_end (λ x. x.now) c.args.pieces.now l.piece-index c.args.cross c.args.line c.args.bytes.now l.at l.self c.loop-piece-test.false
