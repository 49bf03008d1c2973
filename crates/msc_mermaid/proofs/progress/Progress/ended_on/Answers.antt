use Rattle.std.proofs.Common.{[], map, ap, arith}
use Rattle.std.proofs.lemmas.List.{take_rest}
use Rattle.msc_mermaid.specs.Cutting.{room}
use Rattle.msc_mermaid.proofs.ReadingLemmas.{next_room}
use Rattle.msc_mermaid.proofs.progress.Progress.ended_on.Goals as goal

pub overflow_add-at-in-len1-up : goal.overflow_add-at-in-len1-up
overflow_add-at-in-len1-up c =
    let more = next_room (λ x. x.now) c.args.pieces.now 0 (record { ref_ptr = (0, 0); now = [] }) c.in-len1-up.len_at_least in
    omega (arith, c.requires, more)

pub read_pieces-requires : goal.read_pieces-requires
read_pieces-requires c =
    let pieces = c.args.pieces.now in
    let more = next_room (λ x. x.now) pieces 0 (record { ref_ptr = (0, 0); now = [] }) c.in-len1-up.len_at_least in
    let others = ap (λ v. room (map (λ x. x.now) v)) (take_rest pieces 1) in
    omega (arith, c.requires, more, others)
