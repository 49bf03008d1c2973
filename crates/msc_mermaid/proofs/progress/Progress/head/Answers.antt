use Rattle.std.proofs.Common.{length, ap, arith}
use Rattle.msc_mermaid.proofs.MermaidLemmas.{trimmed_short}
use Rattle.msc_mermaid.proofs.WhiteLemmas.{front_within}
use Rattle.msc_mermaid.proofs.progress.Progress.head.Goals as goal

pub body-requires : goal.body-requires
body-requires c =
    let room = c.line_kind_of.ensures.room c.in-Head.is in
    omega (arith, room, ap length c.trimmed.ensures, trimmed_short c.args.bytes.now (front_within 0 c.args.bytes.now), c.behind_head.ensures)
