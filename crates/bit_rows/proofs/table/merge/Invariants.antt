use Rattle.std.proofs.Common.{◌≡◌, ℕ, ◌+◌, ◌*◌, ◌<◌, get_or}
use Rattle.bit_rows.proofs.Cells.{merged_to}
use Rattle.bit_rows.proofs.table.merge.Given as goal

abbrev pub invariant-loop-k : goal.invariant-loop-k
invariant-loop-k l = (x w : ℕ) → w < l.count → get_or l.words (x * l.count + w) 0 ≡ merged_to l.initial.words l.count l.e l.f l.k x w
