use Rattle.std.proofs.Common.{ℕ, ap}
use Rattle.std.specs.Prelude.{nat_le}
use Rattle.msc_links.specs.Comments.{is_near}
use Rattle.msc_links.proofs.comment.is_near.Goals as goal

pub returns : goal.returns
unfolding is_near
returns c = ap (λ (n : ℕ). nat_le n 2) c.in_ok-changes.ensures.value
