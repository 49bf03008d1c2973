use Rattle.std.proofs.Common.{ℕ, false, ap, ◌∙◌, refl}
use Rattle.std.specs.Prelude.{replicate}
use Rattle.msc_draw.proofs.marking.Marking.begin.Goals as goal

pub returns-clause-fresh : goal.returns-clause-fresh
returns-clause-fresh c =
    let tables = c.in_ok-close.ensures.tables in
    record {
      upper = c.clear.ensures ∙ ap (λ (n : ℕ). replicate n false) tables.upper;
      lower = c.clear-2.ensures ∙ ap (λ (n : ℕ). replicate n false) tables.lower;
      begun = refl;
      reach = refl;
    }
