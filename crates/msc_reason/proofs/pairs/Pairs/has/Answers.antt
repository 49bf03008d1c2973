use Rattle.std.proofs.Common.{◌≡◌, ℕ, List, sym, ap, ◌∙◌, subst}
use Rattle.bit_rows.specs.Tables.{cell}
use Rattle.msc_reason.proofs.PairLemmas.{past_first, past_second, within}
use Rattle.msc_reason.specs.PairTables.{has_pair, PairTable}
use Rattle.msc_reason.proofs.pairs.Pairs.has.Goals as goal
use Rattle.msc_reason.proofs.pairs.Pairs.has.Goals.{then-e-self-via-then-e-self, then-e-self-via-else-e-self+then-f-self}

pub returns-then-e-self : goal.returns-then-e-self
returns-then-e-self c =
    let at = λ (t : PairTable). has_pair t c.args.e c.args.f in
    sym (ap at (sym c.self.view_is) ∙ elim c.then-e-self.branch [
      | then-e-self-via-then-e-self w ↦ past_first _ c.args.e c.args.f w.if-e-self.true
      | then-e-self-via-else-e-self+then-f-self w ↦ past_second _ c.args.e c.args.f w.if-f-self.true
    ])

pub returns : goal.returns
returns c =
    let at = λ (t : PairTable). has_pair t c.args.e c.args.f in
    let n : ℕ = c.self.inside.events in
    c.has.ensures ∙ ap (λ (l : List ℕ). cell n l c.args.e c.args.f) c.as_slice.ensures.value
    ∙ sym (within _ c.args.e c.args.f c.if-e-self.false c.if-f-self.false) ∙ ap at c.self.view_is
