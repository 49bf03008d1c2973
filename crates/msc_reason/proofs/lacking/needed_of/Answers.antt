use Rattle.std.proofs.Common.{ℕ, inl, inr, sym, ap, ◌∙◌}
use Rattle.msc_reason.specs.Marked.{needed_in}
use Rattle.msc_reason.specs.declared.cause.RaceKind.{RaceKind}
use Rattle.msc_reason.proofs.lacking.needed_of.Goals as goal

pub returns-in-Early-clause-value : goal.returns-in-Early-clause-value
returns-in-Early-clause-value c =
    let needs : RaceKind → ℕ = λ kind. needed_in c.args.chart.now.events kind c.args.e in
    elim c.in-Early.is [ inl is ↦ sym (ap needs is) | inr is ↦ sym (ap needs is) ]

pub returns-in-Unordered-clause-value : goal.returns-in-Unordered-clause-value
returns-in-Unordered-clause-value c =
    let needs : RaceKind → ℕ = λ kind. needed_in c.args.chart.now.events kind c.args.e in
    c.other_end.ensures.value ∙ elim c.in-Unordered.is [ inl is ↦ sym (ap needs is) | inr is ↦ sym (ap needs is) ]
