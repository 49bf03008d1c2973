use Rattle.std.proofs.Common.{map, arith}
use Rattle.std.proofs.lemmas.List.{length-map}
use Rattle.msc_chart.specs.Views.{mark_view}
use Rattle.msc_chart.specs.Faults.{AreTooMany}
use Rattle.msc_chart.proofs.ListLemmas.{clash}
use Rattle.msc_chart.proofs.Stages.{few_actions_clear, few_messages_clear, many_actions_first, many_messages_first}
use Rattle.msc_chart.proofs.Lawful.{few_acts}
use Rattle.msc_chart.proofs.building.refuse_too_many.Goals as goal

pub returns-then-are_too_many-clause-fault : goal.returns-then-are_too_many-clause-fault
returns-then-are_too_many-clause-fault c =
    many_messages_first c.args.draft.now c.args.marks.now c.requires.acts c.requires.clear
    (c.are_too_many.ensures.0 c.if-are_too_many.true)

pub returns-then-are_too_many_actions-clause-fault : goal.returns-then-are_too_many_actions-clause-fault
returns-then-are_too_many_actions-clause-fault c =
    let few : AreTooMany (map mark_view c.args.marks.now) → ⊥ = λ m. clash (c.are_too_many.ensures.1 m) c.if-are_too_many.false in
    many_actions_first c.args.draft.now c.args.marks.now c.requires.acts
    (few_messages_clear c.args.draft.now c.args.marks.now c.requires.acts c.requires.clear few)
    (c.are_too_many_actions.ensures.0 c.if-are_too_many_actions.true)

-- few enough outputs, inputs and actions are few enough events
pub returns-clause-few : goal.returns-clause-few
returns-clause-few c =
    let acts = map mark_view c.args.marks.now in
    let few = few_acts acts (λ m. clash (c.are_too_many.ensures.1 m) c.if-are_too_many.false)
    (λ m. clash (c.are_too_many_actions.ensures.1 m) c.if-are_too_many_actions.false) in
    omega (arith, length-map c.args.marks.now mark_view, few)

pub returns-clause-clear : goal.returns-clause-clear
returns-clause-clear c =
    let d = c.args.draft.now in
    let marks = c.args.marks.now in
    few_actions_clear d marks c.requires.acts
    (few_messages_clear d marks c.requires.acts c.requires.clear (λ m. clash (c.are_too_many.ensures.1 m) c.if-are_too_many.false))
    (λ m. clash (c.are_too_many_actions.ensures.1 m) c.if-are_too_many_actions.false)
