use Rattle.std.proofs.Common.{subst}
use Rattle.msc_notes.specs.Faults.{IsChartPlace}
use Rattle.msc_parser.specs.Grammar.{Tree}
use Rattle.msc_report.specs.declared.fault.Fault.TheVariants.{Chart}
use Rattle.msc_answer.proofs.Extended.{told_more}
use Rattle.msc_answer.specs.Refused.{IsPlaceOf}
use Rattle.msc_answer.specs.declared.ending.Refusal.TheVariants as refusals
use Rattle.msc_answer.proofs.refused.draft_lines.Goals as goal

pub returns : goal.returns
returns c =
    let text = c.args.text.now in
    let place = c.in_ok-told.told.place in
    let refusal = refusals.Fault (Chart c.args.fault) in
    let drafted = rw c.in_ok-places.ensures at c.in_ok-told.ensures.place in
    let its : IsPlaceOf text refusal place =
    λ t has. subst (λ (u : Tree). IsChartPlace text u c.args.fault place) (c.one_parsing.ensures.draft text c.args.draft.now t c.requires has) (drafted c.requires) in
    let put = rw (c.in_ok-lines.ensures, c.new-page.ensures) at c.in_ok-print_told.ensures in
    told_more c.args.file.now text refusal place (λ p stands. (place, its, stands)) _ _ put c.in_ok-print_further.ensures
