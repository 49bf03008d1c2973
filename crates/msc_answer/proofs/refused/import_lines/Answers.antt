use Rattle.msc_answer.proofs.Extended.{import_told}
use Rattle.msc_answer.specs.declared.ending.Refusal.TheVariants as refusals
use Rattle.msc_answer.proofs.refused.import_lines.Goals as goal

pub returns : goal.returns
returns c =
    let mid = rw c.new-page.ensures at c.in_ok-print_import.ensures in
    import_told c.args.file.now c.args.text.now (refusals.Import c.args.refused) _ c.import_position-position.ensures _ _ mid c.in_ok-print_notes.ensures
