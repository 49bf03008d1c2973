use Rattle.msc_report.proofs.writing.write_draft.Goals as goal

pub returns : goal.returns
returns g c = c.write_all.ensures.bytes
