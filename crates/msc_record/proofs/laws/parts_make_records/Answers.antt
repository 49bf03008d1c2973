use Rattle.msc_record.proofs.RecordLemmas.{entry_is_json, parts_are_the_record}
use Rattle.msc_record.proofs.laws.parts_make_records.Goals as goal

pub returns-clause-parts : goal.returns-clause-parts
returns-clause-parts c = parts_are_the_record

pub returns-clause-entries : goal.returns-clause-entries
returns-clause-entries c = entry_is_json
