use Rattle.msc_record.proofs.DocumentLemmas.{finding_is_json, parts_are_the_document}
use Rattle.msc_record.proofs.laws.parts_make_documents.Goals as goal

pub returns-clause-parts : goal.returns-clause-parts
returns-clause-parts c = parts_are_the_document

pub returns-clause-findings : goal.returns-clause-findings
returns-clause-findings c = finding_is_json
