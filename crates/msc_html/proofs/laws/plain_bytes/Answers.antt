use Rattle.msc_html.proofs.PlainPrinted.{picture_printed, report_printed, reversal_printed}
use Rattle.msc_html.proofs.PlainReports.{report_plain}
use Rattle.msc_html.proofs.laws.plain_bytes.Goals as goal

pub returns-clause-reports : goal.returns-clause-reports
returns-clause-reports c = report_plain

pub returns-clause-pictures : goal.returns-clause-pictures
returns-clause-pictures c = picture_printed c.plain_bytes.ensures.texts c.plain_bytes.ensures.picture c.plain_bytes-2.ensures

pub returns-clause-reversals : goal.returns-clause-reversals
returns-clause-reversals c = reversal_printed c.plain_bytes.ensures.texts c.plain_bytes.ensures.picture c.plain_bytes-2.ensures

pub returns-clause-printed : goal.returns-clause-printed
returns-clause-printed c = report_printed c.plain_bytes.ensures.texts c.plain_bytes.ensures.picture c.plain_bytes-2.ensures
