use Rattle.std.proofs.Common.{inl}
use Rattle.msc_scanning.proofs.putting.put_printed.Goals as goal

pub returns-in-Ok : goal.returns-in-Ok
returns-in-Ok g c = inl c.in-Err-put_page.ensures.spent
