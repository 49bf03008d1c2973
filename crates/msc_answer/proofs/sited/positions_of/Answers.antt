use Rattle.std.proofs.Common.{◌∙◌, sym}
use Rattle.msc_answer.proofs.sited.positions_of.Goals as goal

pub returns-in_ok-event_positions-in-None : goal.returns-in_ok-event_positions-in-None
returns-in_ok-event_positions-in-None c =
    let none = sym (rw c.in-None.is at c.imported.ensures) in
    record {
      file_is = c.in_ok-event_positions-in-None.ensures.file ∙ c.as_bytes.ensures.value;
      stand = rw (none, ← c.text.ensures) c.in_ok-event_positions-in-None.ensures.positions;
    }
