use Rattle.std.proofs.Common.{map, MatchOption, sym, subst}
use Rattle.msc_notes.specs.Events.{statement_view}
use Rattle.msc_notes.specs.Faults.{HasNone, IsFirstTooMany}
use Rattle.msc_notes.proofs.Counted.{lesser_first}
use Rattle.msc_notes.proofs.counting.last_message.Goals as goal

pub returns : goal.returns
returns c =
    let ss = map statement_view c.args.events.now in
    subst (λ o. MatchOption o (HasNone (IsFirstTooMany ss)) (IsFirstTooMany ss)) (sym c.lesser.ensures)
    (lesser_first ss c.nth-output.result c.nth-input.result c.nth-output.ensures c.nth-input.ensures)
