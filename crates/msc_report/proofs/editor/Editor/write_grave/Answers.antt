use Rattle.std.proofs.lemmas.Result.{IfOk-weaker}
use Rattle.msc_print.proofs.KnownBytes.{Appends-append}
use Rattle.msc_report.proofs.editor.Editor.write_grave.Goals as goal

pub returns : goal.returns
returns g c =
    let level = rw (c.as_bytes.ensures.value, c.level_word-level.ensures) at c.in_ok-write_all-2.ensures.bytes in
    let name = rw c.word-name.ensures at c.in_ok-write_bracketed.ensures in
    IfOk-weaker c.write_all-4.result _ _
    (λ u ended. Appends-append _ _ _ _ _ c.in_ok-write_event_position.ensures
    (Appends-append _ _ _ _ _ c.in_ok-write_all.ensures.bytes
    (Appends-append _ _ _ _ _ level
    (Appends-append _ _ _ _ _ c.in_ok-write_all-3.ensures.bytes
    (Appends-append _ _ _ _ _ c.in_ok-write_told.ensures
    (Appends-append _ _ _ _ _ name ended)))))) c.write_all-4.ensures.bytes
