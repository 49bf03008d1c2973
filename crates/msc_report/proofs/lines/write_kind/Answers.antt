use Rattle.std.proofs.KnownBytes.{Appends-nil}
use Rattle.std.proofs.lemmas.Result.{IfOk-weaker}
use Rattle.std.specs.Io.KnownBytes.{Appends}
use Rattle.msc_print.proofs.KnownBytes.{Appends-append}
use Rattle.msc_report.specs.Lines.{always_text}
use Rattle.msc_report.proofs.lines.write_kind.Goals.{then-cause+in_ok-write_all-3, else-cause}
use Rattle.msc_report.proofs.lines.write_kind.Goals as goal

pub returns : goal.returns
returns g c =
    let contents = g.W.Write.contents in
    let word = rw (c.as_bytes.ensures.value, c.word.ensures) at c.in_ok-write_all-2.ensures.bytes in
    let always : Appends (contents c.write_all-2.new.self) (contents c.if-cause.writer) (always_text c.args.cause.now.always) = elim c.if-cause.branch [
      | then-cause+in_ok-write_all-3 w ↦ rw (w.writer-is, w.if-cause.true) w.in_ok-write_all-3.ensures.bytes
      | else-cause w ↦ rw (w.writer-is, w.if-cause.false) (Appends-nil _)
    ] in
    IfOk-weaker c.write_all-3.result _ _
    (λ u ended. Appends-append _ _ _ _ _ c.in_ok-write_all.ensures.bytes
    (Appends-append _ _ _ _ _ word (Appends-append _ _ _ _ _ always ended))) c.write_all-3.ensures.bytes
