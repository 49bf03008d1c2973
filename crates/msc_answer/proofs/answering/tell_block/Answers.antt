use Rattle.std.proofs.Common.{◌≡◌, ℕ, List, inl, inr, refl, subst}
use Rattle.std.proofs.lemmas.Result.{err_from_is_err_and}
use Rattle.std.specs.Io.KnownBytes.{Appends}
use Rattle.msc_answer.proofs.AllSurveyed.{lines_told, lines_untold, told_block}
use Rattle.msc_answer.specs.Refused.{form_of}
use Rattle.msc_answer.specs.declared.tasks.Task.TheVariants as tasks
use Rattle.msc_answer.proofs.answering.tell_block.Goals as goal

pub returns-in_err-tell_in : goal.returns-in_err-tell_in
returns-in_err-tell_in g c =
    let p = err_from_is_err_and c.from_residual-in_err-tell_in.result c.from_residual-in_err-tell_in.ensures.1 in
    let is : form_of (tasks.Scenarios c.of_block.result) ≡ form_of (tasks.Scenarios c.args.words) = rw (c.of_block.ensures.quiet, c.of_block.ensures.check_args) refl in
    let wrote = subst (λ (bytes : List ℕ). Appends (g.O.Write.contents c.args.output.now) (g.O.Write.contents c.put.new.output) bytes)
    c.in_ok-page.ensures c.in_ok-put.ensures.1 in
    rw (p.1, p.2) (lines_untold g.O.Write.contents c.args.words c.args.file.now c.args.text.now c.args.number c.args.refusal _ is
    c.args.output.now c.put.new.output c.tell_in.new.output wrote _ c.in_err-tell_in.ensures)

pub returns-in_err-end : goal.returns-in_err-end
returns-in_err-end g c =
    let p = err_from_is_err_and c.from_residual-in_err-end.result c.from_residual-in_err-end.ensures.1 in
    let is : form_of (tasks.Scenarios c.of_block.result) ≡ form_of (tasks.Scenarios c.args.words) = rw (c.of_block.ensures.quiet, c.of_block.ensures.check_args) refl in
    let wrote = subst (λ (bytes : List ℕ). Appends (g.O.Write.contents c.args.output.now) (g.O.Write.contents c.put.new.output) bytes)
    c.in_ok-page.ensures c.in_ok-put.ensures.1 in
    rw (p.1, p.2) (inl (
      refl,
      inr (inr (lines_told g.O.Write.contents c.args.words c.args.file.now c.args.text.now c.args.number c.args.refusal _ is
          c.args.output.now c.put.new.output c.tell_in.new.output wrote c.in_ok-tell_in.ensures)),
    ))

pub returns : goal.returns
returns g c =
    let is : form_of (tasks.Scenarios c.of_block.result) ≡ form_of (tasks.Scenarios c.args.words) = rw (c.of_block.ensures.quiet, c.of_block.ensures.check_args) refl in
    let wrote = subst (λ (bytes : List ℕ). Appends (g.O.Write.contents c.args.output.now) (g.O.Write.contents c.put.new.output) bytes)
    c.in_ok-page.ensures c.in_ok-put.ensures.1 in
    let ended = subst (λ (bytes : List ℕ). Appends (g.O.Write.contents c.tell_in.new.output) (g.O.Write.contents c.put-2.new.output) bytes)
    c.in_ok-end.ensures c.in_ok-put-2.ensures.1 in
    told_block g.O.Write.contents c.args.words c.args.file.now c.args.text.now c.args.number c.args.refusal _ is
    c.args.output.now c.put.new.output c.tell_in.new.output wrote c.in_ok-tell_in.ensures _ c.put-2.new.output ended
