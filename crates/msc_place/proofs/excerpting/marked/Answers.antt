use Rattle.std.proofs.Common.{◌≡◌, ◌-◌, take, drop, min, replicate, ap, ◌∙◌, arith}
use Rattle.msc_place.specs.Excerpts.{row_of}
use Rattle.msc_place.proofs.LineLemmas.{put_together}
use Rattle.msc_place.proofs.excerpting.marked.Goals as goal

pub returns : goal.returns
returns c =
    let row : c.deref.result.now ≡ take 100 (drop (c.args.before - 49) (row_of c.args.line.now)) =
    c.deref.ensures.value ∙ c.in_ok-window.ensures ∙ ap (λ n. take 100 (drop n (row_of c.args.line.now))) c.saturating_sub-first.ensures in
    let caret : c.saturating_sub-caret.result ≡ min c.args.before c.columns.result - (c.args.before - 49) =
    omega (arith, c.saturating_sub-caret.ensures, c.min.ensures, c.saturating_sub-first.ensures) in
    let blanks : c.deref-2.result.now ≡ replicate c.saturating_sub-caret.result 32 =
    c.deref-2.ensures.value ∙ c.in_ok-blanks.ensures in
    put_together c.args.line.now c.in_ok-lines.lines.items c.extend_from_slice.new.self.items c.extend_from_slice-2.new.self.items c.extend_from_slice-3.new.self.items c.extend_from_slice-4.new.self.items c.deref.result.now c.deref-2.result.now c.args.before c.columns.result c.saturating_sub-caret.result c.in_ok-lines.ensures.items c.in_ok-extend_from_slice.ensures.items c.in_ok-extend_from_slice-2.ensures.items c.in_ok-extend_from_slice-3.ensures.items c.in_ok-extend_from_slice-4.ensures.items row c.columns.ensures.count caret blanks
