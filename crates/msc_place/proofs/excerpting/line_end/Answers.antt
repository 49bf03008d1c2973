use Rattle.std.proofs.Common.{◌+◌, ◌-◌, take, drop, length, ap, ◌∙◌, arith}
use Rattle.std.specs.List.{position_or_len}
use Rattle.std.proofs.lemmas.List.{length-drop, take_rest}
use Rattle.msc_place.specs.Positions.{is_line_end}
use Rattle.msc_place.proofs.LineLemmas.{line_ends_at, line_ends_last}
use Rattle.msc_place.proofs.excerpting.line_end.Goals as goal

pub returns-in-Some-clause-end : goal.returns-in-Some-clause-end
returns-in-Some-clause-end c =
    let text = c.args.text.now in let at = c.args.at in
    let rest = take (length text - at) (drop at text) in let first = c.in-Some.ensures in
    let found = line_ends_at rest c.in-Some.length first.0.high first.0.before first.1 in
    ap (λ n. at + n) (found ∙ ap (position_or_len is_line_end) (take_rest text at))

pub returns-in-None-clause-end : goal.returns-in-None-clause-end
returns-in-None-clause-end c =
    let text = c.args.text.now in let at = c.args.at in
    let rest = take (length text - at) (drop at text) in
    let found = line_ends_last rest c.in-None.ensures ∙ ap (position_or_len is_line_end) (take_rest text at) in
    let long = ap length (take_rest text at) in
    omega (arith, found, long, length-drop at text)
