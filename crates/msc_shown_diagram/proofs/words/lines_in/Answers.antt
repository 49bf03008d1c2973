use Rattle.std.proofs.Common.{ℕ, List, ◌∷◌, [], ◌++◌, Option, map, ap, ap₂, sym, ◌∙◌, arith}
use Rattle.std.proofs.lemmas.List.{map_push}
use Rattle.std.proofs.lemmas.List.FromFn.{map-range_with_len_more}
use Rattle.msc_shown_diagram.specs.Words.{line_pair, plain_line}
use Rattle.msc_shown_diagram.proofs.words.lines_in.Goals as goal

pub loop-i-preserved : goal.loop-i-preserved
loop-i-preserved c =
    let i = c.loop-i.i in
    let f : ℕ → List ℕ × Option (List ℕ) = line_pair c.args.text.now c.args.shown.now c.args.lines.now in
    ap (map plain_line) c.in_ok-push.ensures.items
    ∙ map_push plain_line c.loop-i.names.items c.line_name.result
    ∙ ap₂ (λ (l : List (List ℕ × Option (List ℕ))) (x : List ℕ × Option (List ℕ)). l ++ x ∷ []) c.loop-i.invariant c.line_name.ensures
    ∙ sym (map-range_with_len_more f 0 i i (omega arith))
