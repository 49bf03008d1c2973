use Rattle.std.proofs.Common.{ℕ, List, ◌++◌, ap, sym, ◌∙◌, append_assoc}
use Rattle.std.specs.Borrow.{Bor}
use Rattle.std.specs.List.{flat_map}
use Rattle.std.proofs.lemmas.List.Folds.{flat_map-map}
use Rattle.msc_diagnostic.specs.Rows.{further_row, note_row}
use Rattle.msc_diagnostic.proofs.frame.Frame.print_note_rows.Goals as goal

pub returns : goal.returns
returns c =
    let f = c.args.self.now in let out = c.args.out.now.items in let note = c.args.note.now in
    let first = note_row f note.kind note.text.now in
    let further = flat_map (λ (row : Bor (List ℕ)). further_row f row.now) note.rows.now in
    c.in_ok-print_all_further.ensures
    ∙ ap (λ t. t ++ further) c.in_ok-print_note.ensures
    ∙ append_assoc out first further
    ∙ ap (λ t. out ++ (first ++ t)) (sym (flat_map-map (further_row f) (λ (row : Bor (List ℕ)). row.now) note.rows.now))
