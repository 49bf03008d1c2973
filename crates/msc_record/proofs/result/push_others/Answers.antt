use Rattle.std.proofs.Common.{Bor, List, ℕ, ◌++◌, codes, ap, sym, ◌∙◌}
use Rattle.std.proofs.lemmas.List.{take_all}
use Rattle.std.proofs.lemmas.List.Folds.{flat_map-map}
use Rattle.std.specs.List.{flat_map}
use Rattle.std.specs.String.{string_bytes}
use Rattle.msc_record.proofs.result.push_others.Goals as goal

pub returns : goal.returns
returns c =
    let l = c.loop-note in
    let notes = c.args.notes.now in
    let other = λ (text : List ℕ). codes "; " ++ text in
    let front = string_bytes c.args.message.now in
    l.invariant
    ∙ ap (λ ns. front ++ flat_map (λ note. codes "; " ++ note.now) ns) (take_all l.note-index notes c.loop-note-test.false)
    ∙ ap (λ t. front ++ t) (sym (flat_map-map other (λ (note : Bor (List ℕ)). note.now) notes))
