use Rattle.std.proofs.Common.{[], ◌∷◌, ◌++◌, refl, ap, ◌∙◌}
use Rattle.msc_scan.specs.declared.walk.Entry.{Entry}
use Rattle.msc_scan.specs.declared.walk.Found.TheVariants.{File}
use Rattle.msc_scan.proofs.WalkLemmas.{file_alone}
use Rattle.msc_scanning.proofs.paths.input_entry.Goals as goal

pub returns : goal.returns
returns c =
    let e : Entry = record { name = c.in_ok-name.name; found = File c.kind_of_name.result } in
    file_alone e c.args.path.now c.kind_of_name.result c.push.new.self.items c.in_ok-name.ensures.ok refl c.kind_of_name.ensures
    (c.in_ok-push.ensures.items ∙ ap (λ xs. xs ++ e ∷ []) c.new-entries.ensures.items)
