use Rattle.std.proofs.Common.{◌≡◌, ◌++◌, drop}
use Rattle.std.specs.List.{flat_map}
use Rattle.msc_picture.specs.Scenes.{kind_text, next_name}
use Rattle.msc_picture.proofs.part.kind_of.Given as goal

abbrev pub invariant-loop-name : goal.invariant-loop-name
invariant-loop-name l =
    l.text.items ++ flat_map next_name (drop l.name-index l.others) ≡ kind_text l.names
