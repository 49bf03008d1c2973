use Rattle.std.proofs.Common.{◌≡◌, take}
use Rattle.msc_spoken.specs.Cutting.{columns_of}
use Rattle.msc_diagnostic.proofs.characters.columns_of.Given as goal

abbrev pub invariant-loop-character : goal.invariant-loop-character
invariant-loop-character l = l.columns ≡ columns_of (take l.character-index l.characters)
