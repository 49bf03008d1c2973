use Rattle.std.proofs.Common.{◌≡◌, ◌++◌, drop}
use Rattle.msc_spoken.specs.Markup.{markup_front}
use Rattle.msc_spoken.specs.Replacing.{replaced}
use Rattle.msc_spoken.proofs.markup.Markup.replaced.Given as goal

abbrev pub invariant-loop-i : goal.invariant-loop-i
invariant-loop-i l =
    l.left.items ++ replaced (markup_front l.self) l.more (drop l.i l.bytes) ≡ replaced (markup_front l.self) 0 l.bytes
