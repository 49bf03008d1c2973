use Rattle.std.proofs.Common.{◌≡◌, drop}
use Rattle.msc_mermaid.specs.Patterns.{fits}
use Rattle.msc_mermaid.proofs.pattern.fits.Given as goal

abbrev pub invariant-loop-part : goal.invariant-loop-part
invariant-loop-part l = fits (drop l.part-index l.parts) l.rest ≡ fits l.parts l.bytes
