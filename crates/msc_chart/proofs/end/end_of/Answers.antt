use Rattle.std.proofs.Common.{◌≡◌, refl}
use Rattle.std.specs.Option.{option_copied}
use Rattle.msc_chart.proofs.end.end_of.Goals.{in-Some, in-None}
use Rattle.msc_chart.proofs.end.end_of.Goals as goal

pub returns-in-Output : goal.returns-in-Output
returns-in-Output c =
    let number : option_copied c.match-signal.number ≡ c.args.signal.now.number = elim c.match-signal.branch [ in-Some w ↦ rw w.number-is cc | in-None w ↦ rw w.number-is cc ] in
    rw (c.in-Output.is, c.as_slice-address.ensures, c.as_slice-name.ensures, number) refl

pub returns-in-Input : goal.returns-in-Input
returns-in-Input c =
    let number : option_copied c.match-signal.number ≡ c.args.signal.now.number = elim c.match-signal.branch [ in-Some w ↦ rw w.number-is cc | in-None w ↦ rw w.number-is cc ] in
    rw (c.in-Input.is, c.as_slice-address.ensures, c.as_slice-name.ensures, number) refl
