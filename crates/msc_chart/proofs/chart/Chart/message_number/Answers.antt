use Rattle.std.proofs.Common.{◌≡◌, ap}
use Rattle.msc_chart.specs.Drawings.{message_at}
use Rattle.msc_chart.proofs.Readers.{seen_message}
use Rattle.msc_chart.proofs.chart.Chart.message_number.Goals as goal

pub returns-in-Some : goal.returns-in-Some
returns-in-Some c =
    let seen : c.index-as_slice-m.result.number ≡ (message_at c.args.self.now c.args.m).number = ap (λ v. v.number) (seen_message _ _ c.self.view_is _ c.as_slice.ensures c.args.m _ c.requires c.index-as_slice-m.is) in
    cc
