use Rattle.std.proofs.Common.{◌≡◌, List, Option, Some, None, MatchOption, option_map, refl}
use Rattle.msc_report.specs.EventTexts.{AreTextsOf}
use Rattle.msc_report.proofs.rounds.RoundNames.made_texts.Goals as goal

-- what holds of a value, if there is one, is known of it
known : {X Y : Type 0} (f : X → Y) (P : Y → Type 0) (o : Option X)
    → ((y : Y) → option_map f o ≡ Some y → P y) → MatchOption o (Unit {0}) (λ x. P (f x))
known f P None h = tt
known f P (Some x) h = h (f x) refl

pub returns : goal.returns
returns c = known (λ x. x.now) (AreTextsOf c.args.self.now.chart.now) c.args.self.now.texts c.args.self.now.made
