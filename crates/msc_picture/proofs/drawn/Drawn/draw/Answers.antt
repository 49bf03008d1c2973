use Rattle.std.proofs.Common.{ℕ, ◌<◌, length, sym, subst, inl, inr, ◌∙◌}
use Rattle.std.proofs.lemmas.Bool.{cases_eq}
use Rattle.msc_picture.specs.Drawn.{HoldsLine}
use Rattle.msc_picture.proofs.DrawnLemmas.{next_may}
use Rattle.msc_picture.proofs.drawn.Drawn.draw.Goals as goal

pub instance_of-requires : goal.instance_of-requires
instance_of-requires c = (next_may c.requires.next).event

pub advance-requires-clause-known : goal.advance-requires-clause-known
advance-requires-clause-known c =
    subst (λ (w : ℕ). w < length c.args.f.now.chart.now.instances) (sym c.instance_of.ensures)
    (c.requires.held.behind.on_line c.args.e (next_may c.requires.next).event)

pub returns-clause-held : goal.returns-clause-held
returns-clause-held c = record {
  drawn = c.advance.ensures.held;
  behind = c.advance.ensures.behind;
  reached = λ j below. elim (cases_eq j c.instance_of.result) [
    | inl same ↦ subst (λ (w : ℕ). HoldsLine c.args.f.now c.advance.new.self w) (sym same)
        c.advance.ensures.reached
    | inr apart ↦ c.advance.ensures.others j apart
        (c.in_ok-push.ensures.others j below (λ is. apart (is ∙ sym c.instance_of.ensures)))
  ];
}
