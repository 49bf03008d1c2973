use Rattle.std.proofs.Common.{inl, inr}
use Rattle.msc_reason.proofs.explaining.explain.Goals as goal

pub why_of-requires : goal.why_of-requires
why_of-requires c =
    let first = rw c.in_default.is at c.in_ok-run.ensures in
    elim first [ inl same ↦ absurd (c.requires.other same) | inr before ↦ before ]

pub returns : goal.returns
returns c =
    let run = rw c.in-Some.is at c.in_ok-run.ensures in
    rw c.from_vec.ensures record {
      free = λ before. run.apart (inr before);
      shown = run;
      race = c.cause_if_race-cause.ensures;
      turned = c.in_ok-late.ensures;
    }
