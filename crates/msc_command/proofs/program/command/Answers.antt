use Rattle.std.proofs.Common.{◌≡◌, ◌⊎◌, ℕ, inl, inr, refl, sym, subst, ◌∙◌}
use Rattle.msc_answer.specs.Ending.{status_code}
use Rattle.msc_answer.specs.declared.ending.Status.{Status}
use Rattle.msc_answer.specs.declared.ending.Status.TheVariants.{Done, Races, Refused, Unfinished, Failed}
use Rattle.msc_command.proofs.FaultNotes.{told_races, told_refused, told_unfinished}
use Rattle.msc_command.proofs.program.command.Goals as goal

-- an exit status is one of five
abbrev IsOneOfFive : ℕ → Type 0
IsOneOfFive n = (n ≡ 0) ⊎ ((n ≡ 1) ⊎ ((n ≡ 2) ⊎ ((n ≡ 3) ⊎ (n ≡ 4))))

one_of_five : (status : Status) → IsOneOfFive (status_code status)
one_of_five Done = inl refl
one_of_five Races = inr (inl refl)
one_of_five Refused = inr (inr (inl refl))
one_of_five Unfinished = inr (inr (inr (inl refl)))
one_of_five Failed = inr (inr (inr (inr refl)))

pub returns-in-Ok-clause-status : goal.returns-in-Ok-clause-status
returns-in-Ok-clause-status g c = subst IsOneOfFive (sym c.code.ensures) (one_of_five c.in-Ok.status)

pub returns-in-Ok-clause-races : goal.returns-in-Ok-clause-races
returns-in-Ok-clause-races g c one =
    told_races g.O.Write.contents c.in-Ok.status _ _ c.in-Ok.ensures.told (sym c.code.ensures ∙ one)

pub returns-in-Ok-clause-refused : goal.returns-in-Ok-clause-refused
returns-in-Ok-clause-refused g c two =
    told_refused g.O.Write.contents c.in-Ok.status _ _ c.in-Ok.ensures.told (sym c.code.ensures ∙ two)

pub returns-in-Ok-clause-unfinished : goal.returns-in-Ok-clause-unfinished
returns-in-Ok-clause-unfinished g c three =
    told_unfinished g.O.Write.contents c.in-Ok.status _ _ c.in-Ok.ensures.told (sym c.code.ensures ∙ three)

pub returns-in-Ok-clause-followed : goal.returns-in-Ok-clause-followed
returns-in-Ok-clause-followed g c =
    (c.in-Ok.status, c.code.ensures, rw c.as_slice.ensures.value at c.in-Ok.ensures.followed)
