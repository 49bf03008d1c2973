-- What is answered of all scenarios of a diagram.
use Rattle.std.proofs.Common.{◌≡◌, ℕ, false, true, List, [], Result, Ok, Err, refl, sym, ap, ◌∙◌, ◌⊎◌, inl, inr}
use Rattle.std.specs.List.{list_any}
use Rattle.msc_mermaid.specs.declared.fault.ImportFault.{ImportFault}
use Rattle.msc_mermaid.specs.declared.fault.ImportFault.TheVariants.{Memory, Shared}
use Rattle.msc_mermaid.specs.declared.statement.Diagram.{Diagram}
use Rattle.msc_mermaid.specs.Gives.{Fails}
use Rattle.msc_place.specs.declared.position.Position.{Position}
use Rattle.msc_scenarios.specs.Steps.{Walk}
use Rattle.msc_scenarios.specs.Laws.{walked}
use Rattle.msc_import.specs.declared.drawings.Scenario.{Scenario}
use Rattle.msc_import.specs.declared.plan.Own.{Own}
use Rattle.msc_import.specs.declared.plan.Par.TheVariants as pars
use Rattle.msc_import.specs.Drafting.{chart_name}
use Rattle.msc_import.specs.Drawings.{list_of, refused_plans, scenarios_on, shares_line, AreDrawn}
use Rattle.msc_import.specs.Importing.{seen, told_of, with_name, RefusesSo}
use Rattle.msc_import.specs.declared.importing.Refused.{Refused}
use Rattle.msc_import.specs.Plans.{Plan}
use Rattle.msc_import.specs.Whole.{WantedAll, all_of, all_scenarios, draws_branches, refusing, wanted_choices, AreChoices}
use Rattle.msc_import.proofs.WholeLemmas.{refused_so}

module _ (own : Own) (d : Diagram) (given : List ℕ) (w : Walk) (is : w ≡ walked d given) where
  -- without such branches a scenario is planned
  pub shares_none : (plans : List Plan) → refused_plans own w ≡ Ok plans → false ≡ shares_line own d given
  unfolding shares_line
  shares_none plans e = rw (← is, e) refl

  -- with them it is refused
  pub shares_some : (at : Position) (line : ℕ) → Fails (Shared at line) (refused_plans own w) → true ≡ shares_line own d given
  unfolding shares_line
  shares_some at line (inl spent) = cc
  shares_some at line (inr e) = rw (← is, e) refl

-- all of them have drafts
drawn_all : (r : Result (List Scenario) ImportFault) → AreDrawn r → r ≡ Ok (list_of r)
drawn_all (Ok list) h = refl
drawn_all (Err fault) h = absurd h

module _ (x : WantedAll) (d : Diagram) where
  -- nothing is drawn one below the other where that is refused
  pub draws_none : x.manner.par ≡ pars.Refused → false ≡ draws_branches x d
  draws_none is = rw is refl

  -- the same scenarios are wanted then
  same_choices : wanted_choices (refusing x) d ≡ wanted_choices x d
  unfolding wanted_choices
  same_choices = refl

  module _ (lists : List (List ℕ)) (are : AreChoices x d lists) where
    -- else it is drawn so in some scenario
    pub draws_some : x.manner.par ≡ pars.Drawn → list_any (shares_line x.manner.own d) lists ≡ draws_branches x d
    unfolding all_scenarios
    draws_some is =
        rw (is, same_choices, are.wanted) (refused_so x.manner.own x.manner.par x.name d lists are.drawn)

    -- so all scenarios are those with these choices
    pub all_so : all_of x d ≡ Ok (record { name = chart_name x.name; list = list_of (scenarios_on x.manner x.name d [] lists); drawn = draws_branches x d })
    unfolding all_of all_scenarios
    all_so = rw (are.wanted, drawn_all (scenarios_on x.manner x.name d [] lists) are.drawn) refl

  -- a fault of the scenarios is told with the line that it speaks of
  pub told_not : (e : Refused) (fault : ImportFault) → (e.fault ≡ Memory) ⊎ (seen e ≡ with_name d.lines fault)
      → Fails fault (all_scenarios x d) → RefusesSo e (told_of d.lines (all_of x d))
  unfolding all_of
  told_not e fault (inl spent) h = inl spent
  told_not e fault (inr same) (inl spent) = inl (ap (λ r. r.fault) same ∙ spent)
  told_not e fault (inr same) (inr is) = inr (rw is (ap Err (sym same)))
