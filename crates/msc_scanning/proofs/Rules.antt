-- Whether a rule alone is for a line that a text lacks.
use Rattle.std.proofs.Common.{◌≡◌, ℕ, zero, suc, List, [], ◌∷◌, MatchResult, None, Some, Result, Ok, Err, Bool, true, false, refl, sym, subst, ap}
use Rattle.msc_links.specs.Links.{FaultText, fault_text, link_of, no_instance, no_link, two_kinds}
use Rattle.msc_links.specs.Rules.{AreFaultless, AreRuled, HasFaultAt, IsFirstFault, IsRulesFault, fault_among, fault_of, has_other_kind}
use Rattle.msc_links.specs.declared.line.LineNames.{LineNames}
use Rattle.msc_links.specs.declared.link.Link.{Link}
use Rattle.msc_links.specs.declared.rule.Rule.{Rule}
use Rattle.msc_chart.specs.declared.queue.LinkKind.TheVariants.{Pair}
use Rattle.msc_chart.specs.declared.queue.Queues.{Queues}
use Rattle.msc_links.specs.declared.fault.LinkFault.TheVariants as links
use Rattle.msc_links.specs.declared.fault.RulesFault.{RulesFault}
use Rattle.msc_links.specs.declared.fault.RulesFault.TheVariants as faults
use Rattle.msc_scanning.specs.Queued.{is_lacking, lacks_line}

-- the fault of a rule for a line that the text lacks, and others
abbrev pub is_lack : FaultText → Bool
is_lack (no_link link) = false
is_lack (no_instance name) = true
is_lack (two_kinds link) = false

module _ (names : List LineNames) (rule : Rule) where
  -- a rule without a fault is for lines that the text has
  without : (l : Result Link FaultText) → fault_among names [] rule l ≡ None → lacks_line l ≡ false
  without (Ok link) none = refl
  without (Err (no_link link)) none = refl
  without (Err (no_instance name)) none = absurd cc
  without (Err (two_kinds link)) none = refl

  pub knows_faultless : AreFaultless names (rule ∷ []) → lacks_line (link_of names rule.link.now) ≡ false
  unfolding fault_of
  knows_faultless are = without (link_of names rule.link.now) (are.each 0 rule refl)

  -- a rule with a fault is for such a line if that is the fault
  with_fault : (l : Result Link FaultText) (f : FaultText) → fault_among names [] rule l ≡ Some f → lacks_line l ≡ is_lack f
  unfolding has_other_kind
  with_fault (Ok link) f some = absurd cc
  with_fault (Err (no_link link)) f some = let same : no_link link ≡ f = cc in ap is_lack same
  with_fault (Err (no_instance name)) f some = let same : no_instance name ≡ f = cc in ap is_lack same
  with_fault (Err (two_kinds link)) f some = let same : two_kinds link ≡ f = cc in ap is_lack same

  at_place : (f : FaultText) (place : ℕ) → HasFaultAt names (rule ∷ []) place f → lacks_line (link_of names rule.link.now) ≡ is_lack f
  unfolding fault_of
  at_place f zero has =
      let same : rule ≡ has.rule = cc in
      with_fault (link_of names rule.link.now) f (subst (λ (r : Rule). fault_of names [] r ≡ Some f) (sym same) has.here)
  at_place f (suc n) has = absurd cc

  pub knows_first : (f : FaultText) → IsFirstFault names (rule ∷ []) f → lacks_line (link_of names rule.link.now) ≡ is_lack f
  knows_first f is = at_place f is.place is.here

  -- no rule has no fault
  pub none_first : (f : FaultText) → IsFirstFault names [] f → ⊥
  none_first f is = cc

  -- so a rule alone tells
  pub lacking : (ruled : Result Queues RulesFault) → MatchResult ruled (AreRuled Pair [] (rule ∷ []) names) (IsRulesFault [] (rule ∷ []) names)
      → is_lacking ruled ≡ lacks_line (link_of names rule.link.now)
  lacking (Ok queues) are = sym (knows_faultless are.given_are_faultless)
  lacking (Err (faults.Text fault)) is = absurd (none_first (fault_text fault) is)
  lacking (Err (faults.Given (links.NoLink link))) (none, first) = sym (knows_first (no_link link.now) first)
  lacking (Err (faults.Given (links.NoInstance name))) (none, first) = sym (knows_first (no_instance name.now) first)
  lacking (Err (faults.Given (links.TwoKinds link))) (none, first) = sym (knows_first (two_kinds link.now) first)
