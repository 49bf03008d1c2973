-- What an event does, by the end of a message that it is.
use Rattle.std.proofs.Common.{◌≡◌, ◌↔◌, ℕ, Bool, true, false, not, List, Some, None, refl, sym, ap, subst, ◌∙◌}
use Rattle.msc_parser.specs.declared.tree.Statement.{Statement}
use Rattle.msc_parser.specs.declared.tree.Statement.TheVariants as statements
use Rattle.msc_chart.specs.Events.{Act, MessageEnd, act_of, other_end}
use Rattle.msc_chart.specs.Events.Act.{OfMessage, Action}
use Rattle.msc_chart.specs.Faults.{IsUnmatched, OfEnd}
use Rattle.msc_notes.specs.Events.{end_by}
use Rattle.msc_notes.specs.Putting.{HasEnds, IsAlone}

module _ (own : List ℕ) where
  -- an event that is an end of a message does that
  pub ended : (s : Statement) (x : MessageEnd) → end_by own s ≡ Some x → act_of own s ≡ OfMessage x
  ended (statements.Message s) x e = cc
  ended (statements.Action text) x e = cc

  -- so what is said of its act is said of the end
  pub of_end : (P : MessageEnd → Type 0) (s : Statement) (x : MessageEnd) → end_by own s ≡ Some x
      → OfEnd P (act_of own s) ↔ P x
  of_end P s x e =
      let same = ended s x e in
      (subst (OfEnd P) same, subst (OfEnd P) (sym same))

  -- and of another event nothing of the kind is said
  pub of_none : (P : MessageEnd → Type 0) (s : Statement) → end_by own s ≡ None
      → OfEnd P (act_of own s) → ⊥
  of_none P (statements.Message s) e h = cc
  of_none P (statements.Action text) e h = h

-- two acts are one end where their ends are one
pub with_end : (act : Act) (y x : MessageEnd) → act ≡ OfMessage y → (act ≡ OfMessage x) ↔ (y ≡ x)
with_end act y x is = (
  λ e. let same : OfMessage y ≡ OfMessage x = sym is ∙ e in cc,
  λ e. is ∙ ap OfMessage e,
)

-- what was there is not new
pub not_new : (was new : Bool) → new ≡ not was → (not new ≡ true) ↔ (was ≡ true)
not_new true new is = rw is (λ h. refl, λ h. refl)
not_new false new is = rw is (λ h. h, λ h. h)

-- what holds of an end by one fact holds of it by another
pub end_same_by : (P Q : MessageEnd → Type 0) → ((x : MessageEnd) → P x ↔ Q x)
    → (a : Act) → OfEnd P a ↔ OfEnd Q a
end_same_by P Q h (OfMessage x) = h x
end_same_by P Q h (Action text) = (λ u. u, λ u. u)

-- an end has no other end among the ends of all events
pub alone_same : (sends : Bool) (keys : List MessageEnd) (acts : List Act) → HasEnds keys acts
    → (x : MessageEnd) → IsAlone sends keys x ↔ IsUnmatched sends acts x
alone_same sends keys acts h x = (
  λ a. record { kind = a.kind; alone = λ o. a.alone ((h (other_end x)).1 o) },
  λ u. record { kind = u.kind; alone = λ o. u.alone ((h (other_end x)).0 o) },
)
