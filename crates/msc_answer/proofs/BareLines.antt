-- Refusals that are told by one line.
use Rattle.std.proofs.Common.{◌≡◌, ℕ, List, [], ◌++◌, Option, sym, ap, subst, ◌∙◌}
use Rattle.std.proofs.lemmas.List.{append-nil}
use Rattle.msc_notes.specs.Texts.{error_text, IsFaultPosition}
use Rattle.msc_place.specs.declared.position.Position.{Position}
use Rattle.msc_answer.specs.Ending.{refusal_line}
use Rattle.msc_answer.specs.Extending.{BeginsSo}
use Rattle.msc_answer.specs.Refused.{IsRefusalPosition, IsRefusalText}
use Rattle.msc_answer.specs.declared.ending.Refusal.{Refusal}

-- a position of a place is one of the refusal
abbrev pub StandsSo : List ℕ → Option ℕ → Refusal → Type 0
StandsSo text place refusal = (p : Position) → IsFaultPosition text place p → IsRefusalPosition text refusal p

-- a line of a refusal at its place is the text of it
pub bare_text : (file text : List ℕ) (refusal : Refusal) (place : Option ℕ) (printed : List ℕ) → StandsSo text place refusal
    → BeginsSo file text place (refusal_line refusal) [] printed → IsRefusalText file text refusal printed
bare_text file text refusal place printed stands (p, at, is) = record {
  position = p;
  stands = stands p at;
  more = [];
  printed_is = is ∙ ap (λ (l : List ℕ). error_text file p ++ l) (sym (append-nil (refusal_line refusal)));
}

-- the same of a refusal that is this one
pub stands_as : (text : List ℕ) (place : Option ℕ) (refusal other : Refusal) → refusal ≡ other → StandsSo text place other → StandsSo text place refusal
stands_as text place refusal other is stands = subst (λ (r : Refusal). StandsSo text place r) (sym is) stands
