-- What stands behind a page after two things were put there.
use Rattle.std.proofs.Common.{◌≡◌, ℕ, ◌++◌, List, [], Option, ap, sym, ◌∙◌, append_assoc}
use Rattle.std.proofs.lemmas.List.{append-nil}
use Rattle.msc_notes.specs.Texts.{error_text, IsFaultPosition}
use Rattle.msc_place.specs.declared.position.Position.{Position}
use Rattle.msc_answer.specs.Ending.{refusal_line}
use Rattle.msc_answer.specs.Extending.{BeginsSo, Extends}
use Rattle.msc_answer.specs.Refused.{IsRefusalPosition, IsRefusalText}
use Rattle.msc_answer.specs.declared.ending.Refusal.{Refusal}

-- nothing was put there
pub unchanged : (xs : List ℕ) → Extends xs xs
unchanged xs = ([], sym (append-nil xs))

-- two things are one
pub extended : (old mid new : List ℕ) → Extends old mid → Extends mid new → Extends old new
extended old mid new (first, is_mid) (second, is_new) = (first ++ second, is_new ∙ (ap (λ xs. xs ++ second) is_mid ∙ append_assoc old first second))

-- what was told of a fault is something
pub told_extends : (file text : List ℕ) (place : Option ℕ) (line old new : List ℕ)
    → (more : List ℕ) × BeginsSo file text place (line ++ more) old new → Extends old new
told_extends file text place line old new (more, (p, stands, is_new)) = (error_text file p ++ (line ++ more), is_new)

-- a refusal and what was put behind it
pub told_more : (file text : List ℕ) (refusal : Refusal) (place : Option ℕ)
    → ((p : Position) → IsFaultPosition text place p → IsRefusalPosition text refusal p) → (mid new : List ℕ)
    → (more : List ℕ) × BeginsSo file text place (refusal_line refusal ++ more) [] mid → Extends mid new → IsRefusalText file text refusal new
told_more file text refusal place its mid new (more, (p, stands, is_mid)) (rest, is_new) = record {
  position = p;
  stands = its p stands;
  more = more ++ rest;
  printed_is = is_new ∙ (ap (λ xs. xs ++ rest) is_mid
      ∙ (append_assoc (error_text file p) (refusal_line refusal ++ more) rest
      ∙ ap (λ xs. error_text file p ++ xs) (append_assoc (refusal_line refusal) more rest)));
}

-- why nothing is imported, at this position, and what was put behind it
pub import_told : (file text : List ℕ) (refusal : Refusal) (p : Position) → IsRefusalPosition text refusal p → (mid new : List ℕ)
    → mid ≡ error_text file p ++ refusal_line refusal → Extends mid new → IsRefusalText file text refusal new
import_told file text refusal p its mid new is_mid (rest, is_new) = record {
  position = p;
  stands = its;
  more = rest;
  printed_is = is_new ∙ (ap (λ xs. xs ++ rest) is_mid ∙ append_assoc (error_text file p) (refusal_line refusal) rest);
}
