-- What a comment says: a mark, a faulty one, or nothing of races.
use Rattle.std.specs.Prelude.{◌≡◌, ℕ, Bool, cond, nat_eq, nat_lt, List, Option, None, Some, Result, Ok, Err, codes}
use Rattle.std.specs.List.{list_any, starts_with}
use Rattle.msc_mark.specs.declared.fault.MarkFault.{MarkFault}
use Rattle.msc_mark.specs.declared.fault.MarkFault.TheVariants.{Part, Reason, Memory}
use Rattle.msc_mark.specs.declared.mark.Mark.{Mark}
use Rattle.msc_mark.specs.declared.place.MarkPlace.TheVariants.{Race}
use Rattle.msc_mark.specs.Words.{behind_colon, words_of}
use Rattle.msc_mark.specs.Places.{behind, is_complete}

-- the comment begins with `race ok`
abbrev pub begins_so : List ℕ → Bool
begins_so bytes = starts_with nat_eq bytes (codes "race ok")

-- a byte above 32 stands behind its first colon
abbrev pub has_reason : List ℕ → Bool
has_reason bytes = list_any (λ b. nat_lt 32 b) (behind_colon bytes)

-- its words are those of a mark, up to the reason
abbrev pub has_parts : List ℕ → Bool
has_parts bytes = is_complete (behind Race (words_of bytes))

-- why a comment whose text begins at this place is no mark, if it is to be one
unfoldable pub fault_of : ℕ → List ℕ → Option MarkFault
fault_of place bytes =
    cond (begins_so bytes) (cond (has_parts bytes) (cond (has_reason bytes) None (Some (Reason place))) (Some (Part place))) None

-- the mark of a comment in the statement of this event, if it is one
unfoldable pub mark_of : ℕ → ℕ → List ℕ → Option Mark
mark_of event place bytes =
    cond (begins_so bytes) (cond (has_parts bytes) (cond (has_reason bytes) (Some (record { event = event; place = place; words = words_of bytes })) None) None) None

-- what reading a comment answers
abbrev pub ReadsComment : ℕ → ℕ → List ℕ → Result (Option Mark) MarkFault → Type 0
ReadsComment event place bytes (Ok mark) =
    (mark ≡ mark_of event place bytes) × (fault_of place bytes ≡ None)
ReadsComment event place bytes (Err Memory) = Unit {0}
ReadsComment event place bytes (Err (Part at)) = fault_of place bytes ≡ Some (Part at)
ReadsComment event place bytes (Err (Reason at)) = fault_of place bytes ≡ Some (Reason at)
