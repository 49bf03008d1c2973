-- Stale marks as diagnostics.
use Rattle.std.specs.Prelude.{ℕ, Bool, List, [], ◌∷◌, codes}
use Rattle.msc_diagnostic.specs.declared.diagnostic.Level.TheVariants.{Warning}
use Rattle.msc_diagnostic.specs.declared.diagnostic.NoteKind.TheVariants as kinds
use Rattle.msc_diagnostic.specs.declared.mark.Sign.TheVariants.{Caret}
use Rattle.msc_diagnostic.specs.Plain.{Diagnostic, Mark, Note}
use Rattle.msc_wording.specs.Stale.{stale_sentence}
use Rattle.msc_full.specs.declared.event.ShownText.{ShownText}
use Rattle.msc_full.specs.declared.stale.StaleMark.{StaleMark}
use Rattle.msc_full.specs.Blocks.{block_of, block_text, note_of}

-- the sign below it
abbrev pub mark_at : ℕ → ℕ → Mark
mark_at first past = record { first = first; past = past; sign = Caret; label = [] }

abbrev pub stale_marks : StaleMark → List Mark
stale_marks stale = mark_at stale.first stale.past ∷ []

abbrev pub stale_notes : List Note
stale_notes = note_of kinds.Help (codes "remove it, or correct what it says") [] ∷ []

-- that of a mark with these bytes, at this place as it is printed
abbrev pub stale_at : ℕ → ℕ → List ℕ → Bool → Diagnostic
stale_at first past place has_arrow =
    block_of Warning (codes "stale") (stale_sentence has_arrow) place (mark_at first past ∷ []) stale_notes

abbrev pub stale_block : StaleMark → Diagnostic
stale_block stale = stale_at stale.first stale.past stale.place.now stale.has_arrow

abbrev pub stale_text : ShownText → StaleMark → List ℕ
stale_text text stale = block_text text (stale_block stale)
