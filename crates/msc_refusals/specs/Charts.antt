-- The refusal of a draft that is no chart.
use Rattle.std.specs.Prelude.{◌≡◌, ℕ, ◌-◌, List, [], ◌∷◌, ◌++◌, Option, length, map, take}
use Rattle.msc_chart.specs.declared.fault.ChartFault.{ChartFault}
use Rattle.msc_chart.specs.declared.fault.ChartFault.TheVariants as charts
use Rattle.msc_fault_words.specs.ChartFaults.{chart}
use Rattle.msc_fault_words.specs.declared.message.MessageEnd.{MessageEnd}
use Rattle.msc_notes.specs.AllFaults.{AreFurther}
use Rattle.msc_notes.specs.Events.{owned_of}
use Rattle.msc_notes.specs.FaultNotes.{AreChartNotes}
use Rattle.msc_notes.specs.Faults.{IsChartPlace}
use Rattle.msc_notes.specs.declared.note.Note.{Note}
use Rattle.msc_parser.specs.Grammar.{Tree}
use Rattle.msc_place.specs.Standing.{ArePlaces, TextPlaces}
use Rattle.msc_refusals.specs.Answers.{closing_text, IsBlock}
use Rattle.msc_refusals.specs.Ends.{said_of, AreLent}
use Rattle.msc_refusals.specs.Parts.{places_of, span_at}
use Rattle.msc_refusals.specs.Rings.{IsRingBlock}
use Rattle.msc_refusals.specs.declared.answer.RefusedText.{RefusedText}

-- A fault of a draft is printed so: with its place and the notes on it, the parts of the text at these
-- places, and the event that it is about.
pub record IsWordsBlock (r : RefusedText) (t : Tree) (fault : ChartFault) (printed : List ℕ) : Type 0 where
  pub place : Option ℕ
  pub place_is : IsChartPlace r.text.now t fault place
  pub notes : List Note
  pub notes_are : AreChartNotes r.text.now t fault notes
  pub places : TextPlaces
  pub text : places.text ≡ r.text.now
  pub places_are : ArePlaces places
  pub «end» : Option MessageEnd
  pub end_is : AreLent (said_of (owned_of t.sections) fault) «end»
  pub block : IsBlock r (chart place notes (map (span_at r.text.now (take (length (owned_of t.sections)) places.stand.events)) (places_of place notes)) «end» fault) printed

-- events that wait for each other are printed as such
abbrev pub IsChartBlock : RefusedText → Tree → ChartFault → List ℕ → Type 0
IsChartBlock r t (charts.Cyclic e) printed = IsRingBlock r t printed
IsChartBlock r t fault printed = IsWordsBlock r t fault printed

-- these faults are printed so, one after the other
abbrev pub AreBlocks : RefusedText → Tree → List ChartFault → List ℕ → Type 0
AreBlocks r t [] printed = printed ≡ []
AreBlocks r t (fault ∷ faults) printed = (block : List ℕ) × (rest : List ℕ) × IsChartBlock r t fault block
    × AreBlocks r t faults rest × (printed ≡ block ++ rest)

-- how many further faults are shown at most
abbrev pub most : ℕ
most = 20

-- A draft is refused so for its first fault: further ones follow it, and those that are not shown are
-- counted.
pub record IsDraftRefusal (r : RefusedText) (t : Tree) (fault : ChartFault) (printed : List ℕ) : Type 0 where
  pub faults : List ChartFault
  pub are_further : AreFurther t fault faults
  pub first : List ℕ
  pub first_is : IsChartBlock r t fault first
  pub more : List ℕ
  pub more_are : AreBlocks r t (take most faults) more
  pub printed_is : printed ≡ first ++ (more ++ closing_text r (length faults - most))
