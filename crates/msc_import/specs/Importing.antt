-- Imports: the draft of one scenario of a text, with the places of its events, or why there is
-- none.
use Rattle.std.specs.Prelude.{◌≡◌, ◌⊎◌, ℕ, Bool, true, false, cond, ◌==◌, nat_lt, List, [], ◌∷◌, length, take, Option, None, Some, Result, Ok, Err, option_map}
use Rattle.std.specs.List.{flat_map, list_any}
use Rattle.msc_lexer.specs.declared.TheConstants.{NAME_LIMIT, TEXT_LIMIT}
use Rattle.msc_mermaid.specs.declared.fault.Expectation.TheVariants as expectations
use Rattle.msc_mermaid.specs.declared.fault.ImportFault.{ImportFault}
use Rattle.msc_mermaid.specs.declared.fault.ImportFault.TheVariants.{TooLong, Entity, Expected, Memory, Several, SeveralDiagrams, Shared}
use Rattle.msc_import.specs.declared.importing.DiagramReading.{DiagramReading}
use Rattle.msc_import.specs.declared.importing.Imported.{Imported}
use Rattle.msc_import.specs.declared.importing.Importing.{Importing}
use Rattle.msc_import.specs.declared.importing.Language.{Language}
use Rattle.msc_import.specs.declared.importing.Language.TheVariants as languages
use Rattle.msc_import.specs.declared.importing.Refused.{Refused}
use Rattle.msc_import.specs.declared.short_name.ShortName.{ShortName}
use Rattle.msc_import.specs.declared.plan.Manner.{Manner}
use Rattle.msc_mermaid.specs.declared.statement.Cross.{Cross}
use Rattle.msc_mermaid.specs.declared.statement.Diagram.{Diagram}
use Rattle.msc_scenarios.specs.Counting.{scenarios}
use Rattle.msc_import.specs.Drafting.{drawn, drawn_plans, line_name}
use Rattle.msc_markdown.specs.Markdowns.{Found, diagram_of_block, entity_on, markdown}
use Rattle.msc_mermaid.specs.Gives.{◌>>=◌}
use Rattle.msc_mermaid.specs.Lines.{lines_of}
use Rattle.msc_mermaid.specs.White.{trimmed}
use Rattle.msc_mermaid.specs.Mermaid.{end_of, first_line_place, is_head, mermaid}
use Rattle.msc_place.specs.declared.position.Position.{Position}
use Rattle.msc_scenarios.specs.Naming.{names_behind}
use Rattle.msc_import.specs.Places.{event_spans, places, places_in, sites_in, sites_of}
use Rattle.msc_import.specs.Plans.{Plan}

-- a line of the text begins with the word that a Mermaid diagram begins with
abbrev pub begins_diagram : List ℕ → Bool
begins_diagram text = list_any (λ line. is_head (trimmed line)) (lines_of text)

-- where the first byte of a text stands that is no white space, and else its end
abbrev pub begins_at : List ℕ → Position
begins_at text = first_line_place 1 (lines_of text) (end_of (lines_of text))

-- the diagram of a text that is to be told by what it holds
unfoldable pub told_by_content : Option Cross → List ℕ → Result Diagram ImportFault
told_by_content cross text =
    cond (nat_lt TEXT_LIMIT (length text)) (Err TooLong) (cond (begins_diagram text) (mermaid cross text) (Err (Expected (begins_at text) expectations.AnyDiagram)))

-- the diagram of a text in its language
unfoldable pub diagram_by : Language → Option Cross → List ℕ → Result Diagram ImportFault
diagram_by languages.Mermaid cross text = mermaid cross text
diagram_by languages.Any cross text = told_by_content cross text

-- the text itself tells its language
abbrev pub is_any : Language → Bool
is_any languages.Mermaid = false
is_any languages.Any = true

-- the diagram of a text that is none as a whole, and has sequence diagrams of these numbers: the
-- only one
abbrev pub only_diagram : Language → Option Cross → Found → List ℕ → Result Diagram ImportFault
only_diagram language cross f [] = diagram_by language cross f.text
only_diagram language cross f (n ∷ []) = diagram_of_block (is_any language) cross n f
only_diagram language cross f (n ∷ m ∷ ns) = Err (SeveralDiagrams (length (n ∷ m ∷ ns)))

-- the diagram of a text that holds this: that of the block of a number, if one is given
unfoldable pub diagram_from : Language → Option Cross → Option ℕ → Found → Result Diagram ImportFault
diagram_from language cross None f =
    cond f.whole (diagram_by language cross f.text) (only_diagram language cross f f.numbers)
diagram_from language cross (Some number) f = diagram_of_block (is_any language) cross number f

-- the diagram of a text
unfoldable pub diagram_in : Language → Option Cross → Option ℕ → List ℕ → Result Diagram ImportFault
diagram_in language cross fence text = markdown text >>= diagram_from language cross fence

-- the numbers of rounds that loops go, where scenarios are counted
abbrev pub usual_rounds : List ℕ
usual_rounds = 0 ∷ 2 ∷ []

-- the choices of the scenario that is asked for: those that are given, else of a diagram of one
-- scenario none
unfoldable pub chosen : Option (List ℕ) → Diagram → Result (List ℕ) ImportFault
chosen (Some given) d = Ok given
chosen None d = cond (scenarios usual_rounds d == 1) (Ok []) (Err (Several (scenarios usual_rounds d)))

-- what is wanted of a text: in which language it is, of Markdown which diagram, what arrows with a
-- cross are, how the scenario is drawn, its choices, if they are given, and what the name of its
-- chart is made of
pub record Wanted : Type 0 where
  pub language : Language
  pub fence : Option ℕ
  pub cross : Option Cross
  pub manner : Manner
  pub choices : Option (List ℕ)
  pub name : List ℕ

-- the same as the code has it
abbrev pub wanted : Importing → Wanted
wanted x = record {
  language = x.language;
  fence = x.fence;
  cross = x.cross;
  manner = x.manner;
  choices = option_map (λ c. c.now) x.choices;
  name = x.name.now;
}

-- what is imported of a diagram, of which these lines have these plans
unfoldable pub imported_plans : List ℕ → Diagram → List (List ℕ) → List Plan → Result Imported ImportFault
imported_plans name d lines plans = do
  draft ← drawn_plans name lines d.statements plans
  Ok (record {
    draft = draft;
    places = flat_map places_in plans;
    spans = sites_of d (flat_map sites_in plans);
  })

-- the draft of a diagram's scenario with these choices, the places of its events, and what of the
-- text people read
unfoldable pub drawn_at : Manner → List ℕ → Diagram → List ℕ → Result Imported ImportFault
drawn_at manner name d given = do
  draft ← drawn manner name d given
  at ← places manner d given
  events ← event_spans manner d given
  Ok (record { draft = draft; places = at; spans = sites_of d events })

-- those of the scenario that is asked for
unfoldable pub scenario_of : Wanted → Diagram → Result Imported ImportFault
scenario_of x d = chosen x.choices d >>= drawn_at x.manner x.name d

-- the bytes of a name that is held in place
abbrev pub short_bytes : ShortName → List ℕ
short_bytes name = take name.length name.bytes

-- why nothing is imported: the first fault, and the name of the line that it speaks of, if it does
pub record Refusal : Type 0 where
  pub fault : ImportFault
  pub name : List ℕ

-- the same as the code has it
abbrev pub seen : Refused → Refusal
seen e = record { fault = e.fault; name = short_bytes e.name }

-- the line of a diagram that a fault speaks of, by its name in charts, of which names have no more
-- bytes
abbrev pub line_shared : List (List ℕ) → ImportFault → List ℕ
line_shared lines (Shared at line) = take NAME_LIMIT (line_name (names_behind [] lines) line)
line_shared lines fault = []

-- a fault of a diagram with these lines, with the name of the line that it speaks of
abbrev pub with_name : List (List ℕ) → ImportFault → Refusal
with_name lines fault = record { fault = fault; name = line_shared lines fault }

-- what is answered of a diagram with these lines
abbrev pub told_of : {A : Type 0} → List (List ℕ) → Result A ImportFault → Result A Refusal
told_of lines (Ok x) = Ok x
told_of lines (Err fault) = Err (with_name lines fault)

-- the entity of HTML that a fault of a text speaks of
abbrev pub entity_of : Found → ImportFault → List ℕ
entity_of f (Entity here) = take NAME_LIMIT (entity_on here.line f)
entity_of f fault = []

-- what is answered of a text that holds this by its diagram, if it has one
unfoldable pub answered : {A : Type 0} → Found → (Diagram → Result A ImportFault) → Result Diagram ImportFault → Result A Refusal
answered found f (Ok d) = told_of d.lines (f d)
answered found f (Err fault) = Err (record { fault = fault; name = entity_of found fault })

-- what is answered of a text by what it holds, if it is not too long
unfoldable pub found_as : {A : Type 0} → (Found → Result A Refusal) → Result Found ImportFault → Result A Refusal
found_as f (Ok found) = f found
found_as f (Err fault) = Err (record { fault = fault; name = [] })

-- the diagram of a text that holds this, or why there is none
abbrev pub read_from : DiagramReading → Found → Result Diagram Refusal
read_from x f = answered f (λ d. Ok d) (diagram_from x.language x.cross x.fence f)

-- the diagram of a text, or why there is none
abbrev pub read : DiagramReading → List ℕ → Result Diagram Refusal
read x text = found_as (read_from x) (markdown text)

-- which diagram is wanted of a text, and how it is read
abbrev pub reading_of : Wanted → DiagramReading
reading_of x = record { language = x.language; fence = x.fence; cross = x.cross }

-- what is imported of a text that holds this
abbrev pub imported_from : Wanted → Found → Result Imported Refusal
imported_from x f =
    answered f (scenario_of x) (diagram_from x.language x.cross x.fence f)

-- what is imported of a text
abbrev pub imported : Wanted → List ℕ → Result Imported Refusal
imported x text = found_as (imported_from x) (markdown text)

-- what the code refuses is what the definition says, unless memory ran out
abbrev pub RefusesSo : {A : Type 0} → Refused → Result A Refusal → Type 0
RefusesSo e said = (e.fault ≡ Memory) ⊎ (said ≡ Err (seen e))

-- what the code answers is what the definition says, unless memory ran out
abbrev pub Imports : {A : Type 0} → Result A Refused → Result A Refusal → Type 0
Imports (Ok x) said = said ≡ Ok x
Imports (Err e) said = RefusesSo e said
