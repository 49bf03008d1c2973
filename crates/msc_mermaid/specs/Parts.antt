-- A diagram in a part of a text: some of its lines, or what of them belongs to the diagram.
use Rattle.std.specs.Prelude.{ℕ, ◌-◌, Bool, true, false, cond, not, ◌&&◌, List, [], ◌∷◌, ◌++◌, replicate, Option, Result, Ok, Err}
use Rattle.msc_mermaid.specs.declared.fault.ImportFault.{ImportFault}
use Rattle.msc_mermaid.specs.declared.fault.ImportFault.TheVariants.{Entity}
use Rattle.msc_mermaid.specs.declared.key.Mark.TheVariants as marks
use Rattle.msc_mermaid.specs.declared.part.LinePart.{LinePart}
use Rattle.msc_mermaid.specs.declared.progress.Inside.{Inside}
use Rattle.msc_mermaid.specs.declared.progress.Inside.TheVariants as inside
use Rattle.msc_mermaid.specs.declared.progress.Progress.{Progress}
use Rattle.msc_mermaid.specs.declared.seeking.Sought.TheVariants as sought
use Rattle.msc_mermaid.specs.declared.line_kind.LineKind.{LineKind}
use Rattle.msc_mermaid.specs.declared.line_kind.LineKind.TheVariants as line_kinds
use Rattle.msc_mermaid.specs.declared.statement.Cross.{Cross}
use Rattle.msc_mermaid.specs.declared.statement.Diagram.{Diagram}
use Rattle.msc_mermaid.specs.Gives.{◌>>=◌}
use Rattle.msc_mermaid.specs.Lines.{further, position_of, start_on}
use Rattle.msc_mermaid.specs.Mermaid.{ended_in, line_kind_of, step, unread}
use Rattle.msc_mermaid.specs.Patterns.{is_empty}
use Rattle.msc_mermaid.specs.Seeking.{from_entity, holds}
use Rattle.msc_mermaid.specs.White.{behind_white, trimmed}
use Rattle.msc_place.specs.declared.position.Position.{Position}

-- what of the line of a number, from 1, belongs to a diagram, and how many columns and how many
-- bytes of the line stand before it
pub record Stretch : Type 0 where
  pub line : ℕ
  pub before : ℕ
  pub skipped : ℕ
  pub bytes : List ℕ

-- the same as the code has it
abbrev pub stretch : LinePart → Stretch
stretch p = record { line = p.line; before = p.before; skipped = p.skipped; bytes = p.bytes.now }

-- the line with blanks for what stands before it
abbrev pub blanked : Stretch → List ℕ
blanked s = replicate s.before 32 ++ s.bytes

-- where the line of a part would begin with these blanks, in a text whose lines begin so
abbrev pub part_start : List ℕ → Stretch → ℕ
part_start starts s = further (start_on starts s.line) (s.skipped - s.before)

-- where the first byte of a part stands that is no white space
abbrev pub place_in : Stretch → Position
place_in s = position_of s.line (blanked s) (behind_white (blanked s))

-- the first such byte of these parts of a text that ends here, and else its end
unfoldable pub first_place : List Stretch → Position → Position
first_place [] end = end
first_place (s ∷ ss) end = cond (is_empty (trimmed s.bytes)) (first_place ss end) (place_in s)

-- within this part of a text a line may be one of statements
abbrev pub may_say : Inside → Bool
may_say inside.Start = true
may_say inside.Nothing = true
may_say inside.Rest = true
may_say inside.Configuration = true
may_say part = false

-- a line of this shape is one of statements, of a diagram that has begun or not
abbrev pub is_said : Bool → LineKind → Bool
is_said begun line_kinds.Head = true
is_said begun line_kinds.Other = begun
is_said begun line_kind = false

-- a line of statements, in which no directive stands, has an entity of HTML
abbrev pub has_entity : List ℕ → Progress → Bool
has_entity bytes p =
    may_say p.inside && is_said p.begun (line_kind_of (trimmed bytes)) && not (holds bytes (sought.Text marks.Directive)) && holds bytes sought.Entity

-- where the first entity of HTML stands in a part
abbrev pub entity_place : Stretch → Position
entity_place s = position_of s.line (blanked s) (from_entity (blanked s))

-- one part more, where a browser reads the text first, or not
unfoldable pub part_step : Bool → Option Cross → List ℕ → Stretch → Progress → Result Progress ImportFault
part_step markup cross starts s p =
    cond (markup && has_entity (blanked s) p) (Err (Entity (entity_place s))) (step cross (part_start starts s) s.line (blanked s) p)

-- these parts, one by one
unfoldable pub steps_of : Bool → Option Cross → List ℕ → List Stretch → Progress → Result Progress ImportFault
steps_of markup cross starts [] p = Ok p
steps_of markup cross starts (s ∷ ss) p =
    part_step markup cross starts s p >>= (λ q. steps_of markup cross starts ss q)

-- the diagram of these parts of a text whose lines begin so, and that ends here
unfoldable pub said_of : Bool → Option Cross → List ℕ → Position → List Stretch → Result Diagram ImportFault
said_of markup cross starts end parts =
    steps_of markup cross starts parts unread >>= (λ p. ended_in end p p.inside)
