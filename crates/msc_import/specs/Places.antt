-- Where the arrows of a draft's events begin in the text.
use Rattle.std.specs.Prelude.{ℕ, ◌+◌, cond, Bool, false, List, [], ◌∷◌, length, map, Option, None, Some, Result, Ok}
use Rattle.std.specs.List.{flat_map}
use Rattle.std.specs.Str.{bytes_eq}
use Rattle.msc_mermaid.specs.declared.TheConstants.{DEPTH_LIMIT}
use Rattle.msc_mermaid.specs.declared.fault.ImportFault.{ImportFault}
use Rattle.msc_place.specs.declared.position.Position.{Position}
use Rattle.msc_import.specs.declared.plan.Manner.{Manner}
use Rattle.msc_import.specs.declared.spanning.EventSpans.{EventSpans}
use Rattle.msc_import.specs.declared.spanning.TextSpans.{TextSpans}
use Rattle.msc_mermaid.specs.declared.statement.Diagram.{Diagram}
use Rattle.msc_mermaid.specs.declared.statement.Placed.{Placed}
use Rattle.msc_mermaid.specs.declared.statement.Span.{Span}
use Rattle.msc_mermaid.specs.declared.statement.Statement.{Statement}
use Rattle.msc_mermaid.specs.declared.statement.Statement.TheVariants.{Declares, Says, Begins, Closes}
use Rattle.msc_scenarios.specs.Steps.{Walk, walk, at_rest, unended}
use Rattle.msc_import.specs.Plans.{Event, Plan, plans_of}
use Rattle.msc_mermaid.specs.Gives.{◌>>=◌}

-- the place of an event's arrow
abbrev pub place_of : Event → Position
place_of e = record { line = e.message.line; column = e.message.column }

-- the places of a line's events
abbrev pub places_in : Plan → List Position
places_in p = map place_of p.events

-- those of a walk, line by line, where it has a draft
unfoldable pub walk_places : Manner → Walk → Result (List Position) ImportFault
walk_places manner w = do
  plans ← plans_of manner w.steps (length w.lines)
  whole ← unended w w.ending
  Ok (flat_map places_in plans)

-- those of a diagram's scenario with these choices
unfoldable pub places : Manner → Diagram → List ℕ → Result (List Position) ImportFault
places manner d given =
    walk_places manner (walk (DEPTH_LIMIT + 1) d.statements [] (at_rest d.lines given))

-- where an event's statement and its label stand in the text, and the rounds of the loops around it
abbrev pub site_of : Event → EventSpans
site_of e = record { statement = e.message.statement; label = e.message.label; rounds = e.message.rounds }

-- those of a line's events
abbrev pub sites_in : Plan → List EventSpans
sites_in p = map site_of p.events

-- those of a walk, line by line, where it has a draft
unfoldable pub walk_spans : Manner → Walk → Result (List EventSpans) ImportFault
walk_spans manner w = do
  plans ← plans_of manner w.steps (length w.lines)
  whole ← unended w w.ending
  Ok (flat_map sites_in plans)

-- those of a diagram's scenario with these choices
unfoldable pub event_spans : Manner → Diagram → List ℕ → Result (List EventSpans) ImportFault
event_spans manner d given =
    walk_spans manner (walk (DEPTH_LIMIT + 1) d.statements [] (at_rest d.lines given))

-- a statement gives a line a shown name
abbrev pub shows : List ℕ → Statement → Bool
shows ident (Declares other None) = false
shows ident (Declares other (Some shown)) = bytes_eq other ident
shows ident (Says arrow) = false
shows ident (Begins kind) = false
shows ident (Closes closer) = false

-- where the first shown name of a line stands
unfoldable pub shown_at : List ℕ → List Placed → Option Span
shown_at ident [] = None
shown_at ident (p ∷ ps) = cond (shows ident p.statement) (Some p.shown) (shown_at ident ps)

-- where the names and the first shown names of a diagram's lines stand, what stands of these
-- events, and where its comments stand
abbrev pub sites_of : Diagram → List EventSpans → TextSpans
sites_of d events = record {
  names = d.names;
  shown = map (λ ident. shown_at ident d.statements) d.lines;
  events = events;
  comments = d.comments;
}
