-- What the code keeps of the texts of events: where their parts stand in one list of bytes.
use Rattle.std.specs.Prelude.{◌≡◌, ℕ, ◌+◌, ◌<◌, ◌≤◌, List, ◌++◌, codes, get_or, length, slice_range}
use Rattle.std.specs.List.{All}
use Rattle.msc_chart.specs.Charts as charts
use Rattle.msc_chart.specs.Drawings.{Drawing}
use Rattle.msc_report.specs.declared.event_texts.Span.{Span}
use Rattle.msc_report.specs.EventTexts.{EventText, parts_of}
use Rattle.msc_report.specs.Verdicts.{instance_text}

-- the name of the instance of event e, before what it does
abbrev pub place_text : Drawing → ℕ → List ℕ
place_text d e = codes " on " ++ (instance_text d (charts.line d.events e) ++ codes ": ")

-- the same name and a space
abbrev pub named_text : Drawing → ℕ → List ℕ
named_text d e = instance_text d (charts.line d.events e) ++ codes " "

-- the parts that stand at these places
abbrev pub text_at : List ℕ → Span → EventText
text_at bytes s = record {
  opening = slice_range bytes s.opening s.colon;
  number = slice_range bytes s.number s.colon;
  numbered = slice_range bytes s.number s.first;
  first = slice_range bytes s.first s.placed;
  second = slice_range bytes s.second s.end;
  words = slice_range bytes s.second s.stop;
  placed = slice_range bytes s.placed s.stop;
  next = slice_range bytes s.next s.end;
}

-- the places are in order, and none is past the bytes
pub record IsSpanIn (bytes : List ℕ) (s : Span) : Type 0 where
  pub opening : s.opening ≤ s.number
  pub number : s.number ≤ s.colon
  pub colon : s.colon ≤ s.first
  pub first : s.first ≤ s.next
  pub next : s.next ≤ s.placed
  pub placed : s.placed ≤ s.second
  pub second : s.second ≤ s.stop
  pub stop : s.stop ≤ s.end
  pub end : s.end ≤ length bytes

-- the text of event e was put behind the bytes, and stands at these places
pub record HasPutText (d : Drawing) (e : ℕ) (old new : List ℕ) (s : Span) : Type 0 where
  pub kept : (rest : List ℕ) × (new ≡ old ++ rest)
  pub within : IsSpanIn new s
  pub text : text_at new s ≡ parts_of d e

-- the parts of both events of a race, put behind a page as its line has them
abbrev pub with_parts : List ℕ → EventText → EventText → List ℕ
with_parts page x y = (((page ++ x.opening) ++ y.number) ++ x.first) ++ y.second

-- each part of the line of a race fits into its block, of 16 bytes for a number and of 64 for words,
-- and no block goes past so many bytes
pub record AreShort (size : ℕ) (one two : Span) : Type 0 where
  pub opening : one.colon ≤ one.opening + 16
  pub number : two.colon ≤ two.number + 16
  pub first : one.placed ≤ one.first + 64
  pub second : two.end ≤ two.second + 64
  pub first_block : one.first + 64 ≤ size
  pub second_block : two.second + 64 ≤ size

-- the parts of each of these texts do, as those of the first event and of the second
abbrev pub AllAreShort : List ℕ → List Span → Type 0
AllAreShort bytes spans = All (λ s. AreShort (length bytes) s s) spans

-- what stands at a number past the last event; no rule speaks of it
abbrev pub no_span : Span
no_span =
    record { opening = 0; number = 0; colon = 0; first = 0; next = 0; placed = 0; second = 0; stop = 0; end = 0 }

-- the texts of the events below e were put one after the other
pub record AreMade (d : Drawing) (bytes : List ℕ) (spans : List Span) (e : ℕ) : Type 0 where
  pub size : length spans ≡ e
  pub within : All (IsSpanIn bytes) spans
  pub each : (k : ℕ) → k < e → text_at bytes (get_or spans k no_span) ≡ parts_of d k
