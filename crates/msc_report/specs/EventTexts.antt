-- The texts of a chart's events, made once, of which the lines of races and runs are put together.
use Rattle.std.specs.Prelude.{◌≡◌, ℕ, ◌<◌, List, [], ◌++◌, codes, get_or, length}
use Rattle.msc_chart.specs.Charts as charts
use Rattle.msc_chart.specs.Drawings.{Drawing}
use Rattle.msc_report.specs.Texts.{text_line}
use Rattle.msc_report.specs.Verdicts.{event_at, event_text, instance_text, spaced}

-- What is printed of an event: how the line of a race begins whose first event it is; its number after a
-- space, and the same before a colon and a space; of the first of two events of one line, the name of its
-- instance and what it does; of the second, what it does, to the end of the line, and without that end; of
-- any event, the name of its instance and what it does, and the same of the second of two events, to the
-- end of the line.
pub record EventText : Type 0 where
  pub opening : List ℕ
  pub number : List ℕ
  pub numbered : List ℕ
  pub first : List ℕ
  pub second : List ℕ
  pub words : List ℕ
  pub placed : List ℕ
  pub next : List ℕ

-- what is printed of event e
abbrev pub parts_of : Drawing → ℕ → EventText
parts_of d e = record {
  opening = codes "race" ++ spaced e;
  number = spaced e;
  numbered = spaced e ++ codes ": ";
  first = codes " on " ++ (instance_text d (charts.line d.events e) ++ (codes ": " ++ (event_text d e ++ codes "; ")));
  second = text_line (event_text d e);
  words = event_text d e;
  placed = event_at d e;
  next = codes "; " ++ text_line (event_at d e);
}

-- what stands at a number past the last event; no rule speaks of it
abbrev pub no_text : EventText
no_text =
    record { opening = []; number = []; numbered = []; first = []; second = []; words = []; placed = []; next = [] }

-- these are the texts of the events of a chart, in order
pub record AreTextsOf (d : Drawing) (texts : List EventText) : Type 0 where
  pub size : length texts ≡ length d.events
  pub each : (e : ℕ) → e < length d.events → get_or texts e no_text ≡ parts_of d e
