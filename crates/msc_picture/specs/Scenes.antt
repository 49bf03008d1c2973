-- What a picture shows, as plain data.
use Rattle.std.specs.Prelude.{◌≡◌, ℕ, ◌||◌, cond, List, [], ◌∷◌, ◌++◌, Option, None, Some, codes, map, nat_lt, length}
use Rattle.std.specs.List.{flat_map, range_with_len}
use Rattle.msc_chart.specs.declared.event.EventKind.{EventKind}
use Rattle.msc_chart.specs.declared.event.EventKind.TheVariants.{Output, Input, Local}
use Rattle.msc_chart.specs.declared.message.Message.{Message}
use Rattle.msc_chart.specs.Charts.{kind, line, message, IsLinearOrder}
use Rattle.msc_chart.specs.Drawings.{Drawing, input_of, label_of, message_at, output_of, receiver_of, sender_of}
use Rattle.msc_chart.specs.declared.wiring.Wiring.{Wiring}
use Rattle.msc_chart.specs.Orders.{WiredChart}
use Rattle.msc_chart.specs.Runs.{Run}
use Rattle.msc_chart.specs.Wirings.{wired_by}
use Rattle.msc_parser.specs.declared.tree.Section.{Section}
use Rattle.msc_parser.specs.Grammar.{Tree}
use Rattle.msc_picture.specs.declared.scene.Act.{Act}
use Rattle.msc_picture.specs.declared.scene.Act.TheVariants.{Sends, Takes, Does}
use Rattle.msc_picture.specs.declared.scene.Arrow.{Arrow}
use Rattle.msc_picture.specs.declared.scene.Head.{Head}
use Rattle.msc_picture.specs.declared.scene.RaceBar.{RaceBar}
use Rattle.msc_picture.specs.declared.scene.Scene.{Scene}
use Rattle.msc_picture.specs.declared.scene.Spot.{Spot}
use Rattle.msc_picture.specs.Frames.{chart_frame, IsDrawingOrder}
use Rattle.msc_picture.specs.Laws.{KeepsLinesOf}
use Rattle.msc_picture.specs.RunFrames.{run_frame, run_bar}
use Rattle.msc_picture.specs.Rows.{bands_of, rows_of}
use Rattle.msc_picture.specs.Bars.{bars_of}

-- a further name of a kind
abbrev pub next_name : List ℕ → List ℕ
next_name name = 32 ∷ name

-- the names of a kind with a space between
abbrev pub kind_text : List (List ℕ) → List ℕ
kind_text [] = []
kind_text (name ∷ names) = name ++ flat_map next_name names

-- the head of the instance of a section
abbrev pub head_of : Section → Head
head_of s = record { name = s.decl.name; kind = kind_text s.decl.kind }

-- a message instance name, where there is one
abbrev pub number_text : Option (List ℕ) → List ℕ
number_text None = []
number_text (Some number) = codes ", " ++ number

-- what a message is called
abbrev pub message_text : Message → List ℕ
message_text m = m.name ++ number_text m.number

-- the arrow of message m
abbrev pub arrow_of : Drawing → ℕ → Arrow
arrow_of d m = record {
  output = output_of d m;
  input = input_of d m;
  from = sender_of d m;
  to = receiver_of d m;
  label = message_text (message_at d m);
}

-- what is shown of a byte of an action's text: what is no visible character of ASCII and no space
-- is a question mark
abbrev pub shown_byte : ℕ → ℕ
shown_byte b = cond (nat_lt b 32 || nat_lt 126 b) 63 b

-- what event e does, which is of this kind
abbrev pub act_by : Drawing → ℕ → EventKind → Act
act_by d e Output = Sends (message d.events e)
act_by d e Input = Takes (message d.events e)
act_by d e Local = Does (map shown_byte (label_of d e))

-- event e
abbrev pub spot_of : Drawing → ℕ → Spot
spot_of d e = record { instance = line d.events e; act = act_by d e (kind d.events e) }

-- what each picture of a chart shows: a head for each instance, an arrow for each message, and what
-- each event does
pub record IsPopulated (draft : Tree) (d : Drawing) (s : Scene) : Type 0 where
  pub name : s.name ≡ d.name
  pub heads : s.heads ≡ map head_of draft.sections
  pub arrows : s.arrows ≡ map (arrow_of d) (range_with_len 0 (length d.messages))
  pub spots : s.spots ≡ map (spot_of d) (range_with_len 0 (length d.events))

-- the rows, the bands and the given bars of a chart, whose events are drawn by these ranks if they
-- are given
pub record IsLaidOut (d : Drawing) (ranks : Option (List ℕ)) (given : List RaceBar) (s : Scene) : Type 0 where
  pub order : List ℕ
  pub drawn : IsDrawingOrder (chart_frame d.events) ranks order
  pub linear : IsLinearOrder d.events order
  pub rows : s.rows ≡ rows_of d.events order
  pub bands : s.bands ≡ bands_of d.events s.rows
  pub bars : s.bars ≡ given

-- the picture of the chart of a draft with these bars
pub record IsMarkedSceneOf (draft : Tree) (d : Drawing) (ranks : Option (List ℕ)) (given : List RaceBar) (s : Scene) : Type 0 where
  pub shows : IsPopulated draft d s
  pub laid_out : IsLaidOut d ranks given s

-- the picture of the chart of a draft, of which these races are closest
abbrev pub IsSceneOf : Tree → Drawing → Option (List ℕ) → List (ℕ × ℕ) → Scene → Type 0
IsSceneOf draft d ranks closest s = IsMarkedSceneOf draft d ranks (bars_of d.events closest) s

-- the rows and the bar of a run of a chart under an architecture that reverses the race (e, f) of
-- this number; there are no bands
pub record IsRunLaidOut (chart : WiredChart) (ranks : Option (List ℕ)) (run : List ℕ) (e f number : ℕ) (s : Scene) : Type 0 where
  pub order : List ℕ
  pub drawn : IsDrawingOrder (run_frame chart run) ranks order
  pub is_run : Run chart order
  pub lines : KeepsLinesOf chart.events run order
  pub rows : s.rows ≡ rows_of chart.events order
  pub bands : s.bands ≡ []
  pub bars : s.bars ≡ run_bar chart e f number ∷ []

-- the picture of such a run of the chart of a draft
pub record IsRunSceneOf (draft : Tree) (w : Wiring) (ranks : Option (List ℕ)) (run : List ℕ) (e f number : ℕ) (s : Scene)
    : Type 0 where
  pub shows : IsPopulated draft w.chart.now s
  pub laid_out : IsRunLaidOut (wired_by w) ranks run e f number s
