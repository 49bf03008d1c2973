-- What a picture of a run keeps of it (this project's own): the order of each line, and for each
-- queue the order of its outputs.
use Rattle.std.specs.Prelude.{ℕ, ◌+◌, Bool, ◌&&◌, cond, List, [], ◌∷◌, Option, None, Some, length, map, nat_eq}
use Rattle.std.specs.List.{range_with_len}
use Rattle.msc_chart.specs.Charts.{line, is_output}
use Rattle.msc_chart.specs.Orders.{WiredChart, queue}
use Rattle.msc_picture.specs.declared.scene.RaceBar.{RaceBar}
use Rattle.msc_picture.specs.Frames.{Frame}

-- the place of an event in a list, or the length of the list
abbrev pub place_of : List ℕ → ℕ → ℕ
place_of [] e = 0
place_of (x ∷ xs) e = cond (nat_eq x e) 0 (place_of xs e + 1)

-- both are outputs of one queue
abbrev pub are_queued : WiredChart → ℕ → ℕ → Bool
are_queued chart x y =
    (is_output chart.events x && is_output chart.events y) && nat_eq (queue chart x) (queue chart y)

-- the last output of the queue of y before y in a list, or else this one
abbrev pub queued_from : WiredChart → Option ℕ → List ℕ → ℕ → Option ℕ
queued_from chart last [] y = last
queued_from chart last (x ∷ xs) y =
    cond (nat_eq x y) last (queued_from chart (cond (are_queued chart x y) (Some x) last) xs y)

-- the output before y in its queue, in the order of a run
abbrev pub queued_before : WiredChart → List ℕ → ℕ → Option ℕ
queued_before chart run y = queued_from chart None run y

-- a run: each event is a level of its own, and outputs are drawn after those before them in their
-- queues
abbrev pub run_frame : WiredChart → List ℕ → Frame
run_frame chart run = record {
  events = chart.events;
  levels = map (place_of run) (range_with_len 0 (length chart.events));
  after = map (queued_before chart run) (range_with_len 0 (length chart.events));
}

-- the bar of the race (e, f) that a run reverses: f is drawn above e
abbrev pub run_bar : WiredChart → ℕ → ℕ → ℕ → RaceBar
run_bar chart e f number = record {
  instance = line chart.events e;
  upper = f ∷ [];
  lower = e ∷ [];
  first = number;
  last = number;
}
