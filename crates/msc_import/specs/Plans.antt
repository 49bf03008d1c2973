-- What each line has of a path: the ends of its arrows in their order, in segments. Branches of a
-- par that have one segment each on a line are a coregion there.
use Rattle.std.specs.Prelude.{ℕ, ◌+◌, ◌-◌, Bool, false, cond, not, ◌||◌, ◌&&◌, ◌==◌, nat_lt, List, [], ◌∷◌, ◌++◌, length, take, slice_get, replicate, Option, None, Some, Result, Ok, Err}
use Rattle.msc_scenarios.specs.declared.steps.Message.{Message}
use Rattle.msc_scenarios.specs.declared.steps.Step.{Step}
use Rattle.msc_scenarios.specs.declared.steps.Step.TheVariants as steps
use Rattle.msc_mermaid.specs.declared.fault.ImportFault.{ImportFault}
use Rattle.msc_mermaid.specs.declared.fault.ImportFault.TheVariants.{Shared}
use Rattle.msc_place.specs.declared.position.Position.{Position}
use Rattle.msc_import.specs.declared.plan.Frame.{Frame}
use Rattle.msc_import.specs.declared.plan.Own.{Own}
use Rattle.msc_import.specs.declared.plan.Own.TheVariants as owns
use Rattle.msc_import.specs.declared.plan.Manner.{Manner}
use Rattle.msc_import.specs.declared.plan.Par.{Par}
use Rattle.msc_import.specs.declared.plan.Par.TheVariants as pars
use Rattle.msc_import.specs.declared.plan.Planned.{Planned}
use Rattle.msc_import.specs.declared.plan.Side.{Side}
use Rattle.msc_import.specs.declared.plan.Side.TheVariants as sides
use Rattle.msc_mermaid.specs.Gives.{◌>>=◌}

-- the ends that a message to oneself has
abbrev pub own_sides : Own → List Side
own_sides owns.Action = sides.Own ∷ []
own_sides owns.Message = sides.Out ∷ sides.In ∷ []

-- the ends on a line of an arrow with one head, the upper one first
unfoldable pub single_sides : Own → ℕ → Message → List Side
single_sides own line m =
    cond m.lost (cond (m.from == line) (sides.Lost ∷ []) []) (cond (m.from == line) (cond (m.to == line) (own_sides own) (sides.Out ∷ [])) (cond (m.to == line) (sides.In ∷ []) []))

-- two lines send each other a message
unfoldable pub is_exchange : Message → Bool
is_exchange m = m.both && not m.lost && not (m.from == m.to)

-- the ends on a line of an arrow with two heads: the output of one message, and the input of the
-- other
abbrev pub exchange_sides : ℕ → Message → List Side
exchange_sides line m =
    cond (m.from == line) (sides.Out ∷ sides.InBack ∷ []) (cond (m.to == line) (sides.OutBack ∷ sides.In ∷ []) [])

-- the ends of an arrow on a line, the upper one first
unfoldable pub sides_on : Own → ℕ → Message → List Side
sides_on own line m = cond (is_exchange m) (exchange_sides line m) (single_sides own line m)

-- how far an end is drawn below the first one of its arrow: both outputs stand above both inputs
abbrev pub depth_of : Side → ℕ
depth_of sides.Out = 0
depth_of sides.OutBack = 1
depth_of sides.In = 2
depth_of sides.InBack = 3
depth_of sides.Own = 0
depth_of sides.Lost = 0

-- an end of a message
pub record Event : Type 0 where
  pub message : Message
  pub side : Side

-- an end as the code has it
abbrev pub seen : Planned → Event
seen p = record { message = p.message.now; side = p.side }

-- What a line has so far: its events, how many there are up to the end of each of its segments, and
-- the pars that are open, the innermost one last.
pub record Plan : Type 0 where
  pub events : List Event
  pub ends : List ℕ
  pub frames : List Frame

-- one event more, which is a segment
abbrev pub with_event : Plan → Event → Plan
with_event p e = record {
  events = p.events ++ e ∷ [];
  ends = p.ends ++ (length p.events + 1) ∷ [];
  frames = p.frames;
}

-- these ends of a message more
unfoldable pub with_sides : Message → List Side → Plan → Plan
with_sides m [] p = p
with_sides m (s ∷ ss) p = with_sides m ss (with_event p (record { message = m; side = s }))

-- two events more, which are one segment
abbrev pub with_both : Plan → Event → Event → Plan
with_both p e f = record {
  events = p.events ++ e ∷ f ∷ [];
  ends = p.ends ++ (length p.events + 2) ∷ [];
  frames = p.frames;
}

-- two ends of a message more, which are one segment
abbrev pub with_pair : Message → Side → Side → Plan → Plan
with_pair m s t p = with_both p (record { message = m; side = s }) (record { message = m; side = t })

-- an arrow with two heads is a coregion on each of its lines
abbrev pub exchanged : ℕ → Message → Plan → Plan
exchanged line m p =
    cond (m.from == line) (with_pair m sides.Out sides.InBack p) (cond (m.to == line) (with_pair m sides.OutBack sides.In p) p)

-- an arrow more, on this line of the diagram
unfoldable pub met : Own → ℕ → Message → Plan → Plan
met own line m p =
    cond (is_exchange m) (exchanged line m p) (with_sides m (single_sides own line m) p)

-- a par begins at this place of the text
abbrev pub opened : Position → Plan → Plan
opened place p = record {
  events = p.events;
  ends = p.ends;
  frames = p.frames ++ record { place = place; start = length p.ends; mark = length p.ends; busy = false; several = false; wide = false } ∷ [];
}

-- the innermost par, behind one branch more, when there are so many segments
abbrev pub marked : ℕ → Frame → Frame
marked n f = record {
  place = f.place;
  start = f.start;
  mark = n;
  busy = f.busy || nat_lt f.mark n;
  several = f.several || (f.busy && nat_lt f.mark n);
  wide = f.wide || nat_lt (f.mark + 1) n;
}

abbrev pub marked_last : Plan → Option Frame → Plan
marked_last p None = p
marked_last p (Some f) = record {
  events = p.events;
  ends = p.ends;
  frames = take (length p.frames - 1) p.frames ++ marked (length p.ends) f ∷ [];
}

-- several branches of a par have a segment each, and none has more: they are a coregion
abbrev pub is_coregion : Frame → Bool
is_coregion f = f.several && not f.wide

-- the segments behind a par: one coregion, or those of its branches one below the other
abbrev pub joined_ends : Plan → Frame → List ℕ
joined_ends p f =
    cond (is_coregion f) (take f.start p.ends ++ length p.events ∷ []) p.ends

-- a par is refused: of several branches with segments one has more than one
abbrev pub is_refused : Par → Frame → Bool
is_refused pars.Refused f = f.several && f.wide
is_refused pars.Drawn f = false

-- a par ends, on this line of the diagram
abbrev pub closed_last : Par → ℕ → Plan → Option Frame → Result Plan ImportFault
closed_last par line p None = Ok p
closed_last par line p (Some f) =
    cond (is_refused par f) (Err (Shared f.place line)) (Ok (record { events = p.events; ends = joined_ends p f; frames = take (length p.frames - 1) p.frames }))

-- the innermost par
abbrev pub last_frame : Plan → Option Frame
last_frame p = slice_get p.frames (length p.frames - 1)

-- one step more, on this line of the diagram
unfoldable pub planned : Manner → ℕ → Step → Plan → Result Plan ImportFault
planned manner line (steps.Meets m) p = Ok (met manner.own line m p)
planned manner line (steps.Opens text) p = Ok (opened text p)
planned manner line steps.Next p = Ok (marked_last p (last_frame p))
planned manner line steps.Closes p = closed_last manner.par line p (last_frame p)

-- nothing is planned
abbrev pub unplanned : Plan
unplanned = record { events = []; ends = []; frames = [] }

-- these steps more
unfoldable pub plan_on : Manner → ℕ → List Step → Plan → Result Plan ImportFault
plan_on manner line [] p = Ok p
plan_on manner line (s ∷ ss) p = planned manner line s p >>= (λ q. plan_on manner line ss q)

-- each line takes a step, the first line first; those before these have taken it
unfoldable pub planned_all : Manner → Step → List Plan → List Plan → Result (List Plan) ImportFault
planned_all manner s done [] = Ok done
planned_all manner s done (p ∷ ps) =
    planned manner (length done) s p >>= (λ q. planned_all manner s (done ++ q ∷ []) ps)

-- All lines take these steps, one step after the other. So the first par counts that a line
-- refuses, and there the first such line.
unfoldable pub plans_on : Manner → List Step → List Plan → Result (List Plan) ImportFault
plans_on manner [] ps = Ok ps
plans_on manner (s ∷ ss) ps = planned_all manner s [] ps >>= (λ qs. plans_on manner ss qs)

-- what so many lines have of these steps
abbrev pub plans_of : Manner → List Step → ℕ → Result (List Plan) ImportFault
plans_of manner ss lines = plans_on manner ss (replicate lines unplanned)
