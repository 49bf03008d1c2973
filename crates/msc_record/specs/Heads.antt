-- The members of a record before its list.
use Rattle.std.specs.Prelude.{ℕ, true, false, cond, nat_eq, List, [], ◌∷◌, ◌++◌, Option, None, Some, codes, map}
use Rattle.json.specs.Json.{Json, boolean, string}
use Rattle.msc_record.specs.declared.event.Position.{Position}
use Rattle.msc_record.specs.declared.head.Counts.{Counts}
use Rattle.msc_record.specs.Members.{Member, array_of, member_if, member_if_any, natural, object_of, text}
use Rattle.msc_record.specs.Plain.{Checked, Event, Head, Link, Opening}
use Rattle.msc_record.specs.Plain.Checked.{Chart, Diagram}
use Rattle.msc_record.specs.Events.{event_json, position_json}

-- the number of this form, which changes when a member changes its meaning
abbrev pub form : ℕ
form = 1

-- what each record begins with
abbrev pub opening_members : Opening → List Member
opening_members o =
    (codes "msc", natural form) ∷ (codes "version", string o.version) ∷ (codes "file", text o.file)
    ∷ (member_if natural (codes "fence") o.fence ++ (codes "status", natural o.status) ∷ [])

-- the name of the chart or the diagram
abbrev pub name_members : Checked → List Member
name_members (Chart c) = (codes "chart", text c.name) ∷ []
name_members (Diagram d) = (codes "diagram", text d.name) ∷ []

-- all links to an instance, or one link
abbrev pub link_members : Link → List Member
link_members l =
    member_if text (codes "from") l.sender
    ++ ((codes "to", text l.receiver) ∷ (codes "kind", string l.kind) ∷ [])

abbrev pub link_json : Link → Json
link_json l = object_of (link_members l)

abbrev pub queues_members : Head → List Member
queues_members h =
    (codes "queues", string h.queues) ∷ member_if_any link_json (codes "links") h.links

abbrev pub scenarios_members : Checked → List Member
scenarios_members (Chart c) = []
scenarios_members (Diagram d) =
    member_if_any text (codes "serves") d.serves ++ (codes "scenarios", natural d.scenarios) ∷ []

-- `pass` if there is no race
abbrev pub verdict : ℕ → List ℕ
verdict races = cond (nat_eq races 0) (codes "pass") (codes "races")

abbrev pub races_members : ℕ → List Member
races_members races =
    (codes "verdict", string (verdict races)) ∷ (codes "races", natural races) ∷ []

abbrev pub counts_members : Counts → List Member
counts_members c =
    races_members c.races
    ++ (member_if natural (codes "allowed") c.allowed
    ++ (member_if natural (codes "accepted") c.accepted
    ++ member_if natural (codes "closest") c.closest))

-- whether some run follows the drawing; if none does, the events of a ring
abbrev pub follows_members : Option (List ℕ) → List Member
follows_members None = (codes "follows", boolean true) ∷ []
follows_members (Some ring) =
    (codes "follows", boolean false) ∷ (codes "ring", array_of (map natural ring)) ∷ []

abbrev pub events_json : List Event → Json
events_json events = array_of (map event_json events)

-- the positions of marks
abbrev pub positions_json : List Position → Json
positions_json positions = array_of (map position_json positions)

-- the members that only a chart or only a diagram has
abbrev pub own_members : Checked → List Member
own_members (Chart c) =
    follows_members c.ring
    ++ (member_if natural (codes "again") c.again ++ member_if events_json (codes "stale") c.stale)
own_members (Diagram d) =
    (codes "free", natural d.free) ∷ member_if positions_json (codes "stale") d.stale

-- all members before the list
unfoldable pub head_members : Head → List Member
head_members h =
    opening_members h.opening
    ++ (name_members h.checked
    ++ (queues_members h
    ++ (scenarios_members h.checked ++ (counts_members h.counts ++ own_members h.checked))))
