-- How deep records nest: at most six objects and arrays in each other.
use Rattle.std.proofs.Common.{ℕ, ◌≤◌, ◌+◌, Bool, true, false, List, [], ◌∷◌, ◌++◌, Option, None, Some, map, codes, arith}
use Rattle.json.specs.Json.{Json}
use Rattle.json.specs.Tree.{depth, items_depth, members_depth}
use Rattle.msc_record.specs.declared.event.EventNumber.{EventNumber}
use Rattle.msc_record.specs.declared.event.Position.{Position}
use Rattle.msc_record.specs.declared.event.Statement.{Statement}
use Rattle.msc_record.specs.declared.fault.FaultPosition.{FaultPosition}
use Rattle.msc_record.specs.Plain.{CheckedChart, Checked, Entry, Event, EventKind, Fault, FaultNote, CheckRecord, Head, Link, ListedEntry, ListedScenario, Message, Opening, Refusal}
use Rattle.msc_record.specs.Plain.Checked.{Chart, Diagram}
use Rattle.msc_record.specs.Plain.EventKind.{Output, Input, Action}
use Rattle.msc_record.specs.Members.{Member, array_of, items_of, member_if, member_if_any, members_of, natural, or_null, text}
use Rattle.msc_record.specs.Events.{event_json, event_members, kind_members, message_members, number_json, position_json, position_members, statement_members}
use Rattle.msc_record.specs.Entries.{again_members, entry_members, listed_json, pair_members, run_json, scenario_members, spoken_members}
use Rattle.msc_record.specs.Heads.{counts_members, events_json, follows_members, head_members, link_json, link_members, name_members, opening_members, own_members, positions_json, queues_members, scenarios_members}
use Rattle.msc_record.specs.Faults.{fault_json, fault_members, faults_json, note_json, notes_json as fault_notes_json, place_if, place_members, refusal_members}
use Rattle.msc_record.specs.Records.{check_json, refusal_json}

-- the values of members nest at most so deep
abbrev pub Within : ℕ → List Member → Type 0
Within n ms = members_depth (members_of ms) ≤ n

pub within_append : (n : ℕ) (xs ys : List Member) → Within n xs → Within n ys → Within n (xs ++ ys)
within_append n [] ys first second = second
within_append n (x ∷ xs) ys first second =
    let rest : Within n (xs ++ ys) = within_append n xs ys (omega arith) second in
    omega arith

pub items_within : {A : Type 0} (json : A → Json) (n : ℕ) → ((x : A) → depth (json x) ≤ n) → (xs : List A) → items_depth (items_of (map json xs)) ≤ n
items_within json n each [] = omega arith
items_within json n each (x ∷ xs) = omega (arith, each x, items_within json n each xs)

pub member_if_within : {A : Type 0} (json : A → Json) (n : ℕ) (name : List ℕ) → ((x : A) → depth (json x) ≤ n) → (o : Option A) → Within n (member_if json name o)
member_if_within json n name each None = omega arith
member_if_within json n name each (Some x) = omega (arith, each x)

pub member_if_any_within : {A : Type 0} (json : A → Json) (n : ℕ) (name : List ℕ) → ((x : A) → depth (json x) ≤ n) → (xs : List A) → Within (n + 1) (member_if_any json name xs)
member_if_any_within json n name each [] = omega arith
member_if_any_within json n name each (x ∷ xs) = omega (arith, each x, items_within json n each xs)

or_null_within : {A : Type 0} (json : A → Json) (n : ℕ) → ((x : A) → depth (json x) ≤ n) → (o : Option A) → depth (or_null json o) ≤ n
or_null_within json n each None = omega arith
or_null_within json n each (Some x) = each x

-- texts and numbers do not nest
flat_text : (t : List ℕ) → depth (text t) ≤ 0
flat_text t = omega arith

pub flat_natural : (n : ℕ) → depth (natural n) ≤ 0
flat_natural n = omega arith

-- ---- events

message_within : (m : Message) → Within 0 (message_members m)
message_within m = omega (arith, or_null_within text 0 flat_text m.number)

kind_within : (k : EventKind) → Within 0 (kind_members k)
kind_within (Output m) = omega (arith, message_within m)
kind_within (Input m) = omega (arith, message_within m)
kind_within (Action t) = omega arith

statement_within : (s : Option Statement) → Within 0 (statement_members s)
statement_within None = omega arith
statement_within (Some s) = omega arith

position_within : (p : Position) → Within 0 (position_members p)
position_within p = omega arith

event_within : (e : Event) → Within 0 (event_members e)
event_within e =
    let places = within_append 0 (position_members e.position) (statement_members e.statement) (position_within e.position) (statement_within e.statement) in
    let rest : Within 0 (kind_members e.kind ++ (position_members e.position ++ statement_members e.statement)) =
    within_append 0 (kind_members e.kind) _ (kind_within e.kind) places in
    omega arith

pub event_depth : (e : Event) → depth (event_json e) ≤ 1
event_depth e = omega (arith, event_within e)

in_round_depth : (event : ℕ) (round : Option ℕ) → depth (number_json (record { event = event; round = round })) ≤ 1
in_round_depth event None = omega arith
in_round_depth event (Some round) = omega arith

number_depth : (e : EventNumber) → depth (number_json e) ≤ 1
number_depth e = in_round_depth e.event e.round

-- ---- entries

scenario_within : (s : Option ListedScenario) → Within 1 (scenario_members s)
scenario_within None = omega arith
scenario_within (Some s) = omega (arith, items_within natural 0 flat_natural s.choices)

again_within : (b : Bool) → Within 2 (again_members b)
again_within true = omega arith
again_within false = omega arith

spoken_within : (e : Entry) → Within 2 (spoken_members e)
spoken_within e = omega (arith, items_within Json.string 0 (λ t. omega arith) e.notes)

pair_within : (e : Entry) → Within 2 (pair_members e)
pair_within e = omega (arith, event_depth e.first, event_depth e.second, number_depth e.needed, number_depth e.output)

entry_within : (e : Entry) → Within 2 (entry_members e)
unfolding entry_members
entry_within e =
    let spoken = within_append 2 (spoken_members e) (pair_members e) (spoken_within e) (pair_within e) in
    let again : Within 2 (again_members e.is_next ++ (spoken_members e ++ pair_members e)) =
    within_append 2 (again_members e.is_next) _ (again_within e.is_next) spoken in
    let scenario : Within 2 (scenario_members e.scenario) = omega (arith, scenario_within e.scenario) in
    within_append 2 (scenario_members e.scenario) _ scenario (omega (arith, again))

run_depth : (events : List EventNumber) → depth (run_json events) ≤ 2
run_depth events = omega (arith, items_within number_json 1 number_depth events)

pub listed_depth : (e : ListedEntry) → depth (listed_json e) ≤ 3
listed_depth e =
    let run = member_if_within run_json 2 (codes "run") run_depth e.run in
    omega (arith, within_append 2 (entry_members e.entry) (member_if run_json (codes "run") e.run) (entry_within e.entry) run)

-- ---- heads

opening_within : (o : Opening) → Within 0 (opening_members o)
opening_within o =
    let fence = member_if_within natural 0 (codes "fence") flat_natural o.fence in
    let rest = within_append 0 (member_if natural (codes "fence") o.fence) ((codes "status", natural o.status) ∷ []) fence (omega arith) in
    omega (arith, rest)

name_within : (c : Checked) → Within 0 (name_members c)
name_within (Chart c) = omega arith
name_within (Diagram d) = omega arith

link_within : (l : Link) → Within 0 (link_members l)
link_within l = within_append 0 (member_if text (codes "from") l.sender) _ (member_if_within text 0 (codes "from") flat_text l.sender) (omega arith)

link_depth : (l : Link) → depth (link_json l) ≤ 1
link_depth l = omega (arith, link_within l)

queues_within : (h : Head) → Within 2 (queues_members h)
queues_within h = omega (arith, member_if_any_within link_json 1 (codes "links") link_depth h.links)

scenarios_within : (c : Checked) → Within 2 (scenarios_members c)
scenarios_within (Chart c) = omega arith
scenarios_within (Diagram d) =
    within_append 2 (member_if_any text (codes "serves") d.serves) _ (omega (arith, member_if_any_within text 0 (codes "serves") flat_text d.serves)) (omega arith)

counts_within : (h : Head) → Within 0 (counts_members h.counts)
counts_within h =
    let part = λ (name : List ℕ) (o : Option ℕ). member_if_within natural 0 name flat_natural o in
    let some = within_append 0 (member_if natural (codes "accepted") h.counts.accepted) (member_if natural (codes "closest") h.counts.closest) (part _ h.counts.accepted) (part _ h.counts.closest) in
    let all = within_append 0 (member_if natural (codes "allowed") h.counts.allowed) _ (part _ h.counts.allowed) some in
    omega (arith, all)

follows_within : (ring : Option (List ℕ)) → Within 2 (follows_members ring)
follows_within None = omega arith
follows_within (Some ring) = omega (arith, items_within natural 0 flat_natural ring)

events_depth : (events : List Event) → depth (events_json events) ≤ 2
events_depth events = omega (arith, items_within event_json 1 event_depth events)

positions_depth : (positions : List Position) → depth (positions_json positions) ≤ 2
positions_depth positions = omega (arith, items_within position_json 1 (λ p. omega (arith, position_within p)) positions)

chart_within : (c : CheckedChart) → Within 2 (own_members (Chart c))
chart_within c =
    let again : Within 2 (member_if natural (codes "again") c.again) = omega (arith, member_if_within natural 0 (codes "again") flat_natural c.again) in
    let stale = member_if_within events_json 2 (codes "stale") events_depth c.stale in
    within_append 2 (follows_members c.ring) _ (follows_within c.ring) (within_append 2 (member_if natural (codes "again") c.again) (member_if events_json (codes "stale") c.stale) again stale)

own_within : (c : Checked) → Within 2 (own_members c)
own_within (Chart c) = chart_within c
own_within (Diagram d) = omega (arith, member_if_within positions_json 2 (codes "stale") positions_depth d.stale)

pub head_within : (h : Head) → members_depth (members_of (head_members h)) ≤ 2
unfolding head_members
head_within h =
    let counts : Within 2 (counts_members h.counts) = omega (arith, counts_within h) in
    let opening : Within 2 (opening_members h.opening) = omega (arith, opening_within h.opening) in
    let name : Within 2 (name_members h.checked) = omega (arith, name_within h.checked) in
    within_append 2 (opening_members h.opening) _ opening
    (within_append 2 (name_members h.checked) _ name
    (within_append 2 (queues_members h) _ (queues_within h)
    (within_append 2 (scenarios_members h.checked) _ (scenarios_within h.checked)
    (within_append 2 (counts_members h.counts) (own_members h.checked) counts (own_within h.checked)))))

pub check_depth : (f : CheckRecord) → depth (check_json f) ≤ 5
check_depth f =
    let list : Within 4 ((codes "list", array_of (map listed_json f.list)) ∷ []) = omega (arith, items_within listed_json 3 listed_depth f.list) in
    let head : Within 4 (head_members f.head) = omega (arith, head_within f.head) in
    omega (arith, within_append 4 (head_members f.head) ((codes "list", array_of (map listed_json f.list)) ∷ []) head list)

-- ---- refusals

place_within : (p : FaultPosition) → Within 0 (place_members p)
place_within p = omega (arith, member_if_within natural 0 (codes "byte") flat_natural p.byte)

place_if_within : (p : Option FaultPosition) → Within 0 (place_if p)
place_if_within None = omega arith
place_if_within (Some p) = place_within p

note_depth : (n : FaultNote) → depth (note_json n) ≤ 1
note_depth n = omega (arith, place_if_within n.position)

fault_within : (f : Fault) → Within 2 (fault_members f)
fault_within f =
    let place : Within 2 (place_if f.position) = omega (arith, place_if_within f.position) in
    let notes : Within 2 ((codes "notes", fault_notes_json f.notes) ∷ []) = omega (arith, items_within note_json 1 note_depth f.notes) in
    omega (arith, or_null_within natural 0 flat_natural f.number, within_append 2 (place_if f.position) ((codes "notes", fault_notes_json f.notes) ∷ []) place notes)

fault_depth : (f : Fault) → depth (fault_json f) ≤ 3
fault_depth f = omega (arith, fault_within f)

faults_depth : (r : Refusal) → depth (faults_json r) ≤ 5
faults_depth r =
    let first : Within 4 (fault_members r.fault) = omega (arith, fault_within r.fault) in
    omega (arith, within_append 4 (fault_members r.fault) (member_if_any fault_json (codes "further") r.further) first (member_if_any_within fault_json 3 (codes "further") fault_depth r.further))

pub refusal_depth : (r : Refusal) → depth (refusal_json r) ≤ 6
unfolding refusal_members
refusal_depth r =
    let opening : Within 5 (opening_members r.opening) = omega (arith, opening_within r.opening) in
    omega (arith, within_append 5 (opening_members r.opening) ((codes "fault", faults_json r) ∷ []) opening (omega (arith, faults_depth r)))
