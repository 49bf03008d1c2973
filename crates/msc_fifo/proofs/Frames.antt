-- A step of an outlet, or one that only reads, keeps the rule where the seat's own view fits afterwards.
use Rattle.std.proofs.Common.{◌≡◌, ◌≢◌, ℕ, zero, suc, ◌+◌, ◌<◌, ◌≤◌, false, true≢false, List, [], ◌∷◌, ◌++◌, length, set, slice_index, sym, refl, ap, ◌∙◌, subst, ⊎_elim, arith, length-set, get_or-set_same, get_or-set_other}
use mathlib.Core.Option.{some, some-ne-none, some-injective}
use lib.ListN.{get_elem?}
use Rattle.atomic_table.specs.Table.{State, keeps, stepped}
use Rattle.atomic_table.proofs.Lists.{at_set}
use Rattle.msc_fifo.specs.declared.rule.Sender.{Sender}
use Rattle.msc_fifo.specs.declared.rule.TicketView.{TicketView}
use Rattle.msc_fifo.specs.World.{Slot, World, world}
use Rattle.msc_fifo.specs.Lists.{Each}
use Rattle.msc_fifo.specs.Views.{rooms_of, IsSender, Agrees, Sound, Kept}
use Rattle.msc_fifo.proofs.LogLemmas.{each-map}
use Rattle.msc_fifo.proofs.Worlds.{Grows, Spares, sender_stays, receiver_stays}

-- a change of one view
pub all_set : (F : ℕ → TicketView → Type 0) (views : List TicketView) (id : ℕ) (w : TicketView) → F id w → ((j : ℕ) (u : TicketView) → j ≢ id → get_elem? views j ≡ some u → F j u) → (j : ℕ) (u : TicketView) → get_elem? (set views id w) j ≡ some u → F j u
all_set F views id w mine others j u e = ⊎_elim (λ (x : (j ≡ id) × (w ≡ u)). subst (λ (y : ℕ × TicketView). F y.0 y.1) (λ i. (sym x.0 i, x.1 i)) mine)
    (λ (x : (j ≢ id) × (get_elem? views j ≡ some u)). others j u x.0 x.1) (at_set views id j w u e)

-- the rooms after a change of one view
pub rooms_set : (views : List TicketView) (id : ℕ) (v w : TicketView) → get_elem? views id ≡ some v → rooms_of (set views id w) + v.room ≡ rooms_of views + w.room
rooms_set [] id v w e = absurd (some-ne-none v (sym e))
rooms_set (x ∷ xs) zero v w e = let h : x.room ≡ v.room = ap (λ (u : TicketView). u.room) (some-injective x v e) in omega arith
rooms_set (x ∷ xs) (suc id) v w e = let h = rooms_set xs id v w e in omega arith

-- the rooms with one view more
pub rooms_snoc : (views : List TicketView) (w : TicketView) → rooms_of (views ++ w ∷ []) ≡ rooms_of views + w.room
rooms_snoc [] w = omega arith
rooms_snoc (x ∷ xs) w = let h = rooms_snoc xs w in omega arith

-- the room of one view is at most all rooms
pub room_within : (views : List TicketView) (id : ℕ) (v : TicketView) → get_elem? views id ≡ some v → v.room ≤ rooms_of views
room_within [] id v e = absurd (some-ne-none v (sym e))
room_within (x ∷ xs) zero v e = let h : x.room ≡ v.room = ap (λ (u : TicketView). u.room) (some-injective x v e) in omega arith
room_within (x ∷ xs) (suc id) v e = let h = room_within xs id v e in omega arith

-- a word that was written
pub this_word : (words : List ℕ) (i n : ℕ) → i < length words → slice_index (set words i n) i ≡ n
this_word words i n lt = get_or-set_same words i n 0 lt

-- another word
pub other_word : (words : List ℕ) (i j n : ℕ) → j ≢ i → slice_index (set words i n) j ≡ slice_index words j
other_word words i j n other = get_or-set_other words i j n 0 other

-- a word that is only read
set_same : (xs : List ℕ) (i : ℕ) → set xs i (slice_index xs i) ≡ xs
set_same [] i = refl
set_same (x ∷ xs) zero = refl
set_same (x ∷ xs) (suc i) = ap (λ l. x ∷ l) (set_same xs i)

-- the world that the rule speaks of
abbrev pub now : {places : ℕ} {s : State (Unit {0}) TicketView} → Kept places s → World
now {s = s} h = world h.reader h.made h.seat h.offered h.log s.words

-- the world after a step
abbrev pub next_world : {places : ℕ} {s : State (Unit {0}) TicketView} → Kept places s → (ℕ → List ℕ) → List Slot → List ℕ → World
next_world h offered log words = world h.reader h.made h.seat offered log words

-- an outlet's step: its seat, the word that it writes, what is known there then, of which sender, what
-- is offered then and what is claimed
pub record OutletStep : Type 0 where
  pub seat : ℕ
  pub word : ℕ
  pub value : ℕ
  pub view : TicketView
  pub sender : Sender
  pub offered : ℕ → List ℕ
  pub log : List Slot

-- the world after it
abbrev pub world_after : {places : ℕ} {s : State (Unit {0}) TicketView} → Kept places s → OutletStep → World
world_after {s = s} h t = next_world h t.offered t.log (set s.words t.word t.value)

-- the words grow, the other senders are spared, and what the outlet knows then is so
pub record IsLawful (places : ℕ) (s : State (Unit {0}) TicketView) (h : Kept places s) (v : TicketView) (x : Sender) (t : OutletStep) : Type 0 where
  pub at : get_elem? s.views t.seat ≡ some v
  pub only : v.senders ≡ x ∷ []
  pub quiet : t.view.gets ≡ false
  pub only_then : t.view.senders ≡ t.sender ∷ []
  pub grows : Grows (now h) (world_after h t)
  pub spares : (j : ℕ) → j ≢ x.from → Spares (now h) (world_after h t) j
  pub mine : IsSender places (world_after h t) t.seat t.sender
  pub sound : Sound places (world_after h t)
  pub claimed : slice_index (set s.words t.word t.value) 0 ≡ length t.log
  pub rooms : t.view.room + length t.log ≡ v.room + length h.log

-- such a step keeps the rule
pub outlet_keeps : (places : ℕ) (s : State (Unit {0}) TicketView) (c : List (ℕ × Unit {0})) (v : TicketView) (x : Sender) (h : Kept places s) (t : OutletStep)
    → IsLawful places s h v x t → Kept places (stepped s t.word t.value t.seat c t.view keeps)
outlet_keeps places s c v x h t lawful =
    let id = t.seat in let w = t.view in let old = now h in let new = world_after h t in
    let me = (subst (Each (IsSender places old id)) lawful.only (h.each id v lawful.at).1).0 in
    let F : ℕ → TicketView → Type 0 = Agrees places new in
    let others : (j : ℕ) (u : TicketView) → j ≢ id → get_elem? s.views j ≡ some u → F j u = λ j u other at'. (
      (λ g. receiver_stays places old new j u lawful.grows refl refl ((h.each j u at').0 g)),
      each-map (IsSender places old j) (IsSender places new j) u.senders
          (λ z hz. sender_stays places old new j j z lawful.grows (lawful.spares z.from (λ same. other (sym hz.seat ∙ ap h.seat same ∙ me.seat))) hz.seat hz) (h.each j u at').1,
    ) in
    record {
      reader = h.reader;
      made = h.made;
      seat = h.seat;
      offered = t.offered;
      log = t.log;
      wide = length-set s.words t.word t.value ∙ h.wide;
      small = h.small;
      claimed = lawful.claimed;
      rooms = (let r = rooms_set s.views id v w lawful.at in let a = h.rooms in let b = lawful.rooms in omega arith);
      sound = lawful.sound;
      each = all_set F s.views id w ((λ g. absurd (true≢false (sym g ∙ lawful.quiet))), subst (Each (IsSender places new id)) (sym lawful.only_then) (lawful.mine, tt)) others;
    }

-- a step that writes nothing keeps the rule where the seat's own view fits
pub read_keeps : (places i id : ℕ) (s : State (Unit {0}) TicketView) (c : List (ℕ × Unit {0})) (v w : TicketView) (h : Kept places s)
    → get_elem? s.views id ≡ some v → w.room ≡ v.room → Agrees places (now h) id w → Kept places (stepped s i (slice_index s.words i) id c w keeps)
read_keeps places i id s c v w h at rooms mine =
    let is = set_same s.words i in
    record {
      reader = h.reader;
      made = h.made;
      seat = h.seat;
      offered = h.offered;
      log = h.log;
      wide = length-set s.words i (slice_index s.words i) ∙ h.wide;
      small = h.small;
      claimed = ap (λ (l : List ℕ). slice_index l 0) is ∙ h.claimed;
      rooms = (let r = rooms_set s.views id v w at in let t = h.rooms in omega arith);
      sound = subst (λ (l : List ℕ). Sound places (next_world h h.offered h.log l)) (sym is) h.sound;
      each = λ j u e. subst (λ (l : List ℕ). Agrees places (next_world h h.offered h.log l) j u) (sym is)
          (all_set (Agrees places (now h)) s.views id w mine (λ j u other at'. h.each j u at') j u e);
    }
