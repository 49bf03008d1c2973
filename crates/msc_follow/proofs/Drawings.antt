-- Laws of steps: what a ring stops, and when a drawing is followed.
use Rattle.std.proofs.Common.{◌≡◌, ℕ, ◌<◌, true, false, inl, inr, List, [], length, sym, ap, ◌∙◌}
use Rattle.std.proofs.lemmas.Bool.{false_from_ne_true}
use Rattle.msc_chart.specs.declared.queue.Queues.{Queues}
use Rattle.msc_chart.specs.declared.queue.LinkKind.TheVariants.{Single}
use Rattle.msc_chart.specs.declared.queue.Queues.TheVariants.{Uniform}
use Rattle.msc_chart.specs.Charts.{partner, is_output, Visual}
use Rattle.msc_chart.specs.Charts.Visual.{seen, passed, linked}
use Rattle.msc_chart.specs.Drawings.{Drawing, IsAccepted, output_of}
use Rattle.msc_chart.specs.Lists.{IsLeast}
use Rattle.msc_chart.specs.Orders.{WiredChart, IsWired, queue, queue_number, wired}
use Rattle.msc_chart.specs.Precedence.{all_ready}
use Rattle.msc_ready.specs.Finishing.{MayFinish}
use Rattle.msc_ready.specs.Laws.{AllReadyRunsKeepTheDrawnOrder, SomeRunIsWhole}
use Rattle.msc_follow.specs.Following.{CanHappen, IsFollowingRun, MayFollow, NeverHappens}
use Rattle.msc_follow.specs.Paths.{HasNoClosedPath, Path}
use Rattle.msc_follow.specs.Steps.{is_ahead, leads}
use Rattle.msc_race.proofs.Runs.Witnesses.{least_unique}
use Rattle.msc_ready.proofs.Runs.OneRun.{ends_alike}
use Rattle.rings.specs.Rings.{IsRing, HasNoRing}
use Rattle.msc_follow.proofs.Shared.{before_differs, clash}
use Rattle.msc_follow.proofs.Steps.{ahead_parts, leads_below, leads_cases, path_whole, sent_parts}
use Rattle.msc_follow.proofs.Chains.{no_closed_path, path_of_ring}
use Rattle.msc_follow.proofs.InTurn.{no_whole_ring}

module _ (keep : AllReadyRunsKeepTheDrawnOrder) (queues : Queues) (d : Drawing) where
  -- a whole ready run is a whole run that keeps the drawn order
  pub as_drawn : MayFinish (wired queues d) all_ready → CanHappen (wired queues d)
  as_drawn finish =
      let both = (keep queues d finish.0).0 finish.1.0 in
      (finish.0, record { run = both.0; whole = finish.1.1; keeps = both.1 })

  -- and the other way round
  pub finish_of : CanHappen (wired queues d) → MayFinish (wired queues d) all_ready
  finish_of can = (can.0, ((keep queues d can.0).1 (can.1.run, can.1.keeps), can.1.whole))

  module _ (finishes : SomeRunIsWhole) (accepted : IsAccepted d) (is_wired : IsWired (wired queues d)) where
    -- a ring stops every run
    pub ring_stops : (start : ℕ) (ring : List ℕ) → IsRing (leads (wired queues d)) (length d.events) start ring → NeverHappens (wired queues d)
    ring_stops start ring is_ring events drawn =
        (finishes queues d accepted all_ready).0 (finish_of (events, drawn)) start
        (path_whole (wired queues d) is_wired start start (path_of_ring (leads (wired queues d)) (length d.events) start ring is_ring))

    -- a drawing without a closed path is followed
    pub followed : HasNoClosedPath (leads (wired queues d)) → CanHappen (wired queues d)
    followed none = as_drawn ((finishes queues d accepted all_ready).1 (no_whole_ring (wired queues d) is_wired none))

    -- and so is one without a ring
    pub followed_without : ((start : ℕ) → HasNoRing (leads (wired queues d)) (length d.events) start) → CanHappen (wired queues d)
    followed_without none = followed (no_closed_path (leads (wired queues d)) (length d.events) (λ x y h. (leads_below (wired queues d) is_wired x y h).0) none)

module _ (d : Drawing) (accepted : IsAccepted d) where
  -- under Single two outputs of one queue are one
  single_output : (x y : ℕ) → is_output d.events x ≡ true → is_output d.events y ≡ true → queue (wired (Uniform Single) d) x ≡ queue (wired (Uniform Single) d) y → x ≡ y
  unfolding queue queue_number
  single_output x y ox oy same =
      sym (accepted.has_messages.back x ox) ∙ ap (λ (m : ℕ). output_of d m) same ∙ accepted.has_messages.back y oy

  -- so none has to be ahead of another
  pub none_ahead : (x y : ℕ) → is_ahead (wired (Uniform Single) d) x y ≡ false
  none_ahead x y = false_from_ne_true _ (λ h.
      let p = ahead_parts (wired (Uniform Single) d) x y h in
      let same = single_output x y p.first p.second p.one_queue in
      before_differs d.events _ _ p.inputs (ap (λ (z : ℕ). partner d.events z) same))

  -- a path is in the visual order
  visual_of : (x y : ℕ) → Path (leads (wired (Uniform Single) d)) x y → Visual d.events x y
  visual_of x y (Path.step h) = elim (leads_cases (wired (Uniform Single) d) x y h) [
    | inl s ↦ let p = sent_parts (wired (Uniform Single) d) x y s in passed p.0 p.1
    | inr other ↦ elim other [
      | inl b ↦ seen b
      | inr a ↦ clash a (none_ahead x y)
    ]
  ]
  visual_of x y (Path.joined {y = m} h k) = linked (visual_of x m h) (visual_of m y k)

  -- the ends of a path are events of the chart
  starts_below : (is_wired : IsWired (wired (Uniform Single) d)) (x y : ℕ) → Path (leads (wired (Uniform Single) d)) x y → x < length d.events
  starts_below is_wired x y (Path.step h) = (leads_below (wired (Uniform Single) d) is_wired x y h).0
  starts_below is_wired x y (Path.joined {y = m} h k) = starts_below is_wired x m h

  -- so no path leads back
  pub none_closed : IsWired (wired (Uniform Single) d) → HasNoClosedPath (leads (wired (Uniform Single) d))
  none_closed is_wired e path = accepted.acyclic e (starts_below is_wired e e path) (visual_of e e path)

-- after a whole run no event may follow
none_follows : (chart : WiredChart) (run : List ℕ) → IsFollowingRun chart run → (x : ℕ) → IsLeast (MayFollow chart run) x → ⊥
none_follows chart run follows x least =
    let may = least.itself.may in
    clash (follows.drawn.whole x may.event) may.new

-- there is one following run
pub following_unique : (chart : WiredChart) (xs ys : List ℕ) → IsFollowingRun chart xs → IsFollowingRun chart ys → xs ≡ ys
following_unique chart xs ys one other =
    ends_alike (λ past. IsLeast (MayFollow chart past)) (λ past x y. least_unique (MayFollow chart past) x y) [] xs ys
    one.least other.least (none_follows chart xs one) (none_follows chart ys other)
