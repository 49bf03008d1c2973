-- The enforced order of a small chart, by computing: a list of pairs that the rules lead to, and that
-- no rule leads out of.
use Rattle.std.proofs.Common.{◌≡◌, ℕ, zero, suc, ◌<◌, Bool, true, false, not, ◌&&◌, ◌||◌, List, [], ◌∷◌, length, Some, eqb, ltb, refl, sym, ap, subst, ◌∙◌}
use Rattle.std.specs.List.{list_any}
use Rattle.std.proofs.lemmas.Bool.{ltb-true, eqb-true, eq-eqb, and_parts, and_from, or_parts, not_from_false}
use Rattle.msc_chart.specs.declared.queue.Queues.TheVariants.{Uniform}
use Rattle.msc_chart.specs.declared.queue.LinkKind.TheVariants.{Mailbox}
use Rattle.msc_chart.specs.Charts.{line, segment, kind, partner, message, is_output, is_controlled, before}
use Rattle.msc_chart.specs.Events.{events_of, acts_of, instances_of}
use Rattle.msc_chart.specs.Drawings.{chart_events, chart_of}
use Rattle.msc_chart.specs.Orders.{WiredChart, wired, queue, queue_number, sender_at, receiver_at, Enforced}
use Rattle.msc_chart.specs.Orders.Enforced.{drawn, sent, joined, queued}
use Rattle.msc_chart.specs.Lists.{Occurs}
use Rattle.msc_chart.specs.Samples.{actions, actions_pairs, two_mailboxes, two_mailboxes_pairs, AreEnforcedPairs}
use Rattle.msc_chart.proofs.ListLemmas.{by_test, clash}
use Rattle.msc_chart.proofs.Places.{any-place}
use Rattle.msc_chart.proofs.Numbers.{any_below, none_of_any}
use Rattle.msc_chart.proofs.Drawn.{before_parts, output_parts}

-- the pair is in the list, and both numbers are below n
abbrev has_pair_below : List (ℕ × ℕ) → ℕ → ℕ → ℕ → Bool
has_pair_below pairs n x y = (ltb x n && ltb y n) && list_any (λ p. eqb p.0 x && eqb p.1 y) pairs

-- a rule of one or two events leads out of the list
abbrev leads_out : WiredChart → List (ℕ × ℕ) → ℕ → ℕ → ℕ → Bool
leads_out chart pairs n x y =
    ((before chart.events x y && is_controlled chart.events y) && not (has_pair_below pairs n x y))
    || ((is_output chart.events x && not (has_pair_below pairs n x (partner chart.events x)))
    || (((is_output chart.events x && is_output chart.events y) && (eqb (queue chart x) (queue chart y) && has_pair_below pairs n x y))
    && not (has_pair_below pairs n (partner chart.events x) (partner chart.events y))))

-- transitivity does
abbrev joins_out : List (ℕ × ℕ) → ℕ → ℕ → ℕ → ℕ → Bool
joins_out pairs n x y z = (has_pair_below pairs n x y && has_pair_below pairs n y z) && not (has_pair_below pairs n x z)

-- what must not fail holds
holds_from : (a b : Bool) → (a && not b) ≡ false → a ≡ true → b ≡ true
holds_from a b none h = by_test b (λ t. t) (λ f. clash (and_from a (not b) h (not_from_false b f)) none)

module _ (chart : WiredChart) (pairs : List (ℕ × ℕ)) (n : ℕ) (size : n ≡ length chart.events)
    (two : any_below (λ x. any_below (λ y. leads_out chart pairs n x y) n) n ≡ false)
    (three : any_below (λ x. any_below (λ y. any_below (λ z. joins_out pairs n x y z) n) n) n ≡ false) where
  -- no rule of two events leads out, of any two events
  at : (x y : ℕ) → x < n → y < n → leads_out chart pairs n x y ≡ false
  at x y p q = none_of_any _ n (none_of_any _ n two x p) y q

  -- an event of the chart is below the number of events
  within : (x : ℕ) → x < length chart.events → x < n
  within x below = subst (λ (k : ℕ). x < k) (sym size) below

  -- a pair of the list is a pair of events
  known : (x y : ℕ) → has_pair_below pairs n x y ≡ true → (x < n) × (y < n)
  known x y h = let p = and_parts _ _ (and_parts _ _ h).0 in (ltb-true _ _ p.0, ltb-true _ _ p.1)

  -- whatever the rules lead to is in the list
  pub enforced_in : {x y : ℕ} → Enforced chart x y → has_pair_below pairs n x y ≡ true
  enforced_in {x} {y} (drawn h o) =
      let p = before_parts chart.events x y h in
      holds_from _ _ (or_parts _ _ (at x y (within x p.0) (within y p.1))).0 (and_from _ _ h o)
  enforced_in {x} {y} (sent o same) =
      let p = within x (output_parts chart.events x o).0 in
      subst (λ (r : ℕ). has_pair_below pairs n x r ≡ true) same
      (holds_from _ _ (or_parts _ _ (or_parts _ _ (at x x p p)).1).0 o)
  enforced_in {x} {y} (joined {y = m} h k) =
      let a = enforced_in h in
      let b = enforced_in k in
      holds_from _ _ (none_of_any _ n (none_of_any _ n (none_of_any _ n three x (known x m a).0) m (known x m a).1) y (known m y b).1) (and_from _ _ a b)
  enforced_in (queued {s} {t} {r} {u} o q same h back forth) =
      let p = within s (output_parts chart.events s o).0 in
      let l = within t (output_parts chart.events t q).0 in
      subst (λ (i : ℕ). has_pair_below pairs n i u ≡ true) back
      (subst (λ (j : ℕ). has_pair_below pairs n (partner chart.events s) j ≡ true) forth
      (holds_from _ _ (or_parts _ _ (or_parts _ _ (at s t p l)).1).1 (and_from _ _ (and_from _ _ o q) (and_from _ _ (eq-eqb _ _ same) (enforced_in h)))))

-- each pair of the list is enforced
abbrev AreEnforced : WiredChart → List (ℕ × ℕ) → Type 0
AreEnforced chart [] = Unit {0}
AreEnforced chart (p ∷ ps) = Enforced chart p.0 p.1 × AreEnforced chart ps

-- so whatever occurs in the list is enforced
enforced_from : (chart : WiredChart) (pairs : List (ℕ × ℕ)) → AreEnforced chart pairs → (e f : ℕ) → Occurs pairs (e, f) → Enforced chart e f
enforced_from chart [] all e f (j, h) = cc
enforced_from chart (p ∷ ps) all e f (zero, h) = let same : p ≡ (e, f) = cc in subst (λ (q : ℕ × ℕ). Enforced chart q.0 q.1) same all.0
enforced_from chart (p ∷ ps) all e f (suc j, h) = enforced_from chart ps all.1 e f (j, h)

-- a pair that the test finds occurs in the list
occurs_from : (pairs : List (ℕ × ℕ)) (n e f : ℕ) → has_pair_below pairs n e f ≡ true → Occurs pairs (e, f)
occurs_from pairs n e f h =
    let r = any-place (λ p. eqb p.0 e && eqb p.1 f) pairs (and_parts _ _ h).1 in
    let p = and_parts _ _ r.3 in
    let first : r.1.0 ≡ e = eqb-true _ _ p.0 in
    let second : r.1.1 ≡ f = eqb-true _ _ p.1 in
    let same : r.1 ≡ (e, f) = λ k. (first k, second k) in
    (r.0, r.2 ∙ ap Some same)

-- the enforced order of two_mailboxes under Mailbox
pub two_mailboxes_enforced : AreEnforcedPairs (wired (Uniform Mailbox) (chart_of two_mailboxes)) two_mailboxes_pairs
unfolding chart_events events_of acts_of instances_of is_output is_controlled before line segment kind partner message queue queue_number sender_at receiver_at
two_mailboxes_enforced e f = (
  λ h. occurs_from two_mailboxes_pairs 8 e f (enforced_in (wired (Uniform Mailbox) (chart_of two_mailboxes)) two_mailboxes_pairs 8 refl refl refl h),
  enforced_from (wired (Uniform Mailbox) (chart_of two_mailboxes)) two_mailboxes_pairs
      (drawn refl refl, (sent refl refl, (joined {y = 1} (drawn refl refl) (sent refl refl), (sent refl refl, (drawn refl refl, (joined {y = 3} (drawn refl refl) (sent refl refl), (sent refl refl, (sent refl refl, tt))))))))
      e f,
)

-- the enforced order of the chart with actions under Mailbox: what is drawn before an action is
-- enforced, and what precedes it
pub actions_enforced : AreEnforcedPairs (wired (Uniform Mailbox) (chart_of actions)) actions_pairs
unfolding chart_events events_of acts_of instances_of is_output is_controlled before line segment kind partner message queue queue_number sender_at receiver_at
actions_enforced e f = (
  λ h. occurs_from actions_pairs 4 e f (enforced_in (wired (Uniform Mailbox) (chart_of actions)) actions_pairs 4 refl refl refl h),
  enforced_from (wired (Uniform Mailbox) (chart_of actions)) actions_pairs
      (drawn refl refl, (joined {y = 1} (drawn refl refl) (sent refl refl), (joined {y = 1} (drawn refl refl) (joined {y = 2} (sent refl refl) (drawn refl refl)), (sent refl refl, (joined {y = 2} (sent refl refl) (drawn refl refl), (drawn refl refl, tt))))))
      e f,
)
