-- Walks that grow: by which arrows, no two of one number.
use Rattle.std.proofs.Common.{◌≡◌, ℕ, zero, suc, ◌+◌, ◌≤◌, Bool, true, false, sym, arith, inl, inr, List, [], ◌∷◌, ◌++◌, refl, ap, ◌∙◌, cond}
use Rattle.std.specs.List.{sum_by}
use Rattle.std.proofs.lemmas.List.{append-nil, append_assoc}
use Rattle.std.proofs.lemmas.List.Sums.{sum_by-append}
use Rattle.msc_chart.specs.Lists.{StandsAt}
use Rattle.msc_scenarios.specs.declared.TheConstants.{ARROW_LIMIT}
use Rattle.msc_scenarios.specs.declared.steps.Ending.{Ending}
use Rattle.msc_scenarios.specs.declared.steps.Ending.TheVariants as ends
use Rattle.msc_scenarios.specs.declared.steps.Message.{Message}
use Rattle.msc_scenarios.specs.declared.steps.Step.{Step}
use Rattle.msc_scenarios.specs.declared.steps.Step.TheVariants as steps
use Rattle.msc_scenarios.specs.Steps.{Walk, go_on, put, then}
use Rattle.msc_import_laws.specs.Apart.{messages_in}
use Rattle.msc_import_laws.proofs.Stands.{joined_at}

-- messages of two kinds have no number in common
abbrev pub NoneShared : (Message → Type 0) → (Message → Type 0) → Type 0
NoneShared R S = (m n : Message) → R m → S n → m.number ≡ n.number → ⊥

-- the arrows of steps are of a kind, and no two have one number
pub record AreApart (R : Message → Type 0) (ss : List Step) : Type 0 where
  pub each : (i : ℕ) (m : Message) → StandsAt ss i (steps.Meets m) → R m
  pub apart : (i j : ℕ) (m n : Message) → StandsAt ss i (steps.Meets m) → StandsAt ss j (steps.Meets n) → m.number ≡ n.number → i ≡ j

-- a walk has grown by such steps
pub record Grows (R : Message → Type 0) (w v : Walk) : Type 0 where
  pub new : List Step
  pub steps : v.steps ≡ w.steps ++ new
  pub lines : v.lines ≡ w.lines
  pub arrows : v.arrows ≡ w.arrows + sum_by messages_in new
  pub few : w.arrows ≤ ARROW_LIMIT → v.arrows ≤ ARROW_LIMIT
  pub made : AreApart R new

-- no steps
none_apart : (R : Message → Type 0) → AreApart R []
none_apart R = record { each = λ i m h. cc; apart = λ i j m n h k e. cc }

pub grows_none : (R : Message → Type 0) (w v : Walk) → v.steps ≡ w.steps → v.lines ≡ w.lines → v.arrows ≡ w.arrows → Grows R w v
grows_none R w v a b c = record { new = []; steps = a ∙ sym (append-nil w.steps); lines = b; arrows = omega (arith, c); few = λ h. omega (arith, h, c); made = none_apart R }

pub grows_same : (R : Message → Type 0) (w : Walk) → Grows R w w
grows_same R w = grows_none R w w refl refl refl

-- one step that is no arrow
pub grows_put : (R : Message → Type 0) (s : Step) (w : Walk) → messages_in s ≡ 0 → Grows R w (put s w)
grows_put R s w h = record {
  new = s ∷ [];
  steps = refl;
  lines = refl;
  arrows = rw h (omega arith);
  few = λ k. k;
  made = record { each = λ i m k. absurd (no i m k); apart = λ i j m n k l e. absurd (no i m k) };
}
  where
    some : (m : Message) → ◌≡◌ {A = ℕ} (cond m.both 2 1) 0 → ⊥
    some m = elim m.both as (λ (b : Bool). ◌≡◌ {A = ℕ} (cond b 2 1) 0 → ⊥) [
      | true ↦ λ k. omega (arith, k)
      | false ↦ λ k. omega (arith, k)
    ]

    no : (i : ℕ) (m : Message) → StandsAt (s ∷ []) i (steps.Meets m) → ⊥
    no zero m k = let e : s ≡ steps.Meets m = cc in absurd (some m (sym (ap messages_in e) ∙ h))
    no (suc i) m k = cc

-- the kind is wider
pub grows_wider : (R S : Message → Type 0) (w v : Walk) → ((m : Message) → R m → S m) → Grows R w v → Grows S w v
grows_wider R S w v wider g = record {
  new = g.new;
  steps = g.steps;
  lines = g.lines;
  arrows = g.arrows;
  few = g.few;
  made = record { each = λ i m h. wider m (g.made.each i m h); apart = g.made.apart };
}

-- steps of one kind, and then of another
joined_apart : (R S T : Message → Type 0) (xs ys : List Step) → AreApart R xs → AreApart S ys → NoneShared R S → ((m : Message) → R m → T m) → ((m : Message) → S m → T m) → AreApart T (xs ++ ys)
joined_apart R S T xs ys a b none f g = record {
  each = λ i m h. elim (joined_at xs ys i (steps.Meets m) h) [ inl l ↦ f m (a.each i m l) | inr r ↦ g m (b.each r.0 m r.2) ];
  apart = λ i j m n h k e. elim (joined_at xs ys i (steps.Meets m) h) [
    | inl l ↦ elim (joined_at xs ys j (steps.Meets n) k) [
      | inl r ↦ a.apart i j m n l r e
      | inr r ↦ absurd (none m n (a.each i m l) (b.each r.0 n r.2) e)
    ]
    | inr l ↦ elim (joined_at xs ys j (steps.Meets n) k) [
      | inl r ↦ absurd (none n m (a.each j n r) (b.each l.0 m l.2) (sym e))
      | inr r ↦ let same = b.apart l.0 r.0 m n l.2 r.2 e in omega (arith, same, l.1, r.1)
    ]
  ];
}

pub grows_on : (R S T : Message → Type 0) (w v x : Walk) → Grows R w v → Grows S v x → NoneShared R S → ((m : Message) → R m → T m) → ((m : Message) → S m → T m) → Grows T w x
grows_on R S T w v x g h none f k = record {
  new = g.new ++ h.new;
  steps = h.steps ∙ ap (λ ss. ss ++ h.new) g.steps ∙ append_assoc w.steps g.new h.new;
  lines = h.lines ∙ g.lines;
  arrows = let a = g.arrows in let b = h.arrows in let c = sum_by-append messages_in g.new h.new in omega (arith, a, b, c);
  few = λ l. h.few (g.few l);
  made = joined_apart R S T g.new h.new g.made h.made none f k;
}

-- a walk that goes on where it has not ended
pub grows_then : (R S T : Message → Type 0) (w v : Walk) (f : Walk → Walk) → Grows R w v → Grows S v (f v) → NoneShared R S → ((m : Message) → R m → T m) → ((m : Message) → S m → T m) → Grows T w (then v f)
grows_then R S T w v f g h none a b = by v.ending
  where
    by : (e : Ending) → Grows T w (go_on e v (f v))
    by ends.Goes = grows_on R S T w v (f v) g h none a b
    by ends.Broke = grows_wider R T w v a g
    by (ends.Stopped x) = grows_wider R T w v a g

-- nothing more changes but the ending and the choices
pub grows_after : (R : Message → Type 0) (w v x : Walk) → Grows R w v → x.steps ≡ v.steps → x.lines ≡ v.lines → x.arrows ≡ v.arrows → Grows R w x
grows_after R w v x g a b c = record {
  new = g.new;
  steps = a ∙ g.steps;
  lines = b ∙ g.lines;
  arrows = c ∙ g.arrows;
  few = λ h. let r = g.few h in omega (arith, r, c);
  made = g.made;
}

pub grows_before : (R : Message → Type 0) (w v x : Walk) → Grows R v x → v.steps ≡ w.steps → v.lines ≡ w.lines → v.arrows ≡ w.arrows → Grows R w x
grows_before R w v x g a b c = record {
  new = g.new;
  steps = g.steps ∙ ap (λ ss. ss ++ g.new) a;
  lines = g.lines ∙ b;
  arrows = g.arrows ∙ ap (λ (n : ℕ). n + sum_by messages_in g.new) c;
  few = λ h. g.few (omega (arith, h, c));
  made = g.made;
}
