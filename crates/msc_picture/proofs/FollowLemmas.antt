-- Which event may follow, told by its output and by what else blocks it.
use Rattle.std.proofs.Common.{◌≡◌, ℕ, ◌<◌, Bool, true, false, ◌&&◌, ◌||◌, not, List, [], ◌∷◌, ◌++◌, ◌↔◌, length, IsTrue, inl, inr, sym, ap, subst, ◌∙◌}
use Rattle.std.proofs.lemmas.Bool.{and_parts, and_from, or_left, or_right, eqb-true, eq-eqb, cases_eq, not-true, not_from_false, false_from_ne_true}
use Rattle.msc_chart.specs.Charts.{partner, is_output, IsMatched}
use Rattle.msc_chart.specs.Lists.{occurs}
use Rattle.msc_chart.proofs.ListLemmas.{by_test, clash, occurs-left, occurs-push, occurs_other}
use Rattle.msc_picture.proofs.Events.{not_both}
use Rattle.msc_picture.specs.Frames.{Frame, is_sent_as, is_above, is_queued_before, goes_first, MayFollow}
use Rattle.msc_picture.specs.Drawn.{blocks, IsClear}

module _ (f : Frame) where
  -- an output and its input
  pub sent_from : (x y : ℕ) → is_output f.events x ≡ true → partner f.events x ≡ y
      → is_sent_as f x y ≡ true
  sent_from x y o p = and_from _ _ o (eq-eqb _ _ p)

  -- what goes first blocks, or is the output
  pub first_blocks : (x e : ℕ) → goes_first f x e ≡ true → is_sent_as f x e ≡ false
      → blocks f x e ≡ true
  first_blocks x e h apart =
      let rest : (is_above f x e || is_queued_before f x e) ≡ true =
      subst (λ (b : Bool). (b || (is_above f x e || is_queued_before f x e)) ≡ true) apart h in
      and_from _ _ rest (not_from_false _ apart)

  -- what blocks goes first
  pub blocks_first : (x e : ℕ) → blocks f x e ≡ true → goes_first f x e ≡ true
  blocks_first x e h =
      or_right (is_sent_as f x e) (is_above f x e || is_queued_before f x e)
      (and_parts (is_above f x e || is_queued_before f x e) (not (is_sent_as f x e)) h).0

  -- and is not the output
  pub blocks_apart : (x e : ℕ) → blocks f x e ≡ true → is_sent_as f x e ≡ false
  blocks_apart x e h =
      not-true (is_sent_as f x e)
      (and_parts (is_above f x e || is_queued_before f x e) (not (is_sent_as f x e)) h).1

  module _ (matched : IsMatched f.events) (past : List ℕ) where
    -- an event may follow where it is new, its output is behind, and nothing blocks it
    pub may_follow_from : (e : ℕ) → e < length f.events → occurs past e ≡ false
        → (is_sent_as f (partner f.events e) e ≡ true → occurs past (partner f.events e) ≡ true)
        → IsClear f past e → MayFollow f past e
    may_follow_from e below new sent clear = record {
      event = below;
      new = new;
      behind = λ x inside first. by_test (is_sent_as f x e)
          (λ is.
          let to = eqb-true _ _ (and_parts _ _ is).1 in
          let other : partner f.events e ≡ x =
          ap (λ (w : ℕ). partner f.events w) (sym to) ∙ matched.to_and_fro x inside in
          subst (λ (w : ℕ). occurs past w ≡ true) other
          (sent (subst (λ (w : ℕ). is_sent_as f w e ≡ true) (sym other) is)))
          (λ apart. clear x inside (first_blocks x e first apart));
    }

    -- nothing blocks an event that may follow
    pub follower_clear : (e : ℕ) → MayFollow f past e → IsClear f past e
    follower_clear e may x inside h = may.behind x inside (blocks_first x e h)

    -- and its output is behind
    pub follower_sent : (e : ℕ) → MayFollow f past e
        → is_sent_as f (partner f.events e) e ≡ true → occurs past (partner f.events e) ≡ true
    follower_sent e may is =
        may.behind (partner f.events e) (matched.in_range e may.event) (or_left _ _ is)

    -- the input of an output is another event
    other_event : (s : ℕ) → s < length f.events → is_output f.events s ≡ true
        → partner f.events s ≡ s → ⊥
    other_event s below o same =
        not_both f.events s o (sym (matched.other_kind s below)
        ∙ ap (λ (w : ℕ). is_output f.events w) same ∙ o)

    -- the input of an output may follow right behind it where it is new and nothing else blocks it
    pub taken_from : (s : ℕ) → s < length f.events → is_output f.events s ≡ true
        → occurs past (partner f.events s) ≡ false → IsClear f past (partner f.events s)
        → MayFollow f (past ++ s ∷ []) (partner f.events s)
    taken_from s below o new clear = record {
      event = matched.in_range s below;
      new = occurs_other past s (partner f.events s) (other_event s below o) ∙ new;
      behind = λ x inside first. by_test (is_sent_as f x (partner f.events s))
          (λ is.
          let to = eqb-true _ _ (and_parts _ _ is).1 in
          let own : s ≡ x =
          sym (matched.to_and_fro s below) ∙ ap (λ (w : ℕ). partner f.events w) (sym to)
          ∙ matched.to_and_fro x inside in
          subst (λ (w : ℕ). occurs (past ++ s ∷ []) w ≡ true) own (occurs-push past s))
          (λ apart. occurs-left past (s ∷ []) x
          (clear x inside (first_blocks x (partner f.events s) first apart)));
    }

    -- and only there
    pub taken_new : (s : ℕ) → MayFollow f (past ++ s ∷ []) (partner f.events s)
        → occurs past (partner f.events s) ≡ false
    taken_new s may = false_from_ne_true _ (λ there.
        clash (occurs-left past (s ∷ []) (partner f.events s) there) may.new)

    pub taken_clear : (s : ℕ) → is_output f.events s ≡ true
        → MayFollow f (past ++ s ∷ []) (partner f.events s) → IsClear f past (partner f.events s)
    taken_clear s o may x inside h = elim (cases_eq x s) [
      | inl same ↦
          clash (sent_from x (partner f.events s)
          (ap (λ (w : ℕ). is_output f.events w) same ∙ o)
          (ap (λ (w : ℕ). partner f.events w) same)) (blocks_apart x (partner f.events s) h)
      | inr other ↦
          sym (occurs_other past s x other)
          ∙ may.behind x inside (blocks_first x (partner f.events s) h)
    ]

    -- whether an event may follow, where it is new and no output of its own is missing
    pub may_follow_when : (e : ℕ) (clear : Bool) → e < length f.events → occurs past e ≡ false
        → (is_sent_as f (partner f.events e) e && not (occurs past (partner f.events e))) ≡ false
        → (IsTrue clear ↔ IsClear f past e) → IsTrue clear ↔ MayFollow f past e
    may_follow_when e clear below new lacks tells = (
      λ h. may_follow_from e below new
          (λ is. by_test (occurs past (partner f.events e)) (λ old. old) (λ missing.
          clash (and_from _ _ is (not_from_false _ missing)) lacks)) (tells.0 h),
      λ may. tells.1 (follower_clear e may),
    )

    -- it may not where its output is missing
    pub may_not_follow : (e : ℕ) → (is_sent_as f (partner f.events e) e
        && not (occurs past (partner f.events e))) ≡ true → MayFollow f past e → ⊥
    may_not_follow e lacks may =
        let parts = and_parts _ _ lacks in
        clash (follower_sent e may parts.0) (not-true _ parts.1)

    -- whether the input of an output may follow right behind it, where it is new
    pub taken_when : (s : ℕ) (clear : Bool) → s < length f.events → is_output f.events s ≡ true
        → occurs past (partner f.events s) ≡ false
        → (IsTrue clear ↔ IsClear f past (partner f.events s))
        → IsTrue clear ↔ MayFollow f (past ++ s ∷ []) (partner f.events s)
    taken_when s clear below o new tells = (
      λ h. taken_from s below o new (tells.0 h),
      λ may. tells.1 (taken_clear s o may),
    )
