-- The paths of a list are those of some histories.
use Rattle.std.proofs.Common.{◌≡◌, ◌⊎◌, inl, inr, ℕ, Bool, true, false, cond, List, [], ◌∷◌, ◌++◌, map, refl, sym, ap, ◌∙◌, subst, append_assoc}
use Rattle.std.specs.List.{AllByRecursion}
use Rattle.std.proofs.lemmas.Bool.{false≢true}
use Rattle.std.proofs.lemmas.List.{append-nil}
use Rattle.msc_scenarios.specs.declared.path.Path.{Path}
use Rattle.msc_scenarios.specs.declared.steps.Step.{Step}
use Rattle.msc_scenarios.specs.Choosing as choosing
use Rattle.msc_scenarios.specs.Choosing.{behind, chosen, goes_on, healed, straight, with_end}
use Rattle.msc_scenarios.specs.Histories.{Histories, History, Made, Only, Then, joined, marked, only, under}
use Rattle.msc_scenarios.proofs.CoverLemmas.{Has, has_left, has_map, has_right, has_same}
use Rattle.msc_scenarios.proofs.FollowListLemmas.{all_map, all_same}
use Rattle.msc_place.proofs.Walks.{AllByRecursion-append as all_append}

-- choices and steps
abbrev with_both : List ℕ → List Step → History
with_both cs ss = record { choices = cs; steps = ss }

-- a path with steps
abbrev pub with_steps : Path → List Step → History
with_steps w ss = record { choices = w.choices; steps = ss }

-- a path has the choices of a history, and is so ended
abbrev pub Is : History → Bool → Path → Type 0
Is h cut w = (w.choices ≡ h.choices) × (w.broken ≡ cut)

-- with some steps a path is a history
abbrev pub Told : Histories → Path → Type 0
Told P w = (ss : List Step) × P (with_steps w ss) w.broken

-- each path is one of the histories, and each of these is a path
pub record Lists (ws : List Path) (P : Histories) : Type 0 where
  pub each : AllByRecursion (Told P) ws
  pub all : (h : History) (cut : Bool) → P h cut → Has (Is h cut) ws

-- the same histories
pub record Same (P Q : Histories) : Type 0 where
  pub there : (h : History) (cut : Bool) → P h cut → Q h cut
  pub back : (h : History) (cut : Bool) → Q h cut → P h cut

pub lists_same : (P Q : Histories) (ws : List Path) → Same P Q → Lists ws P → Lists ws Q
lists_same P Q ws s l = record {
  each = all_same (Told P) (Told Q) (λ w t. (t.0, s.there (with_steps w t.0) w.broken t.1)) ws l.each;
  all = λ h cut q. l.all h cut (s.back h cut q);
}

-- no choice
pub lists_only : (ss : List Step) → Lists straight (Only (only ss))
lists_only ss = record {
  each = ((ss, (refl, refl)), tt);
  all = λ h cut p. inl (sym (ap (λ (x : History). x.choices) p.0), sym p.1);
}

-- no paths, and those of two lists
pub lists_none : (P : Histories) → ((h : History) (cut : Bool) → P h cut → ⊥) → Lists [] P
lists_none P never = record { each = tt; all = λ h cut p. absurd (never h cut p) }

abbrev pub Either : Histories → Histories → Histories
Either P Q h cut = P h cut ⊎ Q h cut

module _ (P Q : Histories) (ws vs : List Path) (l : Lists ws P) (m : Lists vs Q) where
  either_all : (h : History) (cut : Bool) → Either P Q h cut → Has (Is h cut) (ws ++ vs)
  either_all h cut (inl p) = has_left (Is h cut) ws vs (l.all h cut p)
  either_all h cut (inr q) = has_right (Is h cut) ws vs (m.all h cut q)

  pub lists_either : Lists (ws ++ vs) (Either P Q)
  lists_either = record {
    each = all_append (Told (Either P Q)) ws vs (all_same (Told P) (Told (Either P Q)) (λ w t. (t.0, inl t.1)) ws l.each) (all_same (Told Q) (Told (Either P Q)) (λ w t. (t.0, inr t.1)) vs m.each);
    all = either_all;
  }

module _ (P : Histories) (ws : List Path) (l : Lists ws P) where
  -- behind a choice
  pub lists_under : (c : ℕ) (ends : Bool) → Lists (chosen c ends ws) (Made (under c) ends P)
  lists_under c ends = record {
    each = all_map (Told P) (Told (Made (under c) ends P)) (choosing.under c ends) (λ w t. (t.0, (with_steps w t.0, w.broken, t.1, refl, refl))) ws l.each;
    all = λ h cut m. has_map (Is m.0 m.1) (Is h cut) (choosing.under c ends) (λ w i. (ap (λ x. c ∷ x) i.0 ∙ sym (ap (λ (x : History). x.choices) m.3), sym m.4)) ws (l.all m.0 m.1 m.2);
  }

  -- a parallel branch
  pub lists_marked : Lists (healed ws) (Made marked false P)
  lists_marked = record {
    each = all_map (Told P) (Told (Made marked false P)) (with_end false) (λ w t. ((marked (with_steps w t.0)).steps, (with_steps w t.0, w.broken, t.1, refl, refl))) ws l.each;
    all = λ h cut m. has_map (Is m.0 m.1) (Is h cut) (with_end false) (λ w i. (i.0 ∙ sym (ap (λ (x : History). x.choices) m.3), sym m.4)) ws (l.all m.0 m.1 m.2);
  }

-- the ones, and then the others
module _ (P Q : Histories) (vs : List Path) (m : Lists vs Q) where
  then_by : (w : Path) (b : Bool) → w.broken ≡ b → Told P w → AllByRecursion (Told (Then P Q)) (cond b (w ∷ []) (map (choosing.joined w) vs))
  then_by w true e t = ((t.0, inl (subst (P (with_steps w t.0)) e t.1, e)), tt)
  then_by w false e t =
      all_map (Told Q) (Told (Then P Q)) (choosing.joined w) (λ v s. ((joined (with_steps w t.0) (with_steps v s.0)).steps, inr (with_steps w t.0, with_steps v s.0, refl, subst (P (with_steps w t.0)) e t.1, s.1))) vs m.each

  then_each : (ws : List Path) → AllByRecursion (Told P) ws → AllByRecursion (Told (Then P Q)) (behind ws vs)
  then_each [] k = tt
  then_each (w ∷ ws) k = all_append (Told (Then P Q)) (goes_on vs w) (behind ws vs) (then_by w w.broken refl k.0) (then_each ws k.1)

  module _ (h : History) (cut : Bool) where
    on_left : (w : Path) (ws : List Path) (b : Bool) → w.broken ≡ b → Has (Is h cut) (cond b (w ∷ []) (map (choosing.joined w) vs)) → Has (Is h cut) (behind (w ∷ ws) vs)
    on_left w ws b e k =
        has_left (Is h cut) (goes_on vs w) (behind ws vs) (subst (λ t. Has (Is h cut) (cond t (w ∷ []) (map (choosing.joined w) vs))) (sym e) k)

    stopped : (ws : List Path) → cut ≡ true → Has (Is h true) ws → Has (Is h cut) (behind ws vs)
    stopped [] e k = absurd k
    stopped (w ∷ ws) e (inl i) = on_left w ws true i.1 (inl (i.0, i.1 ∙ sym e))
    stopped (w ∷ ws) e (inr k) = has_right (Is h cut) (goes_on vs w) (behind ws vs) (stopped ws e k)

    module _ (x y : History) (is : h ≡ joined x y) (q : Q y cut) where
      both_choices : (w v : Path) → w.choices ≡ x.choices → v.choices ≡ y.choices → w.choices ++ v.choices ≡ h.choices
      both_choices w v a b =
          ap (λ z. z ++ v.choices) a ∙ ap (λ z. x.choices ++ z) b ∙ sym (ap (λ (z : History). z.choices) is)

      went_on : (ws : List Path) → Has (Is x false) ws → Has (Is h cut) (behind ws vs)
      went_on [] k = absurd k
      went_on (w ∷ ws) (inl i) =
          on_left w ws false i.1 (has_map (Is y cut) (Is h cut) (choosing.joined w) (λ v j. (both_choices w v i.0 j.0, j.1)) vs (m.all y cut q))
      went_on (w ∷ ws) (inr k) = has_right (Is h cut) (goes_on vs w) (behind ws vs) (went_on ws k)

    then_all : (ws : List Path) → Lists ws P → Then P Q h cut → Has (Is h cut) (behind ws vs)
    then_all ws l (inl t) = stopped ws t.1 (l.all h true t.0)
    then_all ws l (inr t) = went_on t.0 t.1 t.2 t.4 ws (l.all t.0 false t.3)

  pub lists_then : (ws : List Path) → Lists ws P → Lists (behind ws vs) (Then P Q)
  lists_then ws l = record { each = then_each ws l.each; all = λ h cut t. then_all h cut ws l t }

-- steps and no choice behind
module _ (P : Histories) (ss : List Step) where
  stepped_by : (w : Path) (b : Bool) → w.broken ≡ b → Told P w → Told (Then P (Only (only ss))) w
  stepped_by w true e t = (t.0, inl (subst (P (with_steps w t.0)) e t.1, e))
  stepped_by w false e t =
      let is = ap (λ (cs : List ℕ). with_both cs (t.0 ++ ss)) (sym (append-nil w.choices)) in
      (t.0 ++ ss, inr (with_steps w t.0, only ss, is, subst (P (with_steps w t.0)) e t.1, (refl, e)))

  module _ (ws : List Path) (l : Lists ws P) where
    stepped_all : (h : History) (cut : Bool) → Then P (Only (only ss)) h cut → Has (Is h cut) ws
    stepped_all h cut (inl t) = has_same (Is h true) (Is h cut) (λ w i. (i.0, i.1 ∙ sym t.1)) ws (l.all h true t.0)
    stepped_all h cut (inr t) =
        let is = ap (λ (z : History). z.choices) (t.2 ∙ ap (λ (z : History). joined t.0 z) t.4.0) ∙ append-nil t.0.choices in
        has_same (Is t.0 false) (Is h cut) (λ w i. (i.0 ∙ sym is, i.1 ∙ sym t.4.1)) ws (l.all t.0 false t.3)

    pub lists_stepped : Lists ws (Then P (Only (only ss)))
    lists_stepped = record {
      each = all_same (Told P) (Told (Then P (Only (only ss)))) (λ w t. stepped_by w w.broken refl t) ws l.each;
      all = stepped_all;
    }

joined_assoc : (x y z : History) → joined (joined x y) z ≡ joined x (joined y z)
joined_assoc x y z =
    ap (λ (cs : List ℕ). with_both cs ((x.steps ++ y.steps) ++ z.steps)) (append_assoc x.choices y.choices z.choices)
    ∙ ap (λ (ss : List Step). with_both (x.choices ++ (y.choices ++ z.choices)) ss) (append_assoc x.steps y.steps z.steps)

-- one after the other, and nothing before
module _ (P Q R : Histories) where
  assoc_there : (h : History) (cut : Bool) → Then (Then P Q) R h cut → Then P (Then Q R) h cut
  assoc_there h cut (inl (inl p, e)) = inl (p.0, e)
  assoc_there h cut (inl (inr p, e)) = inr (p.0, p.1, p.2, p.3, inl (p.4, e))
  assoc_there h cut (inr (x, y, is, inl p, r)) = absurd (false≢true p.1)
  assoc_there h cut (inr (x, y, is, inr p, r)) =
      inr (p.0, joined p.1 y, is ∙ ap (λ (z : History). joined z y) p.2 ∙ joined_assoc p.0 p.1 y, p.3, inr (p.1, y, refl, p.4, r))

  assoc_back : (h : History) (cut : Bool) → Then P (Then Q R) h cut → Then (Then P Q) R h cut
  assoc_back h cut (inl (p, e)) = inl (inl (p, refl), e)
  assoc_back h cut (inr (x, y, is, p, inl q)) = inl (inr (x, y, is, p, q.0), q.1)
  assoc_back h cut (inr (x, y, is, p, inr q)) =
      inr (joined x q.0, q.1, is ∙ ap (λ (z : History). joined x z) q.2 ∙ sym (joined_assoc x q.0 q.1), inr (x, q.0, refl, p, q.3), q.4)

  pub then_assoc : Same (Then (Then P Q) R) (Then P (Then Q R))
  then_assoc = record { there = assoc_there; back = assoc_back }

module _ (P : Histories) where
  left_there : (h : History) (cut : Bool) → Then (Only (only [])) P h cut → P h cut
  left_there h cut (inl (q, e)) = absurd (false≢true (sym q.1))
  left_there h cut (inr (x, y, is, q, p)) = subst (λ z. P z cut) (sym (is ∙ ap (λ (z : History). joined z y) q.0)) p

  left_back : (h : History) (cut : Bool) → P h cut → Then (Only (only [])) P h cut
  left_back h cut p = inr (only [], h, refl, (refl, refl), p)

  pub nothing_then : Same (Then (Only (only [])) P) P
  nothing_then = record { there = left_there; back = left_back }
