-- A walk that is given the choices of a history takes them, and has its steps.
use Rattle.std.proofs.Common.{◌≡◌, ◌⊎◌, inl, inr, ◌<◌, ◌≤◌, ℕ, zero, suc, ◌+◌, ◌-◌, ◌==◌, Bool, true, false, cond, nat_le, List, [], ◌∷◌, ◌++◌, length, take, refl, sym, ap, ◌∙◌, subst, append_assoc}
use Rattle.std.specs.List.{Contains}
use Rattle.std.proofs.lemmas.Bool.{false≢true, le-leb}
use Rattle.std.proofs.lemmas.List.{append-nil}
use Rattle.msc_mermaid.specs.declared.TheConstants.{DEPTH_LIMIT}
use Rattle.msc_place.specs.declared.position.Position.{Position}
use Rattle.msc_scenarios.specs.declared.TheConstants.{ARROW_LIMIT, ROUND_LIMIT}
use Rattle.msc_scenarios.specs.declared.path.Path.{Path}
use Rattle.msc_scenarios.specs.declared.steps.Ending.TheVariants as ends
use Rattle.msc_scenarios.specs.declared.steps.Passage.{Passage}
use Rattle.msc_scenarios.specs.declared.steps.Passage.TheVariants as passages
use Rattle.msc_scenarios.specs.declared.steps.Step.{Step}
use Rattle.msc_scenarios.specs.declared.steps.Step.TheVariants as steps
use Rattle.msc_mermaid.specs.declared.fault.ImportFault.TheVariants.{TooManyArrows}
use Rattle.msc_mermaid.specs.declared.row.Kind.{Kind}
use Rattle.msc_mermaid.specs.declared.statement.Arrow.{Arrow}
use Rattle.msc_mermaid.specs.declared.statement.Diagram.{Diagram}
use Rattle.msc_mermaid.specs.declared.statement.Placed.{Placed}
use Rattle.msc_mermaid.specs.declared.statement.Statement.{Statement}
use Rattle.msc_mermaid.specs.declared.statement.Statement.TheVariants.{Declares, Says, Begins, Closes}
use Rattle.msc_scenarios.specs.Steps as passing
use Rattle.msc_scenarios.specs.Steps.{Walk, Walker, at_rest, branch_at, branches_in, broken, choice_of, choose, cut_off, ended, extent, follow, passage_of, heads, is_choice, is_loss, is_there, main_of, meet, message_of, most_of, owned_by, put, rounds_from, said, side_by_side, start_of, then, unbroken, unended, walk, walk_on, with_choice}
use Rattle.msc_scenarios.specs.Histories.{Block, Branch, Formed, Histories, History, IsHistory, Made, One, OneOf, Only, Rounds, Row, Said, Sides, Then, Through, enclosed, joined, marked, met, only, under}
use Rattle.msc_scenarios.specs.Laws.{IsTooLong, Takes, walked}
use Rattle.msc_scenarios.proofs.CoverWalkLemmas.{meet_unbroken, no_draft, none_missing}
use Rattle.msc_scenarios.proofs.FollowFormLemmas.{break_is, break_not, first_is, first_not, least, maybe_is, maybe_not, one_of_is, rounds_are, small_less, small_next}
use Rattle.msc_scenarios.proofs.FollowLemmas.{IsGiven, Took, after, back, block_is, cut_of, ending_of, front, healed_of, then_broke, then_going, then_long}
use Rattle.msc_scenarios.proofs.FollowListLemmas.{taking}
use Rattle.msc_scenarios.proofs.FollowWalkLemmas.{all_taken, given_all, whole_by}
use Rattle.msc_scenarios.proofs.HistoryLemmas.{Either, Same}
use Rattle.msc_scenarios.proofs.HistoryListLemmas.{listed_history, round_none, round_one, row_none, row_one, row_skip, side_none, side_one, through_none, through_some}
use Rattle.msc_scenarios.proofs.WalkLemmas as walks

-- from w on v took the choices of a history and has its steps, and has ended so
pub record Went (w v : Walk) (h : History) (cut : Bool) : Type 0 where
  pub given : v.given ≡ w.given
  pub lines : v.lines ≡ w.lines
  pub taken : v.taken ≡ w.taken ++ h.choices
  pub steps : v.steps ≡ w.steps ++ h.steps
  pub ending : v.ending ≡ ending_of cut

abbrev Ends : Walk → Walk → History → Bool → Type 0
Ends w v h cut = IsTooLong v ⊎ Went w v h cut

module _ (lines : List (List ℕ)) where
  -- a walk between these lines does what the histories tell
  pub record Does (f : Walk → Walk) (P : Histories) : Type 0 where
    pub ends : (w : Walk) (h : History) (cut : Bool) → P h cut → IsGiven w h.choices → w.lines ≡ lines → Ends w (f w) h cut

  does_when : (f g : Walk → Walk) (P : Histories) → ((w : Walk) → w.ending ≡ ends.Goes → g w ≡ f w) → Does f P → Does g P
  does_when f g P e d = record { ends = λ w h cut p i l. subst (λ v. Ends w v h cut) (sym (e w i.going)) (d.ends w h cut p i l) }

  does_same : (f : Walk → Walk) (P Q : Histories) → Same P Q → Does f P → Does f Q
  does_same f P Q s d = record { ends = λ w h cut q i l. d.ends w h cut (s.back h cut q) i l }

  -- nothing happens
  nothing_ends : (w : Walk) → w.ending ≡ ends.Goes → Ends w w (only []) false
  nothing_ends w e = inr (record { given = refl; lines = refl; taken = sym (append-nil w.taken); steps = sym (append-nil w.steps); ending = e })

  only_ends : (w v : Walk) (x h : History) (cut : Bool) → Only x h cut → Ends w v x false → Ends w v h cut
  only_ends w v x h cut p k = subst (λ y. Ends w v y cut) (sym p.0) (subst (Ends w v x) (sym p.1) k)

  does_nothing : Does (λ w. w) (Only (only []))
  does_nothing = record { ends = λ w h cut p i l. only_ends w w (only []) h cut p (nothing_ends w i.going) }

  -- the one, and then the other
  module _ (f g : Walk → Walk) (P Q : Histories) (F : Does f P) (G : Does g Q) where
    stop_end : (w : Walk) (h : History) (cut : Bool) → cut ≡ true → Ends w (f w) h true → Ends w (then (f w) g) h cut
    stop_end w h cut e (inl long) = inl (subst IsTooLong (sym (then_long (f w) g long)) long)
    stop_end w h cut e (inr t) = subst (Ends w (then (f w) g) h) (sym e) (subst (λ v. Ends w v h true) (sym (then_broke (f w) g t.ending)) (inr t))

    both_end : (w v u : Walk) (x y : History) (cut : Bool) → Went w v x false → Ends v u y cut → Ends w u (joined x y) cut
    both_end w v u x y cut t (inl long) = inl long
    both_end w v u x y cut t (inr s) = inr (record {
      given = s.given ∙ t.given;
      lines = s.lines ∙ t.lines;
      taken = s.taken ∙ ap (λ z. z ++ y.choices) t.taken ∙ append_assoc w.taken x.choices y.choices;
      steps = s.steps ∙ ap (λ z. z ++ y.steps) t.steps ∙ append_assoc w.steps x.steps y.steps;
      ending = s.ending;
    })

    next_end : (w : Walk) (x y : History) (cut : Bool) → Q y cut → IsGiven w (x.choices ++ y.choices) → w.lines ≡ lines → Ends w (f w) x false → Ends w (then (f w) g) (joined x y) cut
    next_end w x y cut q i l (inl long) = inl (subst IsTooLong (sym (then_long (f w) g long)) long)
    next_end w x y cut q i l (inr t) =
        let took : Took w (f w) x.choices ends.Goes = record { given = t.given; taken = t.taken; ending = t.ending } in
        let on = G.ends (f w) y cut q (back w x.choices y.choices (f w) i took) (t.lines ∙ l) in
        subst (λ v. Ends w v (joined x y) cut) (sym (then_going (f w) g t.ending)) (both_end w (f w) (g (f w)) x y cut t on)

    then_end : (w : Walk) (h : History) (cut : Bool) → Then P Q h cut → IsGiven w h.choices → w.lines ≡ lines → Ends w (then (f w) g) h cut
    then_end w h cut (inl t) i l = stop_end w h cut t.1 (F.ends w h true t.0 i l)
    then_end w h cut (inr t) i l =
        let x = t.0 in let y = t.1 in
        let j : IsGiven w (x.choices ++ y.choices) = subst (λ (z : History). IsGiven w z.choices) t.2 i in
        subst (λ z. Ends w (then (f w) g) z cut) (sym t.2) (next_end w x y cut t.4 j l (F.ends w x false t.3 (front w x.choices y.choices j) l))

    does_then : Does (λ w. then (f w) g) (Then P Q)
    does_then = record { ends = then_end }

  -- a break ends nothing further out, or what it stands in
  heal_end : (w v : Walk) (x : History) (broke : Bool) → Ends w v x broke → Ends w (unbroken v) x false
  heal_end w v x broke (inl long) = inl (long.0, ap passing.healed long.1)
  heal_end w v x broke (inr t) = inr (record { given = t.given; lines = t.lines; taken = t.taken; steps = t.steps; ending = ap passing.healed t.ending ∙ healed_of broke })

  cut_end : (w v : Walk) (x : History) (broke : Bool) → Ends w v x broke → Ends w (broken v) x true
  cut_end w v x broke (inl long) = inl (long.0, ap cut_off long.1)
  cut_end w v x broke (inr t) = inr (record { given = t.given; lines = t.lines; taken = t.taken; steps = t.steps; ending = ap cut_off t.ending ∙ cut_of broke })

  -- what follows a choice
  module _ (place : Position) (most main : ℕ) (after_it : ℕ → Walk → Walk) (closed : Walk → Walk) (so : Bool) (close : (w v : Walk) (x : History) (broke : Bool) → Ends w v x broke → Ends w (closed v) x so) where
    under_end : (c : ℕ) (w v : Walk) (x : History) → Ends (with_choice c w) v x so → Ends w v (under c x) so
    under_end c w v x (inl long) = inl long
    under_end c w v x (inr t) = inr (record { given = t.given; lines = t.lines; taken = t.taken ∙ append_assoc w.taken (c ∷ []) x.choices; steps = t.steps; ending = t.ending })

    module _ (c : ℕ) (small : nat_le c most ≡ true) (f : Walk → Walk) (P : Histories) (F : Does f P) (is : (w : Walk) → w.ending ≡ ends.Goes → after_it c w ≡ closed (f w)) where
      chosen_end : (w : Walk) (x : History) (broke : Bool) → P x broke → IsGiven w (c ∷ x.choices) → w.lines ≡ lines → Ends w (taking place most main after_it w) (under c x) so
      chosen_end w x broke p i l =
          let path : Path = record { choices = x.choices; broken = broke } in let u = with_choice c w in
          let same = block_is place most main after_it c small path w i ∙ is u i.going in
          let here = F.ends u x broke p (after place most main after_it c small path w i) l in
          subst (λ v. Ends w v (under c x) so) (sym same) (under_end c w (closed (f u)) x (close u (f u) x broke here))

      does_chosen : Does (taking place most main after_it) (Made (under c) so P)
      does_chosen = record {
        ends = λ w h cut m i l.
            subst (λ z. Ends w (taking place most main after_it w) z cut) (sym m.3)
            (subst (Ends w (taking place most main after_it w) (under c m.0)) (sym m.4) (chosen_end w m.0 m.1 m.2 (subst (λ (z : History). IsGiven w z.choices) m.3 i) l));
      }

  does_either : (f : Walk → Walk) (P Q : Histories) → Does f P → Does f Q → Does f (Either P Q)
  does_either f P Q F G = record { ends = λ w h cut p i l. elim p [ inl q ↦ F.ends w h cut q i l | inr q ↦ G.ends w h cut q i l ] }

  -- an arrow is met
  module _ (p : Placed) (a : Arrow) (lost : Bool) (rs : List ℕ) where
    meet_ends : (w : Walk) → w.ending ≡ ends.Goes → Ends w (meet p a lost rs w) (met w.lines p a lost rs) false
    unfolding meet
    meet_ends w e =
        let more : Walk = record {
          lines = w.lines;
          given = w.given;
          taken = w.taken;
          steps = w.steps ++ steps.Meets (message_of w.lines p a lost rs) ∷ [];
          arrows = w.arrows + heads a;
          ending = w.ending;
        } in
        let stopped = ended (ends.Stopped (TooManyArrows (start_of p))) w in
        elim (nat_le (w.arrows + heads a) ARROW_LIMIT) as (λ t. Ends w (cond t more stopped) (met w.lines p a lost rs) false) [
          | true ↦ inr (record { given = refl; lines = refl; taken = sym (append-nil w.taken); steps = refl; ending = e })
          | false ↦ inl (start_of p, refl)
        ]

    does_meet : Does (meet p a lost rs) (Only (met lines p a lost rs))
    does_meet = record {
      ends = λ w h cut q i l.
          only_ends w (meet p a lost rs w) (met lines p a lost rs) h cut q (subst (λ ls. Ends w (meet p a lost rs w) (met ls p a lost rs) false) l (meet_ends w i.going));
    }

  module _ (p : Placed) (a : Arrow) (rs : List ℕ) where
    abbrev by_choice : ℕ → Walk → Walk
    by_choice c = meet p a (c == 0) rs

    does_fate : Does (λ w. then (choose (start_of p) 1 0 w) (by_choice (choice_of 0 w))) (Either (Made (under 0) false (Only (met lines p a true rs))) (Made (under 1) false (Only (met lines p a false rs))))
    does_fate =
        does_either (taking (start_of p) 1 0 by_choice) (Made (under 0) false (Only (met lines p a true rs))) (Made (under 1) false (Only (met lines p a false rs)))
        (does_chosen (start_of p) 1 0 by_choice unbroken false heal_end 0 refl (meet p a true rs) (Only (met lines p a true rs)) (does_meet p a true rs) (λ w e. meet_unbroken p a true rs w e))
        (does_chosen (start_of p) 1 0 by_choice unbroken false heal_end 1 refl (meet p a false rs) (Only (met lines p a false rs)) (does_meet p a false rs) (λ w e. meet_unbroken p a false rs w e))

    said_end : (w : Walk) (h : History) (cut : Bool) → Said lines p a rs h cut → IsGiven w h.choices → w.lines ≡ lines → Ends w (said p a rs w) h cut
    unfolding said
    said_end w h cut (inl q) i l =
        let taken = then (choose (start_of p) 1 0 w) (by_choice (choice_of 0 w)) in
        subst (λ t. Ends w (cond t taken (meet p a (is_loss a.fate) rs w)) h cut) (sym q.0) (does_fate.ends w h cut q.1 i l)
    said_end w h cut (inr q) i l =
        let taken = then (choose (start_of p) 1 0 w) (by_choice (choice_of 0 w)) in
        subst (λ t. Ends w (cond t taken (meet p a (is_loss a.fate) rs w)) h cut) (sym q.0) ((does_meet p a (is_loss a.fate) rs).ends w h cut q.1 i l)

  module _ (walker : Walker) (inner : Branch) (alike : (rs : List ℕ) (b : List Placed) → Does (walker b rs) (inner rs b)) (rs : List ℕ) where
    -- rounds of a loop
    does_rounds : (body : List Placed) (n k : ℕ) → Does (rounds_from walker body rs k n) (Rounds inner body rs k n)
    does_rounds body zero k =
        does_when (λ w. w) (rounds_from walker body rs k 0) (Rounds inner body rs k 0) (λ w e. walks.round_none walker body rs k 0 w refl) (does_same (λ w. w) (Only (only [])) (Rounds inner body rs k 0) (round_none inner body rs k) does_nothing)
    does_rounds body (suc n) k =
        let one = walker body (rs ++ (k + 1) ∷ []) in let rest = rounds_from walker body rs (k + 1) n in
        let B = inner (rs ++ (k + 1) ∷ []) body in let R = Rounds inner body rs (k + 1) n in
        does_when (λ w. then (one w) rest) (rounds_from walker body rs k (suc n)) (Rounds inner body rs k (suc n)) (λ w e. walks.round_step walker body rs k (suc n) n w refl)
        (does_same (λ w. then (one w) rest) (Then B R) (Rounds inner body rs k (suc n)) (round_one inner body rs k n) (does_then one rest B R (alike (rs ++ (k + 1) ∷ []) body) (does_rounds body n (k + 1))))

    -- parallel branches
    mark_end : (w v : Walk) (x : History) → Ends w v x false → Ends w (then v (put steps.Next)) (marked x) false
    mark_end w v x (inl long) = inl (subst IsTooLong (sym (then_long v (put steps.Next) long)) long)
    mark_end w v x (inr t) =
        subst (λ u. Ends w u (marked x) false) (sym (then_going v (put steps.Next) t.ending))
        (inr (record { given = t.given; lines = t.lines; taken = t.taken; steps = ap (λ z. z ++ steps.Next ∷ []) t.steps ∙ append_assoc w.steps x.steps (steps.Next ∷ []); ending = t.ending }))

    does_side : (b : List Placed) → Does (λ w. then (unbroken (walker b rs w)) (put steps.Next)) (Made marked false (inner rs b))
    does_side b = record {
      ends = λ w h cut m i l.
          let v = walker b rs w in let u = then (unbroken v) (put steps.Next) in
          let here = (alike rs b).ends w m.0 m.1 m.2 (subst (λ (z : History). IsGiven w z.choices) m.3 i) l in
          subst (λ z. Ends w u z cut) (sym m.3) (subst (Ends w u (marked m.0)) (sym m.4) (mark_end w (unbroken v) m.0 (heal_end w v m.0 m.1 here)));
    }

    does_sides : (bs : List (List Placed)) → Does (side_by_side walker bs rs) (Sides inner rs bs)
    does_sides [] =
        does_when (λ w. w) (side_by_side walker [] rs) (Sides inner rs []) (λ w e. walks.side_none walker rs w) (does_same (λ w. w) (Only (only [])) (Sides inner rs []) (side_none inner rs) does_nothing)
    does_sides (b ∷ bs) =
        let one = λ (w : Walk). then (unbroken (walker b rs w)) (put steps.Next) in let rest = side_by_side walker bs rs in
        let M = Made marked false (inner rs b) in let S = Sides inner rs bs in
        does_when (λ w. then (one w) rest) (side_by_side walker (b ∷ bs) rs) (Sides inner rs (b ∷ bs)) (λ w e. walks.side_cons walker b bs rs w)
        (does_same (λ w. then (one w) rest) (Then M S) (Sides inner rs (b ∷ bs)) (side_one inner rs b bs) (does_then one rest M S (does_side b) (does_sides bs)))

    -- no break leads out of them
    sides_whole : (bs : List (List Placed)) (x : History) (cut : Bool) → Sides inner rs bs x cut → cut ≡ false
    unfolding Sides
    sides_whole [] x cut s = s.1
    sides_whole (b ∷ bs) x cut (inl s) = absurd (false≢true (sym s.0.4))
    sides_whole (b ∷ bs) x cut (inr s) = sides_whole bs s.1 cut s.4

    module _ (place : Position) (bs : List (List Placed)) where
      close_end : (w v : Walk) (x : History) → Ends (put (steps.Opens place) w) v x false → Ends w (then v (put steps.Closes)) (enclosed place x) false
      close_end w v x (inl long) = inl (subst IsTooLong (sym (then_long v (put steps.Closes) long)) long)
      close_end w v x (inr t) =
          let opened = steps.Opens place ∷ [] in let closed = steps.Closes ∷ [] in
          let is = ap (λ z. z ++ closed) t.steps ∙ append_assoc (w.steps ++ opened) x.steps closed ∙ append_assoc w.steps opened (x.steps ++ closed) in
          subst (λ u. Ends w u (enclosed place x) false) (sym (then_going v (put steps.Closes) t.ending))
          (inr (record { given = t.given; lines = t.lines; taken = t.taken; steps = is; ending = t.ending }))

      par_end : (w : Walk) (x : History) (cut : Bool) → Sides inner rs bs x cut → IsGiven w x.choices → w.lines ≡ lines → Ends w (then (side_by_side walker bs rs (put (steps.Opens place) w)) (put steps.Closes)) (enclosed place x) cut
      par_end w x cut s i l =
          let whole = sides_whole bs x cut s in let v = put (steps.Opens place) w in
          let given : IsGiven v x.choices = record { going = i.going; rest = i.rest; given = i.given } in
          let here = (does_sides bs).ends v x false (subst (Sides inner rs bs x) whole s) given l in
          subst (Ends w (then (side_by_side walker bs rs v) (put steps.Closes)) (enclosed place x)) (sym whole) (close_end w (side_by_side walker bs rs v) x here)

      -- one of the branches behind the first ones
      module _ (most main : ℕ) (after_it : ℕ → Walk → Walk) (f : Walk → Walk) (F : Histories) (first : Does f F) (start more : ℕ) (small : (i : ℕ) → i < length bs → nat_le (i + more) most ≡ true) (is : (i : ℕ) → start ≤ i → (w : Walk) → w.ending ≡ ends.Goes → after_it (i + more) w ≡ unbroken (then (f w) (walker (branch_at bs i) rs))) where
        does_one_of : Does (taking place most main after_it) (OneOf inner bs rs F start more)
        does_one_of = record {
          ends = λ w h cut m i l.
              let b = branch_at bs m.0 in
              (does_chosen place most main after_it unbroken false heal_end (m.0 + more) (small m.0 m.2) (λ v. then (f v) (walker b rs)) (Then F (inner rs b)) (does_then f (walker b rs) F (inner rs b) first (alike rs b)) (is m.0 m.1)).ends w h cut m.3 i l;
        }

      module _ (most main : ℕ) (after_it : ℕ → Walk → Walk) (f : Walk → Walk) (P : Histories) (F : Does f P) where
        does_healed : (c : ℕ) → nat_le c most ≡ true → ((w : Walk) → w.ending ≡ ends.Goes → after_it c w ≡ unbroken (f w)) → Does (taking place most main after_it) (Made (under c) false P)
        does_healed c small is = does_chosen place most main after_it unbroken false heal_end c small f P F is

        does_cut : (c : ℕ) → nat_le c most ≡ true → ((w : Walk) → w.ending ≡ ends.Goes → after_it c w ≡ broken (f w)) → Does (taking place most main after_it) (Made (under c) true P)
        does_cut c small is = does_chosen place most main after_it broken true cut_end c small f P F is

      abbrev takes : Passage → Walk → Walk
      takes passage = taking place (most_of passage (length bs)) (main_of passage) (follow walker passage bs rs)

      module _ (rounds : List ℕ) (few : (r : ℕ) → Contains rounds r → r ≤ ROUND_LIMIT) where
        does_loop : Does (takes passages.Rounds) (λ h cut. (r : ℕ) × Contains rounds r × Made (under r) false (Rounds inner (branch_at bs 0) rs 0 r) h cut)
        does_loop = record {
          ends = λ w h cut m i l.
              let r = m.0 in let body = branch_at bs 0 in
              (does_healed ROUND_LIMIT 1 (follow walker passages.Rounds bs rs) (λ v. then v (rounds_from walker body rs 0 r)) (Rounds inner body rs 0 r)
              (does_when (rounds_from walker body rs 0 r) (λ v. then v (rounds_from walker body rs 0 r)) (Rounds inner body rs 0 r) (λ v e. then_going v (rounds_from walker body rs 0 r) e) (does_rounds body r 0))
              r (le-leb r ROUND_LIMIT (few r m.1)) (λ v e. rounds_are walker bs rs v e r)).ends w h cut m.2 i l;
        }

        does_formed : (passage : Passage) → Does (passing.formed walker place passage bs rs) (Formed inner rounds place passage bs rs)
        unfolding passing.formed Formed
        does_formed passages.OneOf =
            does_one_of (length bs - 1) 0 (follow walker passages.OneOf bs rs) (λ w. w) (Only (only [])) does_nothing 0 0 (small_less (length bs)) (λ i from w e. one_of_is walker bs rs w e i)
        does_formed passages.Maybe =
            let h = follow walker passages.Maybe bs rs in
            does_either (takes passages.Maybe) (Made (under 0) false (Only (only []))) (OneOf inner bs rs (Only (only [])) 0 1)
            (does_healed (length bs) 1 h (λ w. w) (Only (only [])) does_nothing 0 (least (length bs)) (λ w e. maybe_not walker bs rs w e))
            (does_one_of (length bs) 1 h (λ w. w) (Only (only [])) does_nothing 0 1 (small_next (length bs)) (λ i from w e. maybe_is walker bs rs w e i))
        does_formed passages.Rounds = does_loop
        does_formed passages.Break =
            let h = follow walker passages.Break bs rs in let b = branch_at bs 0 in
            does_either (takes passages.Break) (Made (under 0) false (Only (only []))) (Made (under 1) true (inner rs b))
            (does_healed 1 0 h (λ w. w) (Only (only [])) does_nothing 0 refl (λ w e. break_not walker bs rs w e))
            (does_cut 1 0 h (walker b rs) (inner rs b) (alike rs b) 1 refl (λ w e. break_is walker bs rs w))
        does_formed passages.First =
            let h = follow walker passages.First bs rs in let b = branch_at bs 0 in
            does_either (takes passages.First) (Made (under 0) false (inner rs b)) (OneOf inner bs rs (inner rs b) 1 0)
            (does_healed (length bs - 1) 0 h (walker b rs) (inner rs b) (alike rs b) 0 (least (length bs - 1)) (λ w e. first_not walker bs rs w))
            (does_one_of (length bs - 1) 0 h (walker b rs) (inner rs b) (alike rs b) 1 0 (small_less (length bs)) (λ i from w e. first_is walker bs rs w i from))
        does_formed passages.Par = record {
          ends = λ w h cut m i l.
              subst (λ z. Ends w (then (side_by_side walker bs rs (put (steps.Opens place) w)) (put steps.Closes)) z cut) (sym m.1)
              (par_end w m.0 cut m.2 (subst (λ (z : History). IsGiven w z.choices) m.1 i) l);
        }
        does_formed passages.Plain = alike rs (branch_at bs 0)

    module _ (rounds : List ℕ) (few : (r : ℕ) → Contains rounds r → r ≤ ROUND_LIMIT) where
      block_end : (place : Position) (kind : Kind) (inside : List Placed) (w : Walk) (h : History) (cut : Bool) → Block inner rounds place kind inside rs h cut → IsGiven w h.choices → w.lines ≡ lines → Ends w (passing.block walker place kind inside rs w) h cut
      unfolding passing.block
      block_end place kind inside w h cut (inl q) i l =
          let bs = branches_in 0 inside in let passage = passage_of kind (length bs) in
          subst (λ t. Ends w (cond t (passing.formed walker place passage bs rs w) w) h cut) (sym q.0) ((does_formed place bs rounds few passage).ends w h cut q.1 i l)
      block_end place kind inside w h cut (inr q) i l =
          let bs = branches_in 0 inside in let passage = passage_of kind (length bs) in
          subst (λ t. Ends w (cond t (passing.formed walker place passage bs rs w) w) h cut) (sym q.0) (does_nothing.ends w h cut q.1 i l)

      does_one : (p : Placed) (s : Statement) (ps : List Placed) → Does (passing.one walker p s ps rs) (One lines inner rounds p s ps rs)
      does_one p (Begins kind) ps = record { ends = block_end (start_of p) kind (take (extent 0 ps) ps) }
      does_one p (Says arrow) ps = record { ends = said_end p arrow rs }
      does_one p (Declares ident shown) ps = does_nothing
      does_one p (Closes closer) ps = does_nothing

      does_row : (n : ℕ) (ps : List Placed) → Does (walk_on walker n ps rs) (Row lines inner rounds n ps rs)
      does_row n [] =
          does_when (λ w. w) (walk_on walker n [] rs) (Row lines inner rounds n [] rs) (λ w e. walks.on_none walker n rs w) (does_same (λ w. w) (Only (only [])) (Row lines inner rounds n [] rs) (row_none lines inner rounds rs n) does_nothing)
      does_row (suc n) (p ∷ ps) =
          does_when (walk_on walker n ps rs) (walk_on walker (suc n) (p ∷ ps) rs) (Row lines inner rounds (suc n) (p ∷ ps) rs) (λ w e. walks.on_skip walker n p ps rs w)
          (does_same (walk_on walker n ps rs) (Row lines inner rounds n ps rs) (Row lines inner rounds (suc n) (p ∷ ps) rs) (row_skip lines inner rounds rs n p ps) (does_row n ps))
      does_row zero (p ∷ ps) =
          let n = owned_by p.statement ps in let one = passing.one walker p p.statement ps rs in let rest = walk_on walker n ps rs in
          let O = One lines inner rounds p p.statement ps rs in let R = Row lines inner rounds n ps rs in
          does_when (λ w. then (one w) rest) (walk_on walker 0 (p ∷ ps) rs) (Row lines inner rounds 0 (p ∷ ps) rs) (λ w e. walks.on_one walker p ps rs w)
          (does_same (λ w. then (one w) rest) (Then O R) (Row lines inner rounds 0 (p ∷ ps) rs) (row_one lines inner rounds rs p ps) (does_then one rest O R (does_one p p.statement ps) (does_row n ps)))

  does_walk : (rounds : List ℕ) → ((r : ℕ) → Contains rounds r → r ≤ ROUND_LIMIT) → (d : ℕ) (rs : List ℕ) (ps : List Placed) → Does (walk d ps rs) (Through lines rounds d rs ps)
  does_walk rounds few zero rs ps =
      does_when (λ w. w) (walk 0 ps rs) (Through lines rounds 0 rs ps) (λ w e. walks.walk_zero 0 ps rs w refl) (does_same (λ w. w) (Only (only [])) (Through lines rounds 0 rs ps) (through_none lines rounds rs ps) does_nothing)
  does_walk rounds few (suc d) rs ps =
      let on = walk_on (walk d) 0 ps rs in let R = Row lines (Through lines rounds d) rounds 0 ps rs in
      does_when on (walk (suc d) ps rs) (Through lines rounds (suc d) rs ps) (λ w e. walks.walk_some (suc d) d ps rs w refl)
      (does_same on R (Through lines rounds (suc d) rs ps) (through_some lines rounds d rs ps) (does_row (walk d) (Through lines rounds d) (does_walk rounds few d) rs rounds few 0 ps))

-- the walk with the choices of a history has its steps
whole_end : (lines : List (List ℕ)) (v : Walk) (h : History) (cut : Bool) → Ends (at_rest lines h.choices) v h cut → IsTooLong v ⊎ (Takes h.choices v × (v.steps ≡ h.steps))
whole_end lines v h cut (inl long) = inl long
whole_end lines v h cut (inr t) =
    let all = all_taken (length v.given) (length v.taken) (ap length (t.given ∙ sym t.taken)) in
    inr ((t.taken, ap (unended v) t.ending ∙ whole_by v cut all), t.steps)

pub history_walked : (rounds : List ℕ) (d : Diagram) (h : History) → ((r : ℕ) → Contains rounds r → r ≤ ROUND_LIMIT) → IsHistory rounds d h
    → IsTooLong (walked d h.choices) ⊎ (Takes h.choices (walked d h.choices) × ((walked d h.choices).steps ≡ h.steps))
history_walked rounds d h few is =
    whole_end d.lines (walked d h.choices) h is.0 ((does_walk d.lines rounds few (DEPTH_LIMIT + 1) [] d.statements).ends (at_rest d.lines h.choices) h is.0 is.1 (given_all d.lines h.choices) refl)

-- what a walk takes is a history
module _ (rounds : List ℕ) (d : Diagram) (given : List ℕ) (t : Takes given (walked d given)) where
  by_walk : (ss : List Step) → IsHistory rounds d (record { choices = given; steps = ss }) → IsTooLong (walked d given) ⊎ (Takes given (walked d given) × ((walked d given).steps ≡ ss)) → IsHistory rounds d (record { choices = given; steps = (walked d given).steps })
  by_walk ss h (inl long) = absurd (no_draft (TooManyArrows long.0) (walked d given) (walked d given).ending long.1 t.1)
  by_walk ss h (inr k) = subst (λ z. IsHistory rounds d (record { choices = given; steps = z })) (sym k.1) h

  pub walked_history : ((r : ℕ) → (Contains rounds r → r ≤ ROUND_LIMIT) × (r ≤ ROUND_LIMIT → Contains rounds r)) → IsHistory rounds d (record { choices = given; steps = (walked d given).steps })
  walked_history full =
      let found = listed_history rounds d given (none_missing rounds d given (λ r. (full r).1) t) in
      by_walk found.0 found.1 (history_walked rounds d (record { choices = given; steps = found.0 }) (λ r. (full r).0) found.1)
