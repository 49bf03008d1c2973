-- A walk meets each arrow once in each of its rounds: the numbers of the arrows that it meets
-- differ.
use Rattle.std.proofs.Common.{◌≡◌, ℕ, zero, suc, ◌+◌, ◌<◌, Bool, nat_le, ◌==◌, take, drop, sym, arith, List, [], ◌∷◌, refl, ap, subst, ◌∙◌}
use Rattle.std.specs.List.{AllByRecursion}
use Rattle.std.proofs.lemmas.Bool.{leb-true}
use Rattle.std.proofs.lemmas.List.{append-nil}
use Rattle.msc_chart.specs.Lists.{StandsAt, Occurs}
use Rattle.msc_chart.proofs.ListLemmas.{by_test}
use Rattle.msc_scenarios.specs.declared.TheConstants.{ARROW_LIMIT}
use Rattle.msc_scenarios.specs.declared.steps.Message.{Message}
use Rattle.msc_scenarios.specs.declared.steps.Step.TheVariants as steps
use Rattle.msc_mermaid.specs.declared.statement.Arrow.{Arrow}
use Rattle.msc_mermaid.specs.declared.statement.Placed.{Placed}
use Rattle.msc_mermaid.specs.declared.statement.Statement.{Statement}
use Rattle.msc_mermaid.specs.declared.statement.Statement.TheVariants.{Declares, Says, Begins, Closes}
use Rattle.msc_scenarios.specs.Steps.{Walk, Walker, block, extent, heads, is_choice, is_loss, meet, message_of, one, owned_by, said, start_of, then, walk, walk_on}
use Rattle.msc_import_laws.specs.Outlined.{AreDistinct, Differ}
use Rattle.msc_import_laws.proofs.Distinct.{distinct_drop, distinct_take, in_drop, in_take, parts_differ}
use Rattle.msc_import_laws.proofs.Growth.{Grows, grows_none, grows_same, grows_then, grows_wider}
use Rattle.msc_import_laws.proofs.Numbers.{IsRound}
use Rattle.msc_import_laws.proofs.MetArrows.{AreLow, IsMet, Meets, apart_met, met_wider}
use Rattle.msc_import_laws.proofs.MetBlocks.{block_grows, choice_grows}
use Rattle.msc_import_laws.proofs.Stands.{first_joined}

module _ (lines : List (List ℕ)) (d : ℕ) (inner : Walker) (good : Meets lines d inner) where
  -- an arrow
  meet_grows : (p : Placed) (a : Arrow) (lost : Bool) (rounds : List ℕ) (w : Walk) → p.statement ≡ Says a → p.number < 10000000 → w.lines ≡ lines → Grows (IsMet lines (d + 1) (p ∷ []) rounds) w (meet p a lost rounds w)
  unfolding meet
  meet_grows p a lost rounds w says small same =
      by_test (nat_le (w.arrows + heads a) ARROW_LIMIT)
      (λ room. rw room (record {
        new = steps.Meets (message_of w.lines p a lost rounds) ∷ [];
        steps = refl;
        lines = refl;
        arrows = omega arith;
        few = λ k. leb-true (w.arrows + heads a) ARROW_LIMIT room;
        made = record {
          each = λ i m h. record {
            placed = p;
            arrow = a;
            lost = lost;
            more = [];
            stands = (0, refl);
            says = says;
            low = small;
            few = omega arith;
            short = tt;
            is = sym (only i m h) ∙ ap (λ (l : List (List ℕ)). message_of l p a lost rounds) same ∙ ap (message_of lines p a lost) (sym (append-nil rounds));
          };
          apart = λ i j m n h k e. alone i j m n h k;
        };
      }))
      (λ full. rw full (grows_none (IsMet lines (d + 1) (p ∷ []) rounds) w _ refl refl refl))
    where
      only : (i : ℕ) (m : Message) → StandsAt (steps.Meets (message_of w.lines p a lost rounds) ∷ []) i (steps.Meets m) → message_of w.lines p a lost rounds ≡ m
      only zero m h = cc
      only (suc i) m h = cc

      alone : (i j : ℕ) (m n : Message) → StandsAt (steps.Meets (message_of w.lines p a lost rounds) ∷ []) i (steps.Meets m) → StandsAt (steps.Meets (message_of w.lines p a lost rounds) ∷ []) j (steps.Meets n) → i ≡ j
      alone zero zero m n h k = refl
      alone zero (suc j) m n h k = cc
      alone (suc i) j m n h k = cc

  -- an arrow, by its choice if it has one
  said_grows : (p : Placed) (a : Arrow) (rounds : List ℕ) (w : Walk) → p.statement ≡ Says a → p.number < 10000000 → w.lines ≡ lines → Grows (IsMet lines (d + 1) (p ∷ []) rounds) w (said p a rounds w)
  unfolding said
  said_grows p a rounds w says small same =
      by_test (is_choice a)
      (λ takes. rw takes (choice_grows (IsMet lines (d + 1) (p ∷ []) rounds) (start_of p) 1 0 w (λ c. meet p a (c == 0) rounds) (λ c v le e. meet_grows p a (c == 0) rounds v says small (e ∙ same))))
      (λ fixed. rw fixed (meet_grows p a (is_loss a.fate) rounds w says small same))

  -- statements, of which the first so many belong to one before them
  statements_grow : (n : ℕ) (ps : List Placed) (rounds : List ℕ) (w : Walk) → AreDistinct (drop n ps) → AreLow (drop n ps) → AllByRecursion IsRound rounds → w.lines ≡ lines
      → Grows (IsMet lines (d + 1) (drop n ps) rounds) w (walk_on inner n ps rounds w)
  unfolding walk_on
  statements_grow zero [] rounds w distinct low short same = grows_same _ w
  statements_grow (suc n) [] rounds w distinct low short same = grows_same _ w
  statements_grow (suc n) (p ∷ ps) rounds w distinct low short same = statements_grow n ps rounds w distinct low short same
  statements_grow zero (p ∷ ps) rounds w distinct low short same =
      by (λ n v e. statements_grow n ps rounds v (distinct_drop n ps distinct.1) (λ q o. low q (behind n q o)) short e) p.statement refl
    where
      Here : Message → Type 0
      Here = IsMet lines (d + 1) (p ∷ ps) rounds

      behind : (n : ℕ) (q : Placed) → Occurs (drop n ps) q → Occurs (p ∷ ps) q
      behind n q o = let r = in_drop n ps q o in (suc r.0, r.1)

      within : (n : ℕ) (q : Placed) → Occurs (take n ps) q → Occurs (p ∷ ps) q
      within n q o = let r = in_take n ps q o in (suc r.0, r.1)

      first : (m : Message) → IsMet lines (d + 1) (p ∷ []) rounds m → Here m
      first = met_wider lines (d + 1) (d + 1) (p ∷ []) (p ∷ ps) rounds (omega arith) (λ q o. first_joined (p ∷ []) ps q o)

      later : (n : ℕ) (m : Message) → IsMet lines (d + 1) (drop n ps) rounds m → Here m
      later n = met_wider lines (d + 1) (d + 1) (drop n ps) (p ∷ ps) rounds (omega arith) (behind n)

      inside : (n : ℕ) (m : Message) → IsMet lines (d + 1) (take n ps) rounds m → Here m
      inside n = met_wider lines (d + 1) (d + 1) (take n ps) (p ∷ ps) rounds (omega arith) (within n)

      alone : (q r : Placed) → Occurs (p ∷ []) q → Occurs (drop 0 ps) r → Differ q r
      alone q r (zero, h) o = let e : p ≡ q = cc in subst (λ x. Differ x r) e (distinct.0 r (in_drop 0 ps r o))
      alone q r (suc j, h) o = cc

      by : ((n : ℕ) (v : Walk) → v.lines ≡ lines → Grows (IsMet lines (d + 1) (drop n ps) rounds) v (walk_on inner n ps rounds v))
          → (s : Statement) → p.statement ≡ s → Grows Here w (then (one inner p s ps rounds w) (walk_on inner (owned_by s ps) ps rounds))
      by more (Says a) is =
          let v : Walk = said p a rounds w in
          let met = said_grows p a rounds w is (low p (0, refl)) same in
          grows_then (IsMet lines (d + 1) (p ∷ []) rounds) (IsMet lines (d + 1) (drop 0 ps) rounds) Here w v (walk_on inner 0 ps rounds) met (more 0 v (met.lines ∙ same))
          (apart_met lines (d + 1) (d + 1) (p ∷ []) (drop 0 ps) rounds rounds short short alone) first (later 0)
      by more (Begins kind) is =
          let n : ℕ = extent 0 ps in
          let v : Walk = block inner (start_of p) kind (take n ps) rounds w in
          let found = block_grows lines d inner good (start_of p) kind (take n ps) rounds w (distinct_take n ps distinct.1) (λ q o. low q (within n q o)) short same in
          grows_then (IsMet lines (d + 1) (take n ps) rounds) (IsMet lines (d + 1) (drop n ps) rounds) Here w v (walk_on inner n ps rounds) found (more n v (found.lines ∙ same))
          (apart_met lines (d + 1) (d + 1) (take n ps) (drop n ps) rounds rounds short short (λ q r o k. parts_differ n ps q r distinct.1 o k)) (inside n) (later n)
      by more (Declares ident shown) is = grows_then (λ m. ⊥) (IsMet lines (d + 1) (drop 0 ps) rounds) Here w w (walk_on inner 0 ps rounds) (grows_same (λ m. ⊥) w) (more 0 w same) (λ m n h k e. h) (λ m h. absurd h) (later 0)
      by more (Closes closer) is = grows_then (λ m. ⊥) (IsMet lines (d + 1) (drop 0 ps) rounds) Here w w (walk_on inner 0 ps rounds) (grows_same (λ m. ⊥) w) (more 0 w same) (λ m n h k e. h) (λ m h. absurd h) (later 0)

-- a walk through as many blocks inside each other
pub walks_meet : (lines : List (List ℕ)) (d : ℕ) → Meets lines d (walk d)
unfolding walk Meets
walks_meet lines zero = λ ps rounds w distinct low short same. grows_same (IsMet lines zero ps rounds) w
walks_meet lines (suc d) = λ ps rounds w distinct low short same.
    let found = statements_grow lines d (walk d) (walks_meet lines d) 0 ps rounds w (distinct_drop 0 ps distinct) (λ q o. low q (in_drop 0 ps q o)) short same in
    grows_wider (IsMet lines (d + 1) (drop 0 ps) rounds) (IsMet lines (suc d) ps rounds) w (walk_on (walk d) 0 ps rounds w) (met_wider lines (d + 1) (suc d) (drop 0 ps) ps rounds (omega arith) (in_drop 0 ps)) found
