-- From lists of what came back to the laws over instance numbers.
use Rattle.std.proofs.Common.{◌≡◌, ℕ, zero, suc, ◌<◌, true, List, [], ◌∷◌, ◌++◌, length, get_or, map, refl, sym, ap, ◌∙◌, arith, subst, append_assoc}
use Rattle.std.specs.Prelude.{Bool, Some, slice_get}
use Rattle.std.proofs.lemmas.List.{length-map, append-nil}
use Rattle.msc_chart.specs.declared.queue.Queues.{Queues}
use Rattle.msc_chart.specs.Lists.{occurs}
use Rattle.msc_chart.specs.Drawings.{Drawing, IsAccepted}
use Rattle.msc_fifo.specs.Ends.{InletState, AreOutletsOf}
use Rattle.msc_ending.specs.declared.end.End.{End}
use Rattle.msc_ending.specs.declared.end.End.TheVariants.{Finished}
use Rattle.msc_execution.specs.Roles.{NumberedOutlet, NumberedInlet, EndLists, role, wired_ends, IsWiring, queues_in}
use Rattle.msc_execution.specs.Running.{Left, HasRun}
use Rattle.msc_execution.specs.Executions.{Outcome, log_at, IsExecution}
use Rattle.msc_execution.specs.Fits.{no_ends}
use Rattle.msc_execution.specs.Settling.{of_queue, IsSettledOf, HaveRunFrom, outlets_back, inlets_back, AreSettledBack, RunsHoldQueues, SettledRunsAreExecutions}
use Rattle.msc_execution.proofs.Settling.Came.{together, left_at, came_of, all_outlets, all_inlets, HaveRunFresh, AreSettled}
use Rattle.msc_execution.proofs.Settling.FlatLists.{flat_lists}
use Rattle.msc_execution.proofs.Settling.Ended.{runs_ended}
use Rattle.msc_execution.proofs.Settling.Executed.{executed}

-- something stands at each place of a list
stands : {A : Type 0} (xs : List A) (i : ℕ) → i < length xs → (x : A) × (slice_get xs i ≡ Some x)
stands [] i lt = absurd (omega arith)
stands (x ∷ xs) zero lt = (x, refl)
stands (x ∷ xs) (suc i) lt = stands xs i (omega arith)

-- what stands at a place of a mapped list
read : {A B : Type 0} (f : A → B) (xs : List A) (i : ℕ) (x : A) (d : B) → slice_get xs i ≡ Some x
    → get_or (map f xs) i d ≡ f x
read f [] i x d at = cc
read f (y ∷ ys) zero x d at = (let same : y ≡ x = cc in ap f same)
read f (y ∷ ys) (suc i) x d at = read f ys i x d at

-- the first of the lists comes first
together_first : {A : Type 0} (f : ℕ → List A) (n : ℕ)
    → together f (suc n) ≡ f zero ++ together (λ i. f (suc i)) n
together_first f zero = sym (append-nil (f zero))
together_first f (suc n) =
    ap (λ l. l ++ f (suc n)) (together_first f n)
    ∙ append_assoc (f zero) (together (λ i. f (suc i)) n) (f (suc n))

-- the ends of instance i
back_of : List Left → ℕ → EndLists
back_of ran i = get_or (map (λ (r : Left). r.ends) ran) i no_ends

-- the outlets of all instances, one after the other
flat_outlets : (ran : List Left)
    → together (λ i. (back_of ran i).outlets) (length ran) ≡ outlets_back ran
unfolding back_of
flat_outlets [] = refl
flat_outlets (r ∷ ran) =
    together_first (λ i. (back_of (r ∷ ran) i).outlets) (length ran)
    ∙ ap (λ (l : List NumberedOutlet). r.ends.outlets ++ l) (flat_outlets ran)

-- and their inlets
flat_inlets : (ran : List Left)
    → together (λ i. (back_of ran i).inlets) (length ran) ≡ inlets_back ran
unfolding back_of
flat_inlets [] = refl
flat_inlets (r ∷ ran) =
    together_first (λ i. (back_of (r ∷ ran) i).inlets) (length ran)
    ∙ ap (λ (l : List NumberedInlet). r.ends.inlets ++ l) (flat_inlets ran)

-- what an instance leaves, of these parts
abbrev left_from : List ℕ → EndLists → End → Left
left_from log ends end = record { log = log; ends = ends; end = end }

-- equal parts make it equal
same_left : (a x : List ℕ) (b y : EndLists) (c z : End) → a ≡ x → b ≡ y → c ≡ z
    → left_from a b c ≡ left_from x y z
same_left a x b y c z p q r =
    ap (λ (l : List ℕ). left_from l b c) p ∙ ap (λ (l : EndLists). left_from x l c) q
    ∙ ap (λ (l : End). left_from x y l) r

module _ {queues : Queues} {d : Drawing} {open' : Bool} {patience : ℕ} {fresh : List EndLists}
    {ran : List Left}
    (accepted : IsAccepted d) (wiring : IsWiring queues d fresh)
    (runs : HaveRunFrom queues d open' patience fresh ran) where
  -- as many came back as there are instances
  many : length ran ≡ length d.instances
  many = runs.many ∙ wiring.many

  module _ (o : Outcome) (logs : o.logs ≡ map (λ (r : Left). r.log) ran)
      (ends : o.ends ≡ map (λ (r : Left). r.end) ran) where
    -- what came back at a place is what the instance of that number left
    left_is : (i : ℕ) (r : Left) → slice_get ran i ≡ Some r
        → r ≡ left_at (came_of o (back_of ran)) i
    unfolding back_of
    left_is i r at =
        let a : r.log ≡ log_at o i =
        sym (ap (λ (l : List (List ℕ)). get_or l i []) logs
        ∙ read (λ (x : Left). x.log) ran i r [] at) in
        let b : r.ends ≡ back_of ran i = sym (read (λ (x : Left). x.ends) ran i r no_ends at) in
        let c : r.end ≡ get_or o.ends i Finished =
        sym (ap (λ (l : List End). get_or l i Finished) ends
        ∙ read (λ (x : Left). x.end) ran i r Finished at) in
        same_left r.log (log_at o i) (r.ends) (back_of ran i) r.end (get_or o.ends i Finished) a b c

    -- each instance ran from its fresh ends
    have_run : HaveRunFresh queues d open' patience wiring.id (came_of o (back_of ran))
    have_run i lt =
        let (e, e_at) = stands fresh i (let m = wiring.many in omega arith) in
        let (r, r_at) = stands ran i (let m = many in omega arith) in
        let run = runs.each i e r e_at r_at in
        let w = wiring.each i e e_at in
        subst (λ (l : Left). HasRun (role queues d i) open' patience
        (wired_ends wiring.id (role queues d i)) l) (left_is i r r_at)
        (subst (λ (b : EndLists). HasRun (role queues d i) open' patience b r) w run)

    -- the outlets in hand are those of all instances
    outlets_same : all_outlets (came_of o (back_of ran)) (length d.instances) ≡ outlets_back ran
    outlets_same =
        ap (λ (n : ℕ). together (λ i. (back_of ran i).outlets) n) (sym many) ∙ flat_outlets ran

    -- so are the inlets
    inlets_same : all_inlets (came_of o (back_of ran)) (length d.instances) ≡ inlets_back ran
    inlets_same =
        ap (λ (n : ℕ). together (λ i. (back_of ran i).inlets) n) (sym many) ∙ flat_inlets ran

    -- a queue with a message has its one inlet and its outlets there
    holds : (q : ℕ) → occurs (queues_in queues d) q ≡ true
        → (inlet : InletState) × (of_queue q (inlets_back ran) ≡ inlet ∷ [])
        × AreOutletsOf inlet (of_queue q (outlets_back ran))
    holds q here =
        let h =
        flat_lists q accepted
        (runs_ended queues d open' patience wiring.id (came_of o (back_of ran)) have_run).grown
        here in (
          h.inlet,
          ap (of_queue q) (sym inlets_same) ∙ h.alone,
          subst (λ (l : List NumberedOutlet). AreOutletsOf h.inlet (of_queue q l)) outlets_same
              h.whole,
        )

    -- settled they are an execution
    right : AreSettledBack queues d ran o.settled → IsExecution queues d open' patience o
    right settled =
        let all : AreSettled queues d (came_of o (back_of ran)) o.settled = record {
          numbers = settled.numbers;
          each = λ q s there.
              let (inlet, alone, is) = settled.each q s there in (
                inlet,
                ap (of_queue q) inlets_same
                    ∙ alone,
                subst (λ (l : List NumberedOutlet). IsSettledOf inlet (of_queue q l) s)
                    (sym outlets_same) is,
              );
        } in
        executed queues d open' patience wiring.id o (back_of ran) accepted
        (ap (λ (l : List (List ℕ)). length l) logs ∙ length-map ran (λ (r : Left). r.log) ∙ many)
        (ap (λ (l : List End). length l) ends ∙ length-map ran (λ (r : Left). r.end) ∙ many)
        have_run all

-- before settling
pub hold_queues : RunsHoldQueues
hold_queues queues d open' patience fresh ran q accepted wiring runs here =
    holds accepted wiring runs
    (record {
      logs = map (λ (r : Left). r.log) ran;
      ends = map (λ (r : Left). r.end) ran;
      settled =
          [];
    })
    refl refl q here

-- after settling
pub settled_runs : SettledRunsAreExecutions
settled_runs queues d open' patience fresh ran o accepted wiring runs logs ends settled =
    right accepted wiring runs o logs ends settled
