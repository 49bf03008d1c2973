-- The faults in their order: what each stage of the building has found.
use Rattle.std.proofs.lemmas.Bool.{cases_lt}
use Rattle.std.proofs.Common.{inl, inr, ◌≡◌, ℕ, ◌+◌, ◌<◌, ◌≤◌, Bool, true, false, List, [], ◌∷◌, length, map, Bor, refl, sym, ap, ◌∙◌, subst, arith}
use Rattle.std.specs.Map.Iter.{deref}
use Rattle.std.specs.Cmp.Lexicographic.{bytes_decides}
use Rattle.std.specs.Prelude.{count_by}
use Rattle.std.proofs.lemmas.List.{length-map}
use Rattle.std.proofs.lemmas.Option.{slice_get_within}
use Rattle.msc_parser.specs.Grammar.{Tree}
use Rattle.msc_chart.specs.Building.{IsClearBelow}
use Rattle.msc_chart.specs.declared.TheConstants.{ACTION_LIMIT, INSTANCE_LIMIT}
use Rattle.msc_chart.specs.declared.fault.ChartFault.TheVariants.{TooManyInstances, TwiceInstance, HeaderWithoutBody, UnknownAddress, TooManyMessages, TooManyActions, TwiceEvent, UnmatchedOut, UnmatchedIn}
use Rattle.msc_chart.specs.declared.end.Mark as code
use Rattle.msc_chart.specs.declared.end.DraftEvent as coded
use Rattle.msc_chart.specs.declared.end.Act as code_act
use Rattle.msc_chart.specs.declared.end.Act.TheVariants as code_acts
use Rattle.msc_chart.specs.Events.{Act, instances_of, header_of, acts_of, events_of, address_of, is_action}
use Rattle.msc_chart.specs.Events.Act.{OfMessage}
use Rattle.msc_chart.specs.Hashing.{equal_names}
use Rattle.msc_chart.specs.Views.{act_view, event_view, mark_view, mark_at, marks_from}
use Rattle.msc_chart.specs.Numbering.{AreNewBelow, IsFirstRepeat}
use Rattle.msc_chart.specs.Lists.{IsLeast}
use Rattle.msc_chart.specs.Faults.{Stands, HoldsAt, IsRepeat, IsTwice, IsUnknown, IsUnmatched, OfEnd, AreTooMany, IsFirstFault}
use Rattle.msc_chart.proofs.FaultLemmas.{first_of, clear_next, clear_first}
use Rattle.msc_chart.proofs.Places.{repeat_from, no_repeat}
use Rattle.msc_chart.proofs.MatchingLemmas.{mark_same}
use Rattle.msc_chart.proofs.UnrollingLemmas.{AreOwn, twice_from, none_twice}

-- names that compare equal are equal
bytes-true : (a b : Bor (List ℕ)) → equal_names a b ≡ true → deref a ≡ deref b
bytes-true a b h = (bytes_decides a.now b.now).0 h

-- and equal names compare equal
bytes-from : (a b : Bor (List ℕ)) → deref a ≡ deref b → equal_names a b ≡ true
bytes-from a b h = (bytes_decides a.now b.now).1 h

-- a place that holds is within the list
pub holds_within : {X : Type 0} {P : X → Type 0} (xs : List X) (i : ℕ) → HoldsAt P xs i → i < length xs
holds_within xs i h = slice_get_within xs i h.0 h.1

-- no number with a property is below the least one
least_le : {P : ℕ → Type 0} {i : ℕ} → IsLeast P i → (k : ℕ) → P k → i ≤ k
least_le {i} h k it = elim (cases_lt k i) [ inl lt ↦ absurd (h.none_below k lt it) | inr ge ↦ ge ]

-- and so is the least place that holds
pub least_within : {X : Type 0} {P : X → Type 0} (xs : List X) (i : ℕ) → IsLeast (HoldsAt P xs) i → i < length xs
least_within xs i h = holds_within xs i h.itself

-- items that have their numbers, seen through a view
module _ {T X : Type 0} (view : T → X) (eq : T → T → Bool) (items : List T) where
  -- no place has a repeat, where items of one view compare equal
  pub none_repeats : ((a b : T) → view a ≡ view b → eq a b ≡ true) → (xs : List X) → map view items ≡ xs → AreNewBelow eq items (length items) → (p : ℕ) → IsRepeat xs p → ⊥
  none_repeats back xs same new p h =
      let here : IsRepeat (map view items) p = subst (λ l. IsRepeat l p) (sym same) h in
      let past : length items ≤ p = no_repeat view eq items back (length items) p new here in
      let within : p < length (map view items) = slice_get_within (map view items) p here.0 here.1 in
      omega (arith, length-map items view)

  -- the first item that is equal to an earlier one is the least repeat
  pub least_repeat : ((a b : T) → eq a b ≡ true → view a ≡ view b) → ((a b : T) → view a ≡ view b → eq a b ≡ true) → (xs : List X) → map view items ≡ xs → (i : ℕ) → IsFirstRepeat eq items i → IsLeast (IsRepeat xs) i
  least_repeat true_same back xs same i h = record {
    itself = subst (λ l. IsRepeat l i) same (repeat_from view eq items true_same i h);
    none_below = λ k less r. let le = no_repeat view eq items back i k h.earlier (subst (λ l. IsRepeat l k) (sym same) r) in omega (arith, less, le);
  }

module _ (d : Tree) where
  -- more than 32 sections are the first fault
  pub many_instances_first : INSTANCE_LIMIT < length d.sections → IsFirstFault d TooManyInstances
  unfolding Stands instances_of
  many_instances_first many = first_of d 1 0 (clear_first d) TooManyInstances refl refl (simp length-map many) (λ p h. omega arith)

  -- with at most 32 sections no fault of that rank stands
  pub few_instances_clear : length d.sections ≤ INSTANCE_LIMIT → IsClearBelow d 2
  unfolding Stands instances_of
  few_instances_clear few = clear_next d 1 (clear_first d) (λ p h. let many : INSTANCE_LIMIT < length d.sections = simp length-map at h in omega arith)

  -- there are as many names as sections
  pub names_count : (names : List (Bor (List ℕ))) → map deref names ≡ instances_of d → length names ≡ length d.sections
  unfolding instances_of
  names_count names seen = simp length-map at (ap length seen)

  -- there are as many marks as events
  pub marks_count : (marks : List code.Mark) → map mark_view marks ≡ acts_of d → length marks ≡ length (events_of d)
  unfolding acts_of
  marks_count marks drawn = simp length-map at (ap length drawn)

  -- faults of the instance names
  module _ (names : List (Bor (List ℕ))) (seen : map deref names ≡ instances_of d) where
    -- the first name that repeats an earlier one is the first fault
    pub repeated_instance_first : IsClearBelow d 2 → (i : ℕ) → IsFirstRepeat equal_names names i → IsFirstFault d (TwiceInstance i)
    unfolding Stands
    repeated_instance_first clear i h =
        let l = least_repeat deref equal_names names bytes-true bytes-from (instances_of d) seen i h in
        first_of d 2 i clear (TwiceInstance i) refl refl l.itself (least_le l)

    -- where all names differ, no section repeats one
    pub distinct_instances_clear : IsClearBelow d 2 → AreNewBelow equal_names names (length names) → IsClearBelow d 3
    unfolding Stands
    distinct_instances_clear clear new = clear_next d 2 clear (none_repeats deref equal_names names bytes-from (instances_of d) seen new)

    -- the first header name without a section is the first fault, where no lower one stands
    pub unknown_header_first : IsClearBelow d 3 → (k : ℕ) → IsLeast (HoldsAt (IsUnknown (map deref names)) (map (λ x. x.name) d.header)) k → IsFirstFault d (HeaderWithoutBody k)
    unfolding Stands header_of
    unknown_header_first clear k h =
        first_of d 3 k clear (HeaderWithoutBody k) refl refl (subst (λ ns. HoldsAt (IsUnknown ns) (header_of d) k) seen h.itself) (λ p s. least_le h p (subst (λ ns. HoldsAt (IsUnknown ns) (header_of d) p) (sym seen) s))

    -- where each header name has its section, no fault of that rank stands
    pub known_headers_clear : IsClearBelow d 3 → ((k : ℕ) → HoldsAt (IsUnknown (map deref names)) (map (λ x. x.name) d.header) k → ⊥) → IsClearBelow d 4
    unfolding Stands header_of
    known_headers_clear clear none = clear_next d 3 clear (λ p s. none p (subst (λ ns. HoldsAt (IsUnknown ns) (header_of d) p) (sym seen) s))

    module _ (marks : List code.Mark) (drawn : map mark_view marks ≡ acts_of d) where
      -- the end at place k has the address of no section
      abbrev Away : List (List ℕ) → List Act → ℕ → Type 0
      Away ns ys k = HoldsAt (OfEnd (λ x. IsUnknown ns (address_of x))) ys k

      -- what is away for the code is away in the draft
      there : (k : ℕ) → Away (map deref names) (map mark_view marks) k → Away (instances_of d) (acts_of d) k
      there k h = subst (λ ns. Away ns (acts_of d) k) seen (subst (λ ys. Away (map deref names) ys k) drawn h)

      -- and the other way round
      back : (k : ℕ) → Away (instances_of d) (acts_of d) k → Away (map deref names) (map mark_view marks) k
      back k h = subst (λ ns. Away ns (map mark_view marks) k) (sym seen) (subst (λ ys. Away (instances_of d) ys k) (sym drawn) h)

      -- the first end with such an address is the first fault, where no lower one stands
      pub unknown_address_first : IsClearBelow d 4 → (e : ℕ) → IsLeast (HoldsAt (OfEnd (λ x. IsUnknown (map deref names) (address_of x))) (map mark_view marks)) e → IsFirstFault d (UnknownAddress e)
      unfolding Stands
      unknown_address_first clear e h =
          first_of d 4 e clear (UnknownAddress e) refl refl (there e h.itself) (λ p s. least_le h p (back p s))

      -- where each address has its section, no fault of that rank stands
      pub known_addresses_clear : IsClearBelow d 4 → ((k : ℕ) → HoldsAt (OfEnd (λ x. IsUnknown (map deref names) (address_of x))) (map mark_view marks) k → ⊥) → IsClearBelow d 5
      unfolding Stands
      known_addresses_clear clear none = clear_next d 4 clear (λ p s. none p (back p s))

  -- faults of the messages and actions
  module _ (marks : List code.Mark) (drawn : map mark_view marks ≡ acts_of d) where
    -- more than 1,024 outputs or inputs are the first fault, where no lower one stands
    pub many_messages_first : IsClearBelow d 5 → AreTooMany (map mark_view marks) → IsFirstFault d TooManyMessages
    unfolding Stands
    many_messages_first clear many = first_of d 5 0 clear TooManyMessages refl refl (subst AreTooMany drawn many) (λ p h. omega arith)

    -- with at most so many no fault of that rank stands
    pub few_messages_clear : IsClearBelow d 5 → (AreTooMany (map mark_view marks) → ⊥) → IsClearBelow d 6
    unfolding Stands
    few_messages_clear clear few = clear_next d 5 clear (λ p h. few (subst AreTooMany (sym drawn) h))

    -- more than 1,024 actions are the first fault, where no lower one stands
    pub many_actions_first : IsClearBelow d 6 → ACTION_LIMIT < count_by is_action (map mark_view marks) → IsFirstFault d TooManyActions
    unfolding Stands
    many_actions_first clear many = first_of d 6 0 clear TooManyActions refl refl (subst (λ ys. ACTION_LIMIT < count_by is_action ys) drawn many) (λ p h. omega arith)

    -- with at most so many no fault of that rank stands
    pub few_actions_clear : IsClearBelow d 6 → (ACTION_LIMIT < count_by is_action (map mark_view marks) → ⊥) → IsClearBelow d 7
    unfolding Stands
    few_actions_clear clear few = clear_next d 6 clear (λ p h. few (subst (λ ys. ACTION_LIMIT < count_by is_action ys) (sym drawn) h))

    -- the first end that repeats an earlier one is the first fault, where no lower one stands
    pub repeated_end_first : IsClearBelow d 7 → AreOwn marks → (e : ℕ) → IsFirstRepeat mark_same marks e → IsFirstFault d (TwiceEvent e)
    unfolding Stands
    repeated_end_first clear own e h =
        first_of d 7 e clear (TwiceEvent e) refl refl (subst (λ ys. IsTwice ys e) drawn (twice_from marks own e h)) (λ p s. none_twice marks e p h.earlier (subst (λ ys. IsTwice ys p) (sym drawn) s))

    -- where all marks differ, no event repeats one
    pub distinct_ends_clear : IsClearBelow d 7 → AreNewBelow mark_same marks (length marks) → IsClearBelow d 8
    unfolding Stands
    distinct_ends_clear clear new =
        clear_next d 7 clear (λ p h.
        let here : IsTwice (map mark_view marks) p = subst (λ ys. IsTwice ys p) (sym drawn) h in
        let past : length marks ≤ p = none_twice marks (length marks) p new here in
        let within : p < length (map mark_view marks) = slice_get_within (map mark_view marks) p (OfMessage here.0) here.1 in
        omega (arith, length-map marks mark_view))

    -- the end at place k is alone
    Alone : Bool → List Act → ℕ → Type 0
    Alone sends ys k = HoldsAt (OfEnd (IsUnmatched sends ys)) ys k

    -- the first output without an input is the first fault, where no lower one stands
    pub unmatched_output_first : IsClearBelow d 8 → (e : ℕ) → IsLeast (HoldsAt (OfEnd (IsUnmatched true (map mark_view marks))) (map mark_view marks)) e → IsFirstFault d (UnmatchedOut e)
    unfolding Stands Alone
    unmatched_output_first clear e h =
        first_of d 8 e clear (UnmatchedOut e) refl refl (subst (λ ys. Alone true ys e) drawn h.itself) (λ p s. least_le h p (subst (λ ys. Alone true ys p) (sym drawn) s))

    -- where each output has its input, no fault of that rank stands
    pub matched_outputs_clear : IsClearBelow d 8 → ((k : ℕ) → HoldsAt (OfEnd (IsUnmatched true (map mark_view marks))) (map mark_view marks) k → ⊥) → IsClearBelow d 9
    unfolding Stands Alone
    matched_outputs_clear clear none = clear_next d 8 clear (λ p s. none p (subst (λ ys. Alone true ys p) (sym drawn) s))

    -- the first input without an output is the first fault, where no lower one stands
    pub unmatched_input_first : IsClearBelow d 9 → (e : ℕ) → IsLeast (HoldsAt (OfEnd (IsUnmatched false (map mark_view marks))) (map mark_view marks)) e → IsFirstFault d (UnmatchedIn e)
    unfolding Stands Alone
    unmatched_input_first clear e h =
        first_of d 9 e clear (UnmatchedIn e) refl refl (subst (λ ys. Alone false ys e) drawn h.itself) (λ p s. least_le h p (subst (λ ys. Alone false ys p) (sym drawn) s))

    -- where each input has its output, no fault of that rank stands
    pub matched_inputs_clear : IsClearBelow d 9 → ((k : ℕ) → HoldsAt (OfEnd (IsUnmatched false (map mark_view marks))) (map mark_view marks) k → ⊥) → IsClearBelow d 10
    unfolding Stands Alone
    matched_inputs_clear clear none = clear_next d 9 clear (λ p s. none p (subst (λ ys. Alone false ys p) (sym drawn) s))

-- the marks of the code's events show the draft's acts
pub marks_seen : (d : Tree) (events : List coded.DraftEvent) (marks : List code.Mark) → marks ≡ marks_from 0 events → map event_view events ≡ events_of d → map mark_view marks ≡ acts_of d
unfolding acts_of
marks_seen d events marks same seen = ap (map mark_view) same ∙ by 0 events ∙ ap (map (λ e. e.act)) seen
  where
    -- the mark of an act shows the act, wherever it stands
    one : (k : ℕ) (a : code_act.Act) → mark_view (mark_at k a) ≡ act_view a
    one k (code_acts.OfMessage e) = refl
    one k (code_acts.Action text) = refl

    -- and so it is of the marks from any number on
    by : (k : ℕ) (es : List coded.DraftEvent) → map mark_view (marks_from k es) ≡ map (λ e. e.act) (map event_view es)
    by k [] = refl
    by k (e ∷ es) = ap (λ a. a ∷ map mark_view (marks_from (k + 1) es)) (one k e.act) ∙ ap (λ l. act_view e.act ∷ l) (by (k + 1) es)
