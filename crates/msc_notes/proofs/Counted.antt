-- Events of a sort, counted.
use Rattle.std.proofs.Common.{◌≡◌, ◌≢◌, ◌⊎◌, ℕ, ◌+◌, ◌-◌, ◌<◌, true, false, inl, inr, List, length, get_or, take, drop, map, min, count_by, Option, Some, None, MatchOption, slice_get, sym, ap, subst, ◌∙◌, arith, below_more}
use Rattle.std.proofs.Math.ListN.{get_or-map}
use Rattle.std.proofs.lemmas.List.{length-map}
use Rattle.std.proofs.lemmas.List.Sums.{count_by_more_yes, count_by_more_no, sum_by-append}
use Rattle.std.proofs.lemmas.Option.{slice_get_read, slice_get_within, get_or_from_slice_get}
use Rattle.std.proofs.Math.Seq.{take-add}
use Rattle.msc_parser.specs.declared.tree.Statement.{Statement}
use Rattle.msc_chart.specs.declared.TheConstants.{MESSAGE_LIMIT}
use Rattle.msc_notes.specs.declared.event.OwnEvent.{OwnEvent}
use Rattle.msc_notes.specs.declared.counting.Sort.{Sort}
use Rattle.msc_notes.specs.declared.counting.Sort.TheVariants.{Output, Input}
use Rattle.msc_notes.specs.Events.{statement_view}
use Rattle.msc_notes.specs.Sorts.{is_of, lesser}
use Rattle.msc_notes.specs.Faults.{IsNth, IsMessageTooMany, IsFirstTooMany, HasNone}

-- the statement of an event that was read
pub listed_at : (events : List OwnEvent) (e : ℕ) (d : OwnEvent) → e < length events
    → d ≡ get_or events e d → slice_get (map statement_view events) e ≡ Some (statement_view d)
listed_at events e d inside is =
    let long : length (map statement_view events) ≡ length events = simp length-map in
    slice_get_read (map statement_view events) (length events) e (statement_view d) (sym long) inside
    (ap statement_view is ∙ sym (get_or-map statement_view events e d))

module _ (sort : Sort) (count : ℕ) (ss : List Statement) where
  -- how many there are before event e
  abbrev pub counted : ℕ → ℕ
  counted e = count_by (is_of sort) (take e ss)

  pub counted_yes : (e : ℕ) (s : Statement) → slice_get ss e ≡ Some s → is_of sort s ≡ true
      → counted (e + 1) ≡ counted e + 1
  counted_yes e s h is =
      count_by_more_yes (is_of sort) ss e s (slice_get_within ss e s h) (ap (is_of sort) (get_or_from_slice_get ss e s s h) ∙ is)

  pub counted_no : (e : ℕ) (s : Statement) → slice_get ss e ≡ Some s → is_of sort s ≡ false
      → counted (e + 1) ≡ counted e
  counted_no e s h is =
      count_by_more_no (is_of sort) ss e s (slice_get_within ss e s h) (ap (is_of sort) (get_or_from_slice_get ss e s s h) ∙ is)

  -- none of the first events is the one that is looked for
  abbrev pub NoneBelow : ℕ → Type 0
  NoneBelow e = (f : ℕ) → f < e → IsNth sort count ss f → ⊥

  -- an event of another sort is not
  pub none_more_no : (e : ℕ) (s : Statement) → slice_get ss e ≡ Some s → is_of sort s ≡ false
      → NoneBelow e → NoneBelow (e + 1)
  none_more_no e s h is none =
      below_more (λ f. IsNth sort count ss f → ⊥) e none (λ n.
      let same : Some s ≡ Some n.statement = sym h ∙ n.listed in
      let one : s ≡ n.statement = cc same in
      let yes : is_of sort s ≡ true = ap (is_of sort) one ∙ n.is_one in
      cc)

  -- and none while some are left to be passed over
  pub none_more_yes : (e left : ℕ) → left + counted e ≡ count → left ≢ 0 → NoneBelow e
      → NoneBelow (e + 1)
  none_more_yes e left sum some none =
      below_more (λ f. IsNth sort count ss f → ⊥) e none (λ n. some (omega (arith, sum, n.earlier)))

  -- there is one such event at most: no later one has as few before it
  pub nth_once : (e f : ℕ) → IsNth sort count ss e → IsNth sort count ss f → e < f → ⊥
  nth_once e f h k lt =
      let more = counted_yes e h.statement h.listed h.is_one in
      let n : ℕ = f - (e + 1) in
      let sum : e + 1 + n ≡ f = omega arith in
      let cut = ap (count_by (is_of sort)) (take-add (e + 1) n ss) ∙ sum_by-append _ (take (e + 1) ss) (take n (drop (e + 1) ss)) in
      let whole : counted (e + 1 + n) ≡ counted f = ap counted sum in
      omega (arith, more, cut, whole, h.earlier, k.earlier)

-- what is said of an answer
abbrev IsNthOrNone : Sort → List Statement → Option ℕ → Type 0
IsNthOrNone sort ss o =
    MatchOption o (HasNone (IsNth sort MESSAGE_LIMIT ss)) (IsNth sort MESSAGE_LIMIT ss)

-- the lesser of two is one of them
min_cases : (a b : ℕ) → (min a b ≡ a) ⊎ (min a b ≡ b)
min_cases a b = grind arith

least_of : (ss : List Statement) (a b : ℕ) → IsNth Output MESSAGE_LIMIT ss a
    → IsNth Input MESSAGE_LIMIT ss b → (min a b ≡ a) ⊎ (min a b ≡ b)
    → IsMessageTooMany ss (min a b)
least_of ss a b h k (inl e) = inl (subst (IsNth Output MESSAGE_LIMIT ss) (sym e) h)
least_of ss a b h k (inr e) = inr (subst (IsNth Input MESSAGE_LIMIT ss) (sym e) k)

-- of both sorts the first
pub lesser_first : (ss : List Statement) (o i : Option ℕ) → IsNthOrNone Output ss o
    → IsNthOrNone Input ss i
    → MatchOption (lesser o i) (HasNone (IsFirstTooMany ss)) (IsFirstTooMany ss)
lesser_first ss (Some a) (Some b) h k = record {
  one = least_of ss a b h k (min_cases a b);
  first = λ f lt x. elim x [
    | inl x ↦ nth_once Output MESSAGE_LIMIT ss f a x h (omega arith)
    | inr y ↦ nth_once Input MESSAGE_LIMIT ss f b y k (omega arith)
  ];
}
lesser_first ss (Some a) None h k = record {
  one = inl h;
  first = λ f lt x. elim x [
    | inl x ↦ nth_once Output MESSAGE_LIMIT ss f a x h lt
    | inr y ↦ k f y
  ];
}
lesser_first ss None (Some b) h k = record {
  one = inr k;
  first = λ f lt x. elim x [
    | inl x ↦ h f x
    | inr y ↦ nth_once Input MESSAGE_LIMIT ss f b y k lt
  ];
}
lesser_first ss None None h k = λ e x. elim x.one [ inl x ↦ h e x | inr y ↦ k e y ]
