-- Where each event stands in a run, and which output stands before it in its queue, as they are noted
-- along the run.
use Rattle.std.proofs.Common.{◌≡◌, ℕ, ◌+◌, ◌<◌, ◌≤◌, Bool, true, false, cond, ◌&&◌, List, [], ◌∷◌, ◌++◌, length, get_or, set, map, take, drop, replicate, Option, None, Some, nat_eq, eqb, inl, inr, refl, sym, ap, subst, ◌∙◌, arith}
use Rattle.std.specs.List.{range_with_len}
use Rattle.std.proofs.lemmas.Bool.{cases_eq, cases_lt, eqb-true, eq-eqb, false≢true, false_from_ne_true}
use Rattle.std.proofs.lemmas.List.{ext_get_or, get_or_past, get_or-set_same, get_or-set_other, length-set, length-replicate, get_or-replicate, take_more, take_all, drop_all}
use Rattle.std.proofs.lemmas.List.FromFn.{get_or-map-range_with_len, length-map-range_with_len}
use Rattle.msc_chart.specs.Charts.{is_output}
use Rattle.msc_chart.specs.Lists.{occurs}
use Rattle.msc_chart.specs.Orders.{WiredChart, queue}
use Rattle.msc_chart.proofs.ListLemmas.{by_test, clash, occurs-push, occurs_other}
use Rattle.msc_picture.specs.RunFrames.{place_of, are_queued, queued_from, queued_before}
use Rattle.msc_chart.proofs.EndLemmas.{drop-at as drop_next}

-- a list by its items
listed_by : {X : Type 0} (g : ℕ → X) (d : X) (xs : List X) (n : ℕ) → length xs ≡ n
    → ((e : ℕ) → e < n → get_or xs e d ≡ g e) → xs ≡ map g (range_with_len 0 n)
listed_by {X} g d xs n long at =
    ext_get_or d xs (map g (range_with_len 0 n)) (long ∙ sym (length-map-range_with_len g 0 n))
    (λ e inside. at e (omega (arith, inside, long))
    ∙ sym (get_or-map-range_with_len g 0 n e e d (omega (arith, inside, long)) (omega arith)))

-- each event of a run from place k on has its place, and all others the end
pub record ArePlaced (run places : List ℕ) (many k : ℕ) : Type 0 where
  pub long : length places ≡ many
  pub at : (e : ℕ) → e < many → get_or places e 0 ≡ k + place_of (drop k run) e

-- none yet
pub placed_none : (run places : List ℕ) (many k : ℕ) → places ≡ replicate many (length run)
    → k ≡ length run → ArePlaced run places many k
placed_none run places many k is all = subst (λ (w : ℕ). ArePlaced run places many w) (sym all)
    (record {
      long = ap (λ (l : List ℕ). length l) is ∙ length-replicate many (length run);
      at = λ e inside.
          let read = ap (λ (l : List ℕ). get_or l e 0) is
          ∙ get_or-replicate many e (length run) 0 inside in
          let end : drop (length run) run ≡ [] = drop_all (length run) run (omega arith) in
          let none = ap (λ (l : List ℕ). place_of l e) end in
          omega (arith, read, none);
    })

-- one more, from the end
pub placed_more : (run places : List ℕ) (many k x before : ℕ) → k < length run
    → x ≡ get_or run k x → x < many → before ≡ k + 1 → ArePlaced run places many before
    → ArePlaced run (set places x k) many k
placed_more run places many k x before inside is known more placed = record {
  long = length-set places x k ∙ placed.long;
  at = λ e below.
      let rest = drop_next run k x inside is in
      elim (cases_eq e x) [
        | inl same ↦
            let here : place_of (x ∷ drop (k + 1) run) e ≡ 0 = rw (eq-eqb x e (sym same)) refl in
            let put = ap (λ (w : ℕ). get_or (set places x k) w 0) same
            ∙ get_or-set_same places x k 0 (omega (arith, known, placed.long)) in
            omega (arith, put, ap (λ (l : List ℕ). place_of l e) rest ∙ here)
        | inr other ↦
            let off : eqb x e ≡ false = false_from_ne_true _ (λ h. other (sym (eqb-true x e h))) in
            let there : place_of (x ∷ drop (k + 1) run) e ≡ place_of (drop (k + 1) run) e + 1 =
            rw off refl in
            let old = subst (λ (w : ℕ). get_or places e 0 ≡ w + place_of (drop w run) e) more
            (placed.at e below) in
            omega (
              arith,
              get_or-set_other places x e k 0 other,
              old,
              ap (λ (l : List ℕ). place_of l e) rest ∙ there,
            )
      ];
}

-- all of them
pub placed_all : (run places : List ℕ) (many k : ℕ) → k ≡ 0 → ArePlaced run places many k
    → places ≡ map (place_of run) (range_with_len 0 many)
placed_all run places many k zero placed =
    listed_by (place_of run) 0 places many placed.long (λ e below.
    let at = subst (λ (w : ℕ). get_or places e 0 ≡ w + place_of (drop w run) e) zero
    (placed.at e below) in
    omega (arith, at))

-- the last output that is noted of the queue of an output
abbrev pub noted : WiredChart → List (Option ℕ) → ℕ → Option ℕ
noted chart lasts y = cond (is_output chart.events y) (get_or lasts (queue chart y) None) None

-- what is noted of the outputs of queues along a run, as far as place k
pub record AreNoted (chart : WiredChart) (run : List ℕ) (after lasts : List (Option ℕ)) (queues k : ℕ)
    : Type 0 where
  pub after_long : length after ≡ length chart.events
  pub lasts_long : length lasts ≡ queues
  pub seen : (y : ℕ) → y < length chart.events → occurs (take k run) y ≡ true
      → get_or after y None ≡ queued_before chart run y
  pub blank : (y : ℕ) → y < length chart.events → occurs (take k run) y ≡ false
      → get_or after y None ≡ None
  pub ahead : (y : ℕ) → y < length chart.events → occurs (take k run) y ≡ false
      → queued_from chart (noted chart lasts y) (drop k run) y ≡ queued_before chart run y

-- no output
abbrev nothing : Option ℕ
nothing = None

-- a list of nothing has nothing anywhere
none_there : (n i : ℕ) → get_or (replicate n nothing) i nothing ≡ nothing
none_there n i = elim (cases_lt i n) [
  | inl inside ↦ get_or-replicate n i nothing nothing inside
  | inr past ↦ get_or_past (replicate n nothing) i nothing
      (omega (arith, past, length-replicate n nothing))
]

-- no event is in a queue with one that is no output
and_none : (b : Bool) → (b && false) ≡ false
and_none true = refl
and_none false = refl

not_queued : (chart : WiredChart) (x y : ℕ) → is_output chart.events y ≡ false
    → are_queued chart x y ≡ false
not_queued chart x y none = rw none (rw (and_none (is_output chart.events x)) refl)

-- nothing is noted of any queue
none_noted : (chart : WiredChart) (lasts : List (Option ℕ)) (queues y : ℕ)
    → lasts ≡ replicate queues None → noted chart lasts y ≡ None
none_noted chart lasts queues y is = by_test (is_output chart.events y)
    (λ out. rw out (ap (λ (o : List (Option ℕ)). get_or o (queue chart y) None) is
    ∙ none_there queues (queue chart y)))
    (λ none. rw none refl)

-- an event that is no output has no output before it
quiet : (chart : WiredChart) (last : Option ℕ) (xs : List ℕ) (y : ℕ)
    → is_output chart.events y ≡ false → queued_from chart last xs y ≡ last
quiet chart last [] y none = refl
quiet chart last (x ∷ xs) y none = by_test (nat_eq x y)
    (λ same. rw same refl)
    (λ off.
    let apart : are_queued chart x y ≡ false = not_queued chart x y none in
    rw off (rw apart (quiet chart last xs y none)))

-- nothing is noted
pub noted_none : (chart : WiredChart) (run : List ℕ) (after lasts : List (Option ℕ)) (n queues : ℕ)
    → n ≡ length chart.events → after ≡ replicate n None → lasts ≡ replicate queues None
    → AreNoted chart run after lasts queues 0
unfolding occurs
noted_none chart run after lasts n queues many a l =
    let blank = λ (y : ℕ) (below : y < length chart.events).
    ap (λ (o : List (Option ℕ)). get_or o y None) a
    ∙ get_or-replicate n y None None (omega (arith, below, many)) in record {
      after_long = ap (λ (o : List (Option ℕ)). length o) a ∙ length-replicate n None ∙ many;
      lasts_long = ap (λ (o : List (Option ℕ)). length o) l ∙ length-replicate queues None;
      seen = λ y below there. absurd (false≢true there);
      blank = λ y below new. blank y below;
      ahead = λ y below new. ap (λ (o : Option ℕ). queued_from chart o run y)
          (none_noted chart lasts queues y l);
    }

-- all are
pub noted_all : (chart : WiredChart) (run : List ℕ) (after lasts : List (Option ℕ)) (queues k : ℕ)
    → length run ≤ k → ((e : ℕ) → e < length chart.events → occurs run e ≡ true)
    → AreNoted chart run after lasts queues k
    → after ≡ map (queued_before chart run) (range_with_len 0 (length chart.events))
noted_all chart run after lasts queues k end whole h =
    listed_by (queued_before chart run) None after (length chart.events) h.after_long (λ e below.
    h.seen e below (ap (λ (l : List ℕ). occurs l e) (take_all k run end) ∙ whole e below))

module _ {chart : WiredChart} {run : List ℕ} {after lasts : List (Option ℕ)} {queues k x : ℕ}
    (h : AreNoted chart run after lasts queues k) (inside : k < length run) (is : x ≡ get_or run k x)
    (known : x < length chart.events) (new : occurs (take k run) x ≡ false) where
  -- what is seen is what was, or x
  seen_more : (y : ℕ) → (x ≡ y → ⊥) → occurs (take (k + 1) run) y ≡ occurs (take k run) y
  seen_more y other =
      ap (λ (l : List ℕ). occurs l y) (take_more run k x inside
      ∙ ap (λ (w : ℕ). take k run ++ w ∷ []) (sym is))
      ∙ occurs_other (take k run) x y (λ same. other (sym same))

  seen_now : occurs (take (k + 1) run) x ≡ true
  seen_now =
      ap (λ (l : List ℕ). occurs l x) (take_more run k x inside
      ∙ ap (λ (w : ℕ). take k run ++ w ∷ []) (sym is))
      ∙ occurs-push (take k run) x

  -- what is unseen is no x
  unseen_other : (y : ℕ) → occurs (take (k + 1) run) y ≡ false → x ≡ y → ⊥
  unseen_other y unseen same =
      clash seen_now (subst (λ (w : ℕ). occurs (take (k + 1) run) w ≡ false) (sym same) unseen)

  -- one step of what is ahead
  ahead_more : (y : ℕ) → y < length chart.events → occurs (take (k + 1) run) y ≡ false
      → queued_from chart (cond (are_queued chart x y) (Some x) (noted chart lasts y))
      (drop (k + 1) run) y ≡ queued_before chart run y
  ahead_more y below unseen =
      let other = unseen_other y unseen in
      let off : nat_eq x y ≡ false = false_from_ne_true _ (λ e. other (eqb-true x y e)) in
      let step : queued_from chart (noted chart lasts y) (x ∷ drop (k + 1) run) y
      ≡ queued_from chart (cond (are_queued chart x y) (Some x) (noted chart lasts y))
      (drop (k + 1) run) y = rw off refl in
      sym step
      ∙ ap (λ (l : List ℕ). queued_from chart (noted chart lasts y) l y)
      (sym (drop_next run k x inside is))
      ∙ h.ahead y below (sym (seen_more y other) ∙ unseen)

  -- x is no output
  pub noted_quiet : is_output chart.events x ≡ false → AreNoted chart run after lasts queues (k + 1)
  noted_quiet none = record {
    after_long = h.after_long;
    lasts_long = h.lasts_long;
    seen = λ y below there. elim (cases_eq x y) [
      | inl same ↦
          subst (λ (w : ℕ). get_or after w None ≡ queued_before chart run w) same
          (h.blank x known new ∙ sym (quiet chart None run x none))
      | inr other ↦ h.seen y below (sym (seen_more y other) ∙ there)
    ];
    blank = λ y below unseen.
        h.blank y below (sym (seen_more y (unseen_other y unseen)) ∙ unseen);
    ahead = λ y below unseen.
        let apart : are_queued chart x y ≡ false = rw none refl in
        subst (λ (b : Bool). queued_from chart (cond b (Some x) (noted chart lasts y))
        (drop (k + 1) run) y ≡ queued_before chart run y) apart (ahead_more y below unseen);
  }

  -- x is an output of a queue whose last output is noted
  module _ (yes_output : is_output chart.events x ≡ true) (q : ℕ) (at : q ≡ queue chart x)
      (within : q < queues) (last : Option ℕ) (read : last ≡ get_or lasts q None) where
    -- that is the output before it
    before_it : last ≡ queued_before chart run x
    before_it =
        let own : nat_eq x x ≡ true = eq-eqb x x refl in
        let step : queued_from chart (noted chart lasts x) (x ∷ drop (k + 1) run) x
        ≡ noted chart lasts x = rw own refl in
        let is_noted : noted chart lasts x ≡ get_or lasts (queue chart x) None = rw yes_output refl in
        read ∙ ap (λ (w : ℕ). get_or lasts w None) at ∙ sym is_noted ∙ sym step
        ∙ ap (λ (l : List ℕ). queued_from chart (noted chart lasts x) l x)
        (sym (drop_next run k x inside is))
        ∙ h.ahead x known new

    -- x is the last output of its queue
    noted_more : (y : ℕ) → (x ≡ y → ⊥)
        → cond (are_queued chart x y) (Some x) (noted chart lasts y)
        ≡ noted chart (set lasts q (Some x)) y
    noted_more y other = by_test (is_output chart.events y)
        (λ out. by_test (nat_eq (queue chart x) (queue chart y))
        (λ one.
        let same : q ≡ queue chart y = at ∙ eqb-true _ _ one in
        rw out (rw yes_output (rw one (sym (ap (λ (w : ℕ). get_or (set lasts q (Some x)) w None)
        (sym same) ∙ get_or-set_same lasts q (Some x) None (omega (arith, within, h.lasts_long)))))))
        (λ two.
        let apart : queue chart y ≡ q → ⊥ = λ same.
        clash (eq-eqb _ _ (sym at ∙ sym same)) two in
        rw out (rw yes_output (rw two (sym (get_or-set_other lasts q (queue chart y) (Some x) None
        apart))))))
        (λ none. rw none (rw (and_none (is_output chart.events x)) refl))

    pub noted_output : AreNoted chart run (set after x last) (set lasts q (Some x)) queues (k + 1)
    noted_output = record {
      after_long = length-set after x last ∙ h.after_long;
      lasts_long = length-set lasts q (Some x) ∙ h.lasts_long;
      seen = λ y below there. elim (cases_eq x y) [
        | inl same ↦
            subst (λ (w : ℕ). get_or (set after x last) w None ≡ queued_before chart run w) same
            (get_or-set_same after x last None (omega (arith, known, h.after_long)) ∙ before_it)
        | inr other ↦
            get_or-set_other after x y last None (λ same. other (sym same))
            ∙ h.seen y below (sym (seen_more y other) ∙ there)
      ];
      blank = λ y below unseen.
          let other = unseen_other y unseen in
          get_or-set_other after x y last None (λ same. other (sym same))
          ∙ h.blank y below (sym (seen_more y other) ∙ unseen);
      ahead = λ y below unseen.
          ap (λ (o : Option ℕ). queued_from chart o (drop (k + 1) run) y)
          (sym (noted_more y (unseen_other y unseen)))
          ∙ ahead_more y below unseen;
    }
