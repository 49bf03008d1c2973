-- Faults put at the back, sort by sort.
use Rattle.std.proofs.Common.{◌≡◌, ◌⊎◌, ◌↔◌, ℕ, ◌+◌, ◌<◌, ◌≤◌, List, [], ◌∷◌, ◌++◌, map, inl, inr, refl, sym, ap, subst, ◌∙◌, arith, append_assoc, append-nil}
use Rattle.std.proofs.lemmas.Bool.{cases_lt}
use Rattle.std.proofs.lemmas.List.{map-append}
use Rattle.msc_chart.specs.declared.fault.ChartFault.{ChartFault}
use Rattle.msc_chart.specs.Faults.{place, rank}
use Rattle.msc_chart.specs.Lists.{StandsAt, Occurs}
use Rattle.msc_chart.proofs.Places.{map-place, place-map}
use Rattle.msc_notes.specs.AllFaults.{AreOrdered, IsBefore}
use Rattle.msc_notes.specs.Putting.{HasPut}
use Rattle.msc_notes.proofs.Ordered.{in_back, in_either, in_front, one_alone, ordered_joined, ordered_more, ordered_none}

module _ (make : ℕ → ChartFault) (Such : ℕ → Type 0) where
  -- none is put at the beginning
  pub put_begun : (old : List ChartFault) → HasPut make Such 0 old old
  put_begun old = record {
    numbers = [];
    put = sym (append-nil old);
    all = λ k. (λ h. cc, λ h. absurd (omega (arith, h.0)));
    ascending = ordered_none (λ a b. a < b);
  }

  -- one more number may be such
  more : (k n : ℕ) → k < n → k < n + 1
  more k n lt = omega arith

  -- a number that is such is put
  pub put_taken : (n : ℕ) (old new : List ChartFault) → HasPut make Such n old new → Such n
      → HasPut make Such (n + 1) old (new ++ make n ∷ [])
  put_taken n old new h it = record {
    numbers = h.numbers ++ n ∷ [];
    put =
        ap (λ fs. fs ++ make n ∷ []) h.put ∙ append_assoc old (map make h.numbers) (make n ∷ [])
        ∙ ap (λ fs. old ++ fs) (sym (map-append make h.numbers (n ∷ [])));
    all = λ k. (
      λ o. elim (in_either h.numbers (n ∷ []) k o) [
        | inl a ↦ let r = (h.all k).0 a in (more k n r.0, r.1)
        | inr b ↦ let same = one_alone n k b in (omega (arith, same), subst Such same it)
      ],
      λ s. elim (cases_lt k n) [
        | inl lt ↦ let a = (h.all k).1 (lt, s.1) in (a.0, in_front h.numbers (n ∷ []) a.0 k a.1)
        | inr ge ↦
            let same : n ≡ k = omega (arith, s.0, ge) in
            in_back h.numbers (n ∷ []) k (subst (λ (m : ℕ). Occurs (n ∷ []) m) same (0, refl))
      ],
    );
    ascending = ordered_more (λ a b. a < b) h.numbers n h.ascending (λ k a. ((h.all k).0 a).0);
  }

  -- another number is passed over
  pub put_passed : (n : ℕ) (old new : List ChartFault) → HasPut make Such n old new
      → (Such n → ⊥) → HasPut make Such (n + 1) old new
  put_passed n old new h none = record {
    numbers = h.numbers;
    put = h.put;
    all = λ k. (
      λ o. let r = (h.all k).0 o in (more k n r.0, r.1),
      λ s. elim (cases_lt k n) [
        | inl lt ↦ (h.all k).1 (lt, s.1)
        | inr ge ↦
            let same : k ≡ n = omega (arith, s.0, ge) in
            absurd (none (subst Such same s.1))
      ],
    );
    ascending = h.ascending;
  }

-- exactly these faults, ascending, up to a rank
pub record Lists (Done : ChartFault → Type 0) (top : ℕ) (fs : List ChartFault) : Type 0 where
  pub all : (f : ChartFault) → Occurs fs f ↔ Done f
  pub ascending : AreOrdered IsBefore fs
  pub ranked : (f : ChartFault) → Occurs fs f → rank f ≤ top

-- none at the beginning
pub lists_none : Lists (λ f. ⊥) 0 []
lists_none = record {
  all = λ f. (λ h. cc, λ h. absurd h);
  ascending = ordered_none IsBefore;
  ranked = λ f h. cc;
}

-- the fault of a number below n that is such
abbrev pub IsMade : (ℕ → ChartFault) → (ℕ → Type 0) → ℕ → ChartFault → Type 0
IsMade make Such n f = (k : ℕ) × (k < n) × Such k × (make k ≡ f)

module _ (make : ℕ → ChartFault) (Such : ℕ → Type 0) (n : ℕ) (old new : List ChartFault) (h : HasPut make Such n old new) (at : ℕ) (ranks : (k : ℕ) → rank (make k) ≡ at) (places : (k : ℕ) → place (make k) ≡ k) where
  -- what is put
  made_put : (f : ChartFault) → Occurs (map make h.numbers) f ↔ IsMade make Such n f
  made_put f = (
    λ o.
        let r = map-place make h.numbers o.0 f o.1 in
        let s = (h.all r.0).0 (o.0, r.1) in
        (r.0, s.0, s.1, r.2),
    λ m.
        let o = (h.all m.0).1 (m.1, m.2) in
        (o.0, subst (StandsAt (map make h.numbers) o.0) m.3 (place-map make h.numbers o.0 m.0 o.1)),
  )

  -- it is ascending
  put_ordered : AreOrdered IsBefore (map make h.numbers)
  put_ordered i j f g lt p q =
      let a = map-place make h.numbers i f p in
      let b = map-place make h.numbers j g q in
      let less = h.ascending i j a.0 b.0 lt a.1 b.1 in
      inr (
        ap rank (sym a.2) ∙ ranks a.0 ∙ sym (ranks b.0) ∙ ap rank b.2,
        omega (arith, ap place a.2, ap place b.2, places a.0, places b.0, less),
      )

  -- and of this rank
  put_ranked : (f : ChartFault) → Occurs (map make h.numbers) f → rank f ≡ at
  put_ranked f o = let m = (made_put f).0 o in ap rank (sym m.3) ∙ ranks m.0

  -- faults of a higher rank are listed behind the others
  pub put_lists : (Done : ChartFault → Type 0) (top : ℕ) → Lists Done top old → top < at
      → Lists (λ f. Done f ⊎ IsMade make Such n f) at new
  put_lists Done top before higher = rw h.put (record {
    all = λ f. (
      λ o. elim (in_either old (map make h.numbers) f o) [
        | inl a ↦ inl ((before.all f).0 a)
        | inr b ↦ inr ((made_put f).0 b)
      ],
      λ d. elim d [
        | inl a ↦ let o = (before.all f).1 a in (o.0, in_front old (map make h.numbers) o.0 f o.1)
        | inr b ↦ in_back old (map make h.numbers) f ((made_put f).1 b)
      ],
    );
    ascending = ordered_joined IsBefore old (map make h.numbers) before.ascending put_ordered
        (λ f g a b. inl (omega (arith, before.ranked f a, higher, put_ranked g b)));
    ranked = λ f o. elim (in_either old (map make h.numbers) f o) [
      | inl a ↦ omega (arith, before.ranked f a, higher)
      | inr b ↦ omega (arith, put_ranked f b)
    ];
  })
