-- Which events have marks that fit a race: noted race by race, and event by event.
use Rattle.std.proofs.Common.{◌≡◌, ℕ, ◌+◌, ◌<◌, ◌≤◌, Bool, true, false, ◌||◌, cond, List, [], ◌∷◌, ◌++◌, length, get_or, take, replicate, inl, inr, refl, sym, ap, ◌∙◌, subst, arith, All}
use Rattle.std.specs.List.{filter, list_any, range_with_len}
use Rattle.std.proofs.lemmas.Bool.{cases_lt}
use Rattle.std.proofs.lemmas.List.{append-nil, get_or-replicate, get_or_past, length-replicate, map-id, take_all}
use Rattle.std.proofs.lemmas.List.Folds.{list_any-append, list_any_more}
use Rattle.std.proofs.lemmas.List.FromFn.{filter_of_map_range_with_len_more}
use Rattle.std.proofs.lemmas.List.Elements.{All-from_get_or}
use Rattle.std.proofs.lemmas.Option.{slice_get-get_or}
use Rattle.msc_chart.proofs.Drawn.{before_parts}
use Rattle.msc_race.specs.Views.{races_from, AreRacesOf}
use Rattle.msc_race.specs.Wired.{EnforcedChart}
use Rattle.msc_race.proofs.Listing.Raced.{no_races_below, races_below, races_below_more}
use Rattle.msc_mark.specs.Accepting.{Acceptance, fits_race, fits_some, is_stale}
use Rattle.msc_mark.specs.Kept.{AreEvents}

-- of three it is one which two are joined first
pub or_joined : (a b c : Bool) → ((a || b) || c) ≡ (a || (b || c))
or_joined true b c = refl
or_joined false b c = refl

pub or_none : (a : Bool) → (a || false) ≡ a
or_none true = refl
or_none false = refl

-- nothing is noted in a blank list
blank_at : (n x : ℕ) → get_or (replicate n false) x false ≡ false
blank_at n x = elim (cases_lt x n) [
  | inl less ↦ get_or-replicate n x false false less
  | inr past ↦ get_or_past (replicate n false) x false (let size = length-replicate n false in omega (arith, size, past))
]

pub size_none : (n : ℕ) (now : List Bool) → now ≡ replicate n false → length now ≡ n
size_none n now is = ap length is ∙ length-replicate n false

module _ (a : Acceptance) where
  -- the races below i are noted
  abbrev pub AreNoted : List Bool → List Bool → List (ℕ × ℕ) → ℕ → Type 0
  AreNoted old now races i =
      (x : ℕ) → get_or now x false ≡ (get_or old x false || list_any (fits_race a x) (take i races))

  -- one more
  pub noted_more : (old now more : List Bool) (races : List (ℕ × ℕ)) (i : ℕ) (d : ℕ × ℕ) → i < length races
      → AreNoted old now races i
      → ((x : ℕ) → get_or more x false ≡ (get_or now x false || fits_race a x (get_or races i d)))
      → AreNoted old more races (i + 1)
  noted_more old now more races i d inside so_far one x =
      one x ∙ ap (λ b. b || fits_race a x (get_or races i d)) (so_far x)
      ∙ or_joined (get_or old x false) (list_any (fits_race a x) (take i races)) (fits_race a x (get_or races i d))
      ∙ ap (λ b. get_or old x false || b) (sym (list_any_more (fits_race a x) races i d inside))

  -- some mark fits one of the joined races where it fits one of either
  pub fits-append : (races more : List (ℕ × ℕ)) (x : ℕ)
      → fits_some a (races ++ more) x ≡ (fits_some a races x || fits_some a more x)
  unfolding fits_some
  fits-append races more x = list_any-append (fits_race a x) races more

  pub fits_nil : (x : ℕ) → fits_some a [] x ≡ false
  unfolding fits_some
  fits_nil x = refl

  -- with the races of one event more
  pub fits_more : (e : EnforcedChart) (k : ℕ) (now more : List Bool) (list : List (ℕ × ℕ))
      → list ≡ races_from e k
      → ((x : ℕ) → get_or now x false ≡ fits_some a (races_below e k) x)
      → ((x : ℕ) → get_or more x false ≡ (get_or now x false || fits_some a list x))
      → (x : ℕ) → get_or more x false ≡ fits_some a (races_below e (k + 1)) x
  fits_more e k now more list is so_far one x =
      one x ∙ ap (λ b. b || fits_some a list x) (so_far x) ∙ ap (λ l. fits_some a (races_below e k) x || fits_some a l x) is
      ∙ sym (fits-append (races_below e k) (races_from e k) x) ∙ ap (λ l. fits_some a l x) (sym (races_below_more e k))

  -- the stale ones below one event more
  pub stale_more : (races : List (ℕ × ℕ)) (k : ℕ)
      → filter (is_stale a races) (range_with_len 0 (k + 1)) ≡ filter (is_stale a races) (range_with_len 0 k) ++ cond (is_stale a races k) (k ∷ []) []
  stale_more races k =
      ap (filter (is_stale a races)) (sym (map-id (range_with_len 0 (k + 1))))
      ∙ filter_of_map_range_with_len_more (is_stale a races) (λ n. n) 0 k k (omega arith)
      ∙ ap (λ l. filter (is_stale a races) l ++ cond (is_stale a races k) (k ∷ []) []) (map-id (range_with_len 0 k))

  -- races are of two events of the chart
  pub races_known : (e : EnforcedChart) (list : List (ℕ × ℕ)) → e.chart ≡ a.chart → AreRacesOf e list
      → All (AreEvents a) list
  races_known e list same are = All-from_get_or (AreEvents a) list (0, 0) (λ k inside.
      let p = get_or list k (0, 0) in
      let race = are p.0 p.1 (k, slice_get-get_or list k (0, 0) inside) in
      let known = before_parts e.chart.events p.0 p.1 race.0 in
      subst (λ d. (p.0 < length d.events) × (p.1 < length d.events)) same (known.0, known.1))

  -- all races are noted behind the last one
  pub noted_all : (old now : List Bool) (races : List (ℕ × ℕ)) (i : ℕ) → length races ≤ i
      → AreNoted old now races i
      → (x : ℕ) → get_or now x false ≡ (get_or old x false || fits_some a races x)
  unfolding fits_some
  noted_all old now races i past h x =
      h x ∙ ap (λ l. get_or old x false || list_any (fits_race a x) l) (take_all i races past)

  -- where nothing is noted yet, no race was looked at
  pub noted_none : (e : EnforcedChart) (n : ℕ) (now : List Bool) → now ≡ replicate n false
      → (x : ℕ) → get_or now x false ≡ fits_some a (races_below e 0) x
  noted_none e n now is x =
      ap (λ l. get_or l x false) is ∙ blank_at n x ∙ sym (fits_nil x)
      ∙ ap (λ l. fits_some a l x) (sym (no_races_below e))

  -- an event whose mark is stale is listed
  pub stale_kept : (races : List (ℕ × ℕ)) (k : ℕ) (list : List ℕ)
      → list ≡ filter (is_stale a races) (range_with_len 0 k) → is_stale a races k ≡ true
      → list ++ k ∷ [] ≡ filter (is_stale a races) (range_with_len 0 (k + 1))
  stale_kept races k list so_far is =
      let front = filter (is_stale a races) (range_with_len 0 k) in
      ap (λ l. l ++ k ∷ []) so_far ∙ ap (λ b. front ++ cond b (k ∷ []) []) (sym is) ∙ sym (stale_more races k)

  -- any other is not
  pub stale_passed : (races : List (ℕ × ℕ)) (k : ℕ) (list : List ℕ)
      → list ≡ filter (is_stale a races) (range_with_len 0 k) → is_stale a races k ≡ false
      → list ≡ filter (is_stale a races) (range_with_len 0 (k + 1))
  stale_passed races k list so_far is =
      let front = filter (is_stale a races) (range_with_len 0 k) in
      so_far ∙ sym (append-nil front) ∙ ap (λ b. front ++ cond b (k ∷ []) []) (sym is) ∙ sym (stale_more races k)
