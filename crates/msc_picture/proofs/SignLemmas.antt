-- Signs on the axes of a row are the same whether bars or bands put them one by one or what stands
-- in the row does.
use Rattle.std.proofs.Common.{◌≡◌, ℕ, ◌<◌, Bool, true, false, cond, ◌&&◌, ◌||◌, List, [], ◌∷◌, ◌++◌, length, get_or, map, filter, fold, nat_eq, Option, None, Some, inl, inr, refl, sym, ap, subst, ◌∙◌, Vec, Global}
use Rattle.std.specs.Prelude.{slice_set}
use Rattle.std.specs.List.{list_any}
use Rattle.std.proofs.Math.Bool.{or-true}
use Rattle.std.proofs.lemmas.Bool.{cases_eq, eq-eqb, ne_eqb, false≢true}
use Rattle.std.proofs.lemmas.List.{get_or-set_same, get_or-set_other, length-set}
use Rattle.std.proofs.lemmas.Grind.{same_number_lists}
use Rattle.std.proofs.lemmas.List.Folds.{list_any-append, list_any_none}
use Rattle.std.proofs.lemmas.List.Sums.{fold-append}
use Rattle.msc_chart.proofs.ListLemmas.{by_test, clash}
use Rattle.msc_picture.specs.declared.columns.Columns.{Columns}
use Rattle.msc_picture.specs.declared.scene.RaceBar.{RaceBar}
use Rattle.msc_picture.specs.declared.scene.Row.{Row}
use Rattle.msc_picture.specs.Columns.{column}
use Rattle.msc_picture.specs.Signs.{instances_at, is_named, second_at, with_sign, AreBarsIn}
use Rattle.msc_picture.specs.Rows.{row_passes, second_passes}
use Rattle.msc_picture.specs.Texts.{is_marked, with_bar}

-- what is listed and passes is one that passes
listed_passes : (p : ℕ → Bool) (x : ℕ) (ys : List ℕ) → list_any (nat_eq x) ys ≡ true → p x ≡ true
    → list_any p ys ≡ true
listed_passes p x [] listed passes = absurd (false≢true listed)
listed_passes p x (y ∷ ys) listed passes = elim (cases_eq x y) [
  | inl same ↦
      ap (λ (b : Bool). b || list_any p ys) (ap p (sym same) ∙ passes)
  | inr other ↦
      let rest : list_any (nat_eq x) ys ≡ true =
      sym (ap (λ (b : Bool). b || list_any (nat_eq x) ys) (ne_eqb x y other)) ∙ listed in
      ap (λ (b : Bool). p y || b) (listed_passes p x ys rest passes) ∙ or-true (p y)
]

-- one of what is listed elsewhere too passes there too
passes_there : (p : ℕ → Bool) (xs ys : List ℕ)
    → ((i : ℕ) → list_any (nat_eq i) xs ≡ true → list_any (nat_eq i) ys ≡ true)
    → list_any p xs ≡ true → list_any p ys ≡ true
passes_there p [] ys there some = absurd (false≢true some)
passes_there p (x ∷ xs) ys there some = by_test (p x)
    (λ yes.
    let here : list_any (nat_eq x) (x ∷ xs) ≡ true =
    ap (λ (b : Bool). b || list_any (nat_eq x) xs) (eq-eqb x x refl) in
    listed_passes p x ys (there x here) yes)
    (λ no.
    let rest : list_any p xs ≡ true = sym (ap (λ (b : Bool). b || list_any p xs) no) ∙ some in
    passes_there p xs ys
    (λ i listed. there i (ap (λ (b : Bool). nat_eq i x || b) listed ∙ or-true (nat_eq i x))) rest)

-- lists of the same numbers have one that passes, both or neither
same_any : (p : ℕ → Bool) (xs ys : List ℕ)
    → ((i : ℕ) → list_any (nat_eq i) xs ≡ list_any (nat_eq i) ys) → list_any p xs ≡ list_any p ys
same_any p xs ys same = by_test (list_any p ys)
    (λ yes. passes_there p ys xs (λ i listed. same i ∙ listed) yes ∙ sym yes)
    (λ no. by_test (list_any p xs)
    (λ here. clash (passes_there p xs ys (λ i listed. sym (same i) ∙ listed) here) no)
    (λ none. none ∙ sym no))

-- which of the items that pass have the number i
kept_any : {X : Type 0} (p : X → Bool) (f : X → ℕ) (i : ℕ) (xs : List X)
    → list_any (nat_eq i) (map f (filter p xs)) ≡ list_any (λ x. p x && nat_eq i (f x)) xs
kept_any p f i [] = refl
kept_any p f i (x ∷ xs) = by_test (p x)
    (λ yes.
    ap (λ (b : Bool). list_any (nat_eq i) (map f (cond b (x ∷ filter p xs) (filter p xs)))) yes
    ∙ ap (λ (b : Bool). nat_eq i (f x) || b) (kept_any p f i xs)
    ∙ ap (λ (b : Bool). (b && nat_eq i (f x)) || list_any (λ y. p y && nat_eq i (f y)) xs) (sym yes))
    (λ no.
    ap (λ (b : Bool). list_any (nat_eq i) (map f (cond b (x ∷ filter p xs) (filter p xs)))) no
    ∙ kept_any p f i xs
    ∙ ap (λ (b : Bool). (b && nat_eq i (f x)) || list_any (λ y. p y && nat_eq i (f y)) xs) (sym no))

-- two answers that go together, apart
gather : (a b t x y : Bool) → (((a && t) || x) || ((b && t) || y)) ≡ (((a || b) && t) || (x || y))
gather true true true x y = refl
gather true true false x y = refl
gather true false true x y = refl
gather true false false x y = refl
gather false true true true y = refl
gather false true true false y = refl
gather false true false x y = refl
gather false false t x y = refl

-- one of those that pass the first test or of those that pass the second
any_of_both : {X : Type 0} (p q t : X → Bool) (xs : List X)
    → (list_any (λ x. p x && t x) xs || list_any (λ x. q x && t x) xs)
    ≡ list_any (λ x. (p x || q x) && t x) xs
any_of_both p q t [] = refl
any_of_both p q t (x ∷ xs) =
    gather (p x) (q x) (t x) (list_any (λ y. p y && t y) xs) (list_any (λ y. q y && t y) xs)
    ∙ ap (λ (b : Bool). ((p x || q x) && t x) || b) (any_of_both p q t xs)

module _ (c : Columns) (sign : ℕ) where
  -- signs keep the length of a line
  long : (line : List ℕ) (is : List ℕ) → length (fold (with_sign c sign) line is) ≡ length line
  long line [] = refl
  long line (i ∷ is) = long (with_sign c sign line i) is ∙ length-set line (column c i) sign

  -- both cases are one
  both : (b : Bool) → cond b sign sign ≡ sign
  both true = refl
  both false = refl

  -- what stands at a place of a line with signs
  signed : (line is : List ℕ) (j : ℕ) → j < length line
      → get_or (fold (with_sign c sign) line is) j 0
      ≡ cond (list_any (λ i. nat_eq j (column c i)) is) sign (get_or line j 0)
  signed line [] j below = refl
  signed line (i ∷ is) j below =
      let at = column c i in
      let next = with_sign c sign line i in
      let rest = list_any (λ x. nat_eq j (column c x)) is in
      let inside : j < length next =
      subst (λ (n : ℕ). j < n) (sym (length-set line at sign)) below in
      signed next is j inside ∙ elim (cases_eq j at) [
        | inl same ↦
            let here : get_or next j 0 ≡ sign =
            ap (λ (k : ℕ). get_or next k 0) same
            ∙ get_or-set_same line at sign 0 (subst (λ (k : ℕ). k < length line) same below) in
            ap (cond rest sign) here ∙ both rest
            ∙ ap (λ (b : Bool). cond (b || rest) sign (get_or line j 0)) (sym (eq-eqb j at same))
        | inr other ↦
            ap (cond rest sign) (get_or-set_other line at j sign 0 other)
            ∙ ap (λ (b : Bool). cond (b || rest) sign (get_or line j 0)) (sym (ne_eqb j at other))
      ]

  -- the signs of the same instances, in whatever order and however often
  same_signs : (line xs ys : List ℕ) → ((i : ℕ) → list_any (nat_eq i) xs ≡ list_any (nat_eq i) ys)
      → fold (with_sign c sign) line xs ≡ fold (with_sign c sign) line ys
  same_signs line xs ys same =
      same_number_lists (fold (with_sign c sign) line xs) (fold (with_sign c sign) line ys)
      (long line xs ∙ sym (long line ys))
      (λ j below.
      let inside : j < length line = subst (λ (n : ℕ). j < n) (long line xs) below in
      signed line xs j inside
      ∙ ap (λ (b : Bool). cond b sign (get_or line j 0))
      (same_any (λ i. nat_eq j (column c i)) xs ys same)
      ∙ sym (signed line ys j inside))

  -- a line with the sign of an item over it, where the item passes
  abbrev over_if : {X : Type 0} → (X → Bool) → (X → ℕ) → List ℕ → X → List ℕ
  over_if p f line x = cond (p x) (slice_set line (column c (f x)) sign) line

  -- items that pass put the signs of their instances
  items_put : {X : Type 0} (p : X → Bool) (f : X → ℕ) (line : List ℕ) (xs : List X)
      → fold (over_if p f) line xs ≡ fold (with_sign c sign) line (map f (filter p xs))
  items_put p f line [] = refl
  items_put p f line (x ∷ xs) =
      let more = slice_set line (column c (f x)) sign in
      let rest = filter p xs in
      by_test (p x)
      (λ yes.
      ap (λ (b : Bool). fold (over_if p f) (cond b more line) xs) yes
      ∙ items_put p f more xs
      ∙ ap (λ (b : Bool). fold (with_sign c sign) line (map f (cond b (x ∷ rest) rest))) (sym yes))
      (λ no.
      ap (λ (b : Bool). fold (over_if p f) (cond b more line) xs) no
      ∙ items_put p f line xs
      ∙ ap (λ (b : Bool). fold (with_sign c sign) line (map f (cond b (x ∷ rest) rest))) (sym no))

  -- signs of the instances of the items that pass are the signs of these items
  pub same_put : {X : Type 0} (p : X → Bool) (f : X → ℕ) (line is : List ℕ) (xs : List X)
      → ((i : ℕ) → list_any (nat_eq i) is ≡ list_any (λ x. p x && nat_eq i (f x)) xs)
      → fold (with_sign c sign) line is ≡ fold (over_if p f) line xs
  same_put p f line is xs same =
      same_signs line is (map f (filter p xs)) (λ i. same i ∙ sym (kept_any p f i xs))
      ∙ sym (items_put p f line xs)

-- what stands at the place of a second event
second_has : (bars : List RaceBar) (signs : List (Vec ℕ Global)) (second : Option ℕ) (i : ℕ)
    → AreBarsIn bars signs
    → list_any (nat_eq i) (second_at signs second)
    ≡ list_any (λ m. second_passes (is_marked m) second && nat_eq i m.instance) bars
second_has bars signs None i of =
    sym (list_any_none (λ m. second_passes (is_marked m) None && nat_eq i m.instance) bars
    (λ k d below. refl))
second_has bars signs (Some e) i of = of e i

-- the stars of a row's events are those of its bars
pub row_stars : (c : Columns) (row : Row) (line : List ℕ) (bars : List RaceBar)
    (signs : List (Vec ℕ Global)) → AreBarsIn bars signs
    → fold (with_sign c 42) (fold (with_sign c 42) line (instances_at signs row.first))
    (second_at signs row.second)
    ≡ fold (with_bar c row) line bars
row_stars c row line bars signs of =
    let first = instances_at signs row.first in
    let second = second_at signs row.second in
    sym (fold-append (with_sign c 42) line first second)
    ∙ same_put c 42 (λ (m : RaceBar). row_passes (is_marked m) row) (λ m. m.instance) line
    (first ++ second) bars
    (λ i.
    list_any-append (nat_eq i) first second
    ∙ ap (λ (b : Bool). b || list_any (nat_eq i) second) (of row.first i)
    ∙ ap (λ (b : Bool). is_named bars row.first i || b) (second_has bars signs row.second i of)
    ∙ any_of_both (λ (m : RaceBar). is_marked m row.first) (λ m. second_passes (is_marked m) row.second)
    (λ m. nat_eq i m.instance) bars)
