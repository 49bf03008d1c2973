-- The names of lines: each is a name of charts, and no two are the same.
use Rattle.std.proofs.Common.{◌≡◌, ℕ, zero, suc, ◌+◌, ◌^◌, ◌<◌, ◌≤◌, Bool, true, false, cond, ◌||◌, length, sym, arith, inl, inr, List, [], ◌∷◌, ◌++◌, Some, unwrap_or, codes, refl, ap, subst, ◌∙◌}
use Rattle.std.specs.Fmt.{decimal}
use Rattle.std.specs.Str.{bytes_eq}
use Rattle.std.proofs.lemmas.Bool.{cases_eq, eq-eqb, ne_eqb}
use Rattle.std.proofs.lemmas.Fmt.{decimal_injective}
use Rattle.std.proofs.lemmas.List.{length-append, length_push}
use Rattle.std.proofs.lemmas.Option.{slice_get-get_or}
use Rattle.std.proofs.lemmas.Slice.Eq.{bytes_eq-Decides}
use Rattle.msc_chart.specs.Lists.{StandsAt}
use Rattle.msc_chart.proofs.ListLemmas.{by_test, clash}
use Rattle.msc_chart.proofs.Places.{place-any}
use Rattle.msc_mermaid.specs.declared.TheConstants.{LINE_LIMIT}
use Rattle.msc_import.specs.Drafting.{fitted, line_name}
use Rattle.msc_scenarios.specs.Naming.{candidate, free_name, is_taken, made, names_behind}
use Rattle.msc_import_laws.proofs.Numbers.{IsSmall}
use Rattle.msc_import_laws.proofs.MadeNames.{IsGood, candidate_good, good_fitted, made_good}
use Rattle.msc_import_laws.proofs.Stands.{joined_at}

-- numbers tell candidates apart
same_behind : (name xs ys : List ℕ) → name ++ xs ≡ name ++ ys → xs ≡ ys
same_behind [] xs ys e = e
same_behind (b ∷ name) xs ys e = let f : b ∷ (name ++ xs) ≡ b ∷ (name ++ ys) = e in let g : name ++ xs ≡ name ++ ys = cc in same_behind name xs ys g

candidates_apart : (name : List ℕ) (i j : ℕ) → IsSmall i → IsSmall j → candidate name i ≡ candidate name j → i ≡ j
candidates_apart name i j a b e =
    elim (cases_eq i 1) [
      | inl one ↦ elim (cases_eq j 1) [
        | inl same ↦ one ∙ sym same
        | inr other ↦ absurd (longer j other (sym (is_first i one) ∙ e))
      ]
      | inr more ↦ elim (cases_eq j 1) [
        | inl same ↦ absurd (longer i more (sym (is_first j same) ∙ sym e))
        | inr other ↦
            let f : name ++ 95 ∷ decimal i ≡ name ++ 95 ∷ decimal j = sym (is_later i more) ∙ e ∙ is_later j other in
            let g : 95 ∷ decimal i ≡ 95 ∷ decimal j = same_behind name (95 ∷ decimal i) (95 ∷ decimal j) f in
            decimal_injective i j a b cc
      ]
    ]
  where
    is_first : (n : ℕ) → n ≡ 1 → candidate name n ≡ name
    is_first n one = rw (eq-eqb n 1 one) refl

    is_later : (n : ℕ) → (n ≡ 1 → ⊥) → candidate name n ≡ name ++ 95 ∷ decimal n
    is_later n more = rw (ne_eqb n 1 more) refl

    longer : (n : ℕ) → (n ≡ 1 → ⊥) → name ≡ candidate name n → ⊥
    longer n more same = let l = ap length (same ∙ is_later n more) in let k = length-append name (95 ∷ decimal n) in omega (arith, l, k)

-- names without one
without : List ℕ → List (List ℕ) → List (List ℕ)
without c [] = []
without c (x ∷ xs) = cond (bytes_eq x c) xs (x ∷ without c xs)

one_fewer : (c : List ℕ) (names : List (List ℕ)) → is_taken names c ≡ true → length (without c names) + 1 ≡ length names
unfolding without
one_fewer c [] h = clash h refl
one_fewer c (x ∷ xs) h =
    by_test (bytes_eq x c)
    (λ same. rw same (omega arith))
    (λ other. let r = one_fewer c xs (sym (ap (λ (b : Bool). b || is_taken xs c) other) ∙ h) in rw other (omega (arith, r)))

still_taken : (c e : List ℕ) (names : List (List ℕ)) → (c ≡ e → ⊥) → is_taken names e ≡ is_taken (without c names) e
unfolding without
still_taken c e [] apart = refl
still_taken c e (x ∷ xs) apart =
    by_test (bytes_eq x c)
    (λ same.
    let is : x ≡ c = (bytes_eq-Decides x c).0 same in
    let other : bytes_eq x e ≡ false = by_test (bytes_eq x e) (λ h. absurd (apart (sym is ∙ (bytes_eq-Decides x e).0 h))) (λ h. h) in
    rw same (ap (λ (b : Bool). b || is_taken xs e) other))
    (λ other. rw other (ap (λ (b : Bool). bytes_eq x e || b) (still_taken c e xs apart)))

-- the same candidates are free among names that hold the same of them
same_free : (xs ys : List (List ℕ)) (name : List ℕ) (n k : ℕ) → ((j : ℕ) → k ≤ j → j < k + n → is_taken xs (candidate name j) ≡ is_taken ys (candidate name j)) → free_name xs name k n ≡ free_name ys name k n
unfolding free_name
same_free xs ys name zero k h = refl
same_free xs ys name (suc n) k h =
    ap (λ (b : Bool). cond b (free_name xs name (k + 1) n) (candidate name k)) (h k (omega arith) (omega arith))
    ∙ ap (λ (l : List ℕ). cond (is_taken ys (candidate name k)) l (candidate name k)) (same_free xs ys name n (k + 1) (λ j low high. h j (omega (arith, low)) (omega (arith, high))))

-- one of the candidates that is not there
record IsFree (names : List (List ℕ)) (name : List ℕ) (k n : ℕ) : Type 0 where
  number : ℕ
  from : k ≤ number
  to : number < k + n
  is : free_name names name k n ≡ candidate name number
  new : is_taken names (candidate name number) ≡ false

finds_free : (name : List ℕ) (n : ℕ) (names : List (List ℕ)) (k : ℕ) → length names < n → k + n < 2 ^ 64 → IsFree names name k n
unfolding free_name
finds_free name zero names k few small = absurd (omega (arith, few))
finds_free name (suc n) names k few small =
    let c : List ℕ = candidate name k in
    by_test (is_taken names c)
    (λ taken.
    let fewer = one_fewer c names taken in
    let r = finds_free name n (without c names) (k + 1) (omega (arith, few, fewer)) (omega (arith, small)) in
    let low = r.from in
    let high = r.to in
    let apart : (j : ℕ) → k + 1 ≤ j → j < (k + 1) + n → c ≡ candidate name j → ⊥ = λ j from to e. let same = candidates_apart name k j (omega (arith, small)) (omega (arith, to, small)) e in omega (arith, same, from) in
    record {
      number = r.number;
      from = omega (arith, low);
      to = omega (arith, high);
      is = rw taken (same_free names (without c names) name n (k + 1) (λ j from to. still_taken c (candidate name j) names (apart j from to)) ∙ r.is);
      new = still_taken c (candidate name r.number) names (apart r.number low high) ∙ r.new;
    })
    (λ free. record { number = k; from = omega arith; to = omega arith; is = rw free refl; new = free })

-- names of lines
pub record AreNames (names : List (List ℕ)) : Type 0 where
  pub good : (i : ℕ) (x : List ℕ) → StandsAt names i x → IsGood 61 x
  pub apart : (i j : ℕ) (x : List ℕ) → StandsAt names i x → StandsAt names j x → i ≡ j

-- one name more that is not there
name_more : (names : List (List ℕ)) (c : List ℕ) → AreNames names → IsGood 61 c → is_taken names c ≡ false → AreNames (names ++ c ∷ [])
name_more names c are good new = record {
  good = λ i x h. elim (joined_at names (c ∷ []) i x h) [ inl l ↦ are.good i x l | inr r ↦ subst (IsGood 61) (only r.0 x r.2) good ];
  apart = λ i j x h k. elim (joined_at names (c ∷ []) i x h) [
    | inl l ↦ elim (joined_at names (c ∷ []) j x k) [
      | inl r ↦ are.apart i j x l r
      | inr r ↦ absurd (not_there i x l (only r.0 x r.2))
    ]
    | inr l ↦ elim (joined_at names (c ∷ []) j x k) [
      | inl r ↦ absurd (not_there j x r (only l.0 x l.2))
      | inr r ↦ let a = first l.0 x l.2 in let b = first r.0 x r.2 in omega (arith, l.1, r.1, a, b)
    ]
  ];
}
  where
    only : (i : ℕ) (x : List ℕ) → StandsAt (c ∷ []) i x → c ≡ x
    only zero x h = cc
    only (suc i) x h = cc

    first : (i : ℕ) (x : List ℕ) → StandsAt (c ∷ []) i x → i ≡ 0
    first zero x h = refl
    first (suc i) x h = cc

    not_there : (i : ℕ) (x : List ℕ) → StandsAt names i x → c ≡ x → ⊥
    not_there i x h same = clash (place-any (λ n. bytes_eq n c) names i x h ((bytes_eq-Decides x c).1 (sym same))) new

names_are : (names idents : List (List ℕ)) → AreNames names → length names + length idents ≤ LINE_LIMIT → AreNames (names_behind names idents) × (length (names_behind names idents) ≡ length names + length idents)
unfolding names_behind
names_are names [] are few = (are, omega arith)
names_are names (ident ∷ idents) are few =
    let name : List ℕ = made ident (codes "p") in
    let r = finds_free name (length names + 1) names 1 (omega arith) (omega (arith, few)) in
    let high = r.to in
    let good : IsGood 61 (free_name names name 1 (length names + 1)) = subst (IsGood 61) (sym r.is) (candidate_good name r.number (made_good ident) (omega (arith, high, few))) in
    let new : is_taken names (free_name names name 1 (length names + 1)) ≡ false = ap (is_taken names) r.is ∙ r.new in
    let l = length_push names (free_name names name 1 (length names + 1)) in
    let rest = names_are (names ++ free_name names name 1 (length names + 1) ∷ []) idents (name_more names (free_name names name 1 (length names + 1)) are good new) (omega (arith, few, l)) in
    (rest.0, let k = rest.1 in omega (arith, k, l))

-- the names of so many lines
module _ (lines : List (List ℕ)) (few : length lines ≤ LINE_LIMIT) where
  no_names : AreNames []
  no_names = record { good = λ i x h. cc; apart = λ i j x h k. cc }

  all_names : AreNames (names_behind [] lines) × (length (names_behind [] lines) ≡ 0 + length lines)
  all_names = names_are [] lines no_names (omega (arith, few))

  name_at : (i : ℕ) → i < length lines → StandsAt (names_behind [] lines) i (line_name (names_behind [] lines) i)
  name_at i lt =
      let l = all_names.1 in
      let at = slice_get-get_or (names_behind [] lines) i [] (omega (arith, lt, l)) in
      at ∙ ap Some (sym (ap (λ o. unwrap_or o []) at))

  -- they are told apart by what is drawn of them
  pub names_apart : (i j : ℕ) → i < length lines → j < length lines → fitted (line_name (names_behind [] lines) i) ≡ fitted (line_name (names_behind [] lines) j) → i ≡ j
  names_apart i j a b e =
      let names : List (List ℕ) = names_behind [] lines in
      let x = name_at i a in
      let y = name_at j b in
      let same = sym (good_fitted (line_name names i) (all_names.0.good i (line_name names i) x)) ∙ e ∙ good_fitted (line_name names j) (all_names.0.good j (line_name names j) y) in
      all_names.0.apart i j (line_name names i) x (subst (StandsAt names j) (sym same) y)
