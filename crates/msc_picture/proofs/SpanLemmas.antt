-- Which rows a band is over, row by row.
use Rattle.std.proofs.Common.{◌≡◌, ℕ, ◌+◌, ◌<◌, ◌≤◌, Bool, true, false, ◌&&◌, ◌||◌, not, max, min, nat_eq, nat_lt, inl, inr, refl, sym, ap, ◌∙◌, arith}
use Rattle.std.proofs.Math.Bool.{or-false, or-true}
use Rattle.std.proofs.lemmas.Bool.{cases_eq, cases_lt, eq-eqb, le-ltb, lt-ltb, ne_eqb}
use Rattle.msc_picture.specs.declared.scene.Band.{Band}
use Rattle.msc_picture.specs.Texts.{in_band}

-- row x stands from a first one on and before row r
abbrev pub is_from_to : ℕ → ℕ → ℕ → Bool
is_from_to first r x = not (nat_lt x first) && nat_lt x r

-- a test and its opposite
none_of : (b t : Bool) → ((not b && b) && t) ≡ false
none_of true t = refl
none_of false t = refl

-- before the first row there are none
pub span_none : (first x : ℕ) (a t : Bool) → a ≡ (a || (is_from_to first first x && t))
span_none first x a t =
    sym (or-false a) ∙ ap (λ (b : Bool). a || b) (sym (none_of (nat_lt x first) t))

-- one of two tests with a third
spread : (a b c t : Bool) → ((a || (b && t)) || (c && t)) ≡ (a || ((b || c) && t))
spread true b c t = refl
spread false false c t = refl
spread false true c true = refl
spread false true true false = refl
spread false true false false = refl

-- one more row
one_more : (first r x : ℕ) → first ≤ r
    → (is_from_to first r x || nat_eq x r) ≡ is_from_to first (r + 1) x
one_more first r x reached =
    let from = not (nat_lt x first) in
    elim (cases_lt x r) [
      | inl before ↦
          let miss : nat_eq x r ≡ false = ne_eqb x r (λ same. absurd (omega (arith, same, before))) in
          ap (λ (b : Bool). is_from_to first r x || b) miss ∙ or-false (is_from_to first r x)
          ∙ ap (λ (b : Bool). from && b) (lt-ltb x r before ∙ sym (lt-ltb x (r + 1) (omega (arith, before))))
      | inr behind ↦ elim (cases_eq x r) [
        | inl same ↦
            let here : from ≡ true = ap not (le-ltb x first (omega (arith, same, reached))) in
            ap (λ (b : Bool). is_from_to first r x || b) (eq-eqb x r same)
            ∙ or-true (is_from_to first r x)
            ∙ sym (ap (λ (b : Bool). b && nat_lt x (r + 1)) here
            ∙ lt-ltb x (r + 1) (omega (arith, same)))
        | inr other ↦
            ap (λ (b : Bool). is_from_to first r x || b) (ne_eqb x r other)
            ∙ or-false (is_from_to first r x)
            ∙ ap (λ (b : Bool). from && b) (le-ltb x r behind
            ∙ sym (le-ltb x (r + 1) (omega (arith, behind, other))))
      ]
    ]

-- what is at a place after the row of one more
pub span_more : (first r x : ℕ) (a own now next : Bool) → first ≤ r
    → now ≡ (a || (is_from_to first r x && own)) → next ≡ (now || (nat_eq x r && own))
    → next ≡ (a || (is_from_to first (r + 1) x && own))
span_more first r x a own now next reached so_far more =
    more ∙ ap (λ (b : Bool). b || (nat_eq x r && own)) so_far
    ∙ spread a (is_from_to first r x) (nat_eq x r) own
    ∙ ap (λ (b : Bool). a || (b && own)) (one_more first r x reached)

-- the rows up to the end are those of the band
pub span_all : (band : Band) (many r x : ℕ) → x < many → min (band.last + 1) many ≤ r
    → r ≤ max band.first (min (band.last + 1) many) → is_from_to band.first r x ≡ in_band x band
span_all band many r x known reached within = elim (cases_lt x band.first) [
  | inl before ↦
      let out : not (nat_lt x band.first) ≡ false = ap not (lt-ltb x band.first before) in
      ap (λ (b : Bool). b && nat_lt x r) out
      ∙ sym (ap (λ (b : Bool). b && not (nat_lt band.last x)) out)
  | inr from ↦ ap (λ (b : Bool). not (nat_lt x band.first) && b) (elim (cases_lt band.last x) [
    | inl past ↦
        le-ltb x r (omega (arith, known, within, from, past))
        ∙ sym (ap not (lt-ltb band.last x past))
    | inr upto ↦
        lt-ltb x r (omega (arith, known, reached, upto))
        ∙ sym (ap not (le-ltb band.last x upto))
  ])
]
