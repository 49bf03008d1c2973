-- The parts of a text make it again, and no part can be parted.
use Rattle.std.proofs.Common.{◌≡◌, ℕ, ◌+◌, Bool, true, false, cond, ◌==◌, List, [], ◌∷◌, ◌++◌, length, fold, refl, sym, ap, ◌∙◌, arith, tests, subst, suc}
use Rattle.std.specs.List.{flat_map, AllByRecursion}
use Rattle.std.proofs.lemmas.List.{append_assoc}
use Rattle.std.proofs.lemmas.List.Sums.{fold-append}
use Rattle.msc_chart.proofs.ListLemmas.{by_test}
use Rattle.msc_arrow_marks.specs.Parts.{open_length, parts_from, quoted_after, separates}
use Rattle.msc_arrow_marks.specs.Laws.{IsWhole, PartsMakeTheText}

module _ (separator : ℕ) where
  abbrev behind : List ℕ → List ℕ
  behind part = separator ∷ part

  -- such a byte is the separator, outside of quotes
  same_byte : (quoted : Bool) (b : ℕ) → separates separator quoted b ≡ true → b ≡ separator
  same_byte quoted b here = search (arith, tests)

  outside : (quoted : Bool) (b : ℕ) → separates separator quoted b ≡ true → quoted ≡ false
  outside quoted b here = search (arith, tests)

  text : (quoted : Bool) (part bytes : List ℕ) → flat_map behind (parts_from separator quoted part bytes) ≡ separator ∷ (part ++ bytes)
  unfolding parts_from
  text quoted part [] = refl
  text quoted part (b ∷ bs) =
      let q = quoted_after quoted b in
      let parted = part ∷ parts_from separator q [] bs in
      let going_on = parts_from separator q (part ++ b ∷ []) bs in
      by_test (separates separator quoted b)
      (λ here.
      ap (λ t. flat_map behind (cond t parted going_on)) here
      ∙ ap (λ t. (separator ∷ part) ++ t) (text q [] bs)
      ∙ ap (λ s. separator ∷ (part ++ s ∷ bs)) (sym (same_byte quoted b here)))
      (λ other.
      ap (λ t. flat_map behind (cond t parted going_on)) other
      ∙ text q (part ++ b ∷ []) bs
      ∙ ap (λ t. separator ∷ t) (append_assoc part (b ∷ []) bs))

  -- whether what follows a text is between quotes
  abbrev quoted_behind : Bool → List ℕ → Bool
  quoted_behind quoted part = fold quoted_after quoted part

  one_plus : (n : ℕ) → 1 + n ≡ suc n
  one_plus n = omega arith

  -- one byte more that does not separate
  one_more : (quoted : Bool) (part : List ℕ) (b : ℕ) → open_length separator quoted part ≡ length part → separates separator (quoted_behind quoted part) b ≡ false
      → open_length separator quoted (part ++ b ∷ []) ≡ length (part ++ b ∷ [])
  unfolding open_length
  one_more quoted [] b whole other = ap (λ t. cond t 0 1) other
  one_more quoted (c ∷ cs) b whole other =
      let q = quoted_after quoted c in
      by_test (separates separator quoted c)
      (λ here.
      let none : 0 ≡ suc (length cs) = sym (ap (λ t. cond t 0 (1 + open_length separator q cs)) here) ∙ whole in
      cc)
      (λ on.
      let rest : 1 + open_length separator q cs ≡ suc (length cs) = sym (ap (λ t. cond t 0 (1 + open_length separator q cs)) on) ∙ whole in
      let same : open_length separator q cs ≡ length cs = omega (arith, rest) in
      ap (λ t. cond t 0 (1 + open_length separator q (cs ++ b ∷ []))) on
      ∙ one_plus (open_length separator q (cs ++ b ∷ [])) ∙ ap suc (one_more q cs b same other))

  module _ (no_quote : ¬ (separator ≡ 34)) where
    whole : (quoted : Bool) (part bytes : List ℕ) → open_length separator false part ≡ length part → quoted_behind false part ≡ quoted → AllByRecursion (IsWhole separator) (parts_from separator quoted part bytes)
    unfolding parts_from open_length
    whole quoted part [] is behind = (is, tt)
    whole quoted part (b ∷ bs) is behind =
        let q = quoted_after quoted b in
        let parted = part ∷ parts_from separator q [] bs in
        let going_on = parts_from separator q (part ++ b ∷ []) bs in
        by_test (separates separator quoted b)
        (λ here.
        let plain : (separator == 34) ≡ false = search (arith, tests) in
        let after : false ≡ q = sym (ap (λ s. quoted_after s b) (outside quoted b here) ∙ ap (quoted_after false) (same_byte quoted b here) ∙ ap (λ t. cond t true false) plain) in
        subst (λ t. AllByRecursion (IsWhole separator) (cond t parted going_on)) (sym here) (is, whole q [] bs refl after))
        (λ other.
        let more = one_more false part b is (ap (λ s. separates separator s b) behind ∙ other) in
        let after = fold-append quoted_after false part (b ∷ []) ∙ ap (λ s. quoted_after s b) behind in
        subst (λ t. AllByRecursion (IsWhole separator) (cond t parted going_on)) (sym other) (whole q (part ++ b ∷ []) bs more after))

pub parts_lem : PartsMakeTheText
unfolding open_length
parts_lem = record {
  text = λ separator bytes. text separator false [] bytes;
  whole = λ separator bytes no_quote. whole separator no_quote false [] bytes refl refl;
}
