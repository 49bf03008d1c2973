-- The first eight choices of a scenario, and those that are only counted.
use Rattle.std.proofs.Common.{◌≡◌, ℕ, ◌+◌, ◌-◌, ◌≤◌, ◌<◌, List, ◌++◌, length, map, replicate, take, sym, ap, ◌∙◌, inl, inr, arith}
use Rattle.std.specs.List.{enumerate_from}
use Rattle.std.proofs.lemmas.Bool.{cases_lt}
use Rattle.std.proofs.lemmas.List.{append-nil, length-append, length-map, length-replicate, length-take-le, take-append-le, take-map, take_all}
use Rattle.std.proofs.lemmas.List.FromFn.{length-enumerate_from}
use Rattle.msc_mermaid.specs.declared.statement.Diagram.{Diagram}
use Rattle.msc_wording.specs.declared.scenario.SpokenChoice.{SpokenChoice}
use Rattle.msc_shown_diagram.specs.Choices.{choice_said, first_said, no_choice, plain_lent}

module _ (d : Diagram) (text cs : List ℕ) where
  -- as many are named as are taken of them
  named : length (first_said d text cs) ≡ length (take 8 cs)
  named = length-map (enumerate_from 0 (take 8 cs)) (λ at. choice_said d text (take at.0 cs) at.1) ∙ length-enumerate_from 0 (take 8 cs)

  few : length cs < 8 → length (first_said d text cs) ≡ length cs
  few less = named ∙ ap length (take_all 8 cs (omega (arith, less)))

  many : 8 ≤ length cs → length (first_said d text cs) ≡ 8
  many more = named ∙ length-take-le 8 cs more

  module _ (spoken : List SpokenChoice) (is : map plain_lent spoken ≡ first_said d text cs ++ replicate (length cs - 8) no_choice) where
    long : length spoken ≡ length (first_said d text cs) + (length cs - 8)
    long =
        let same = sym (length-map spoken plain_lent) ∙ ap length is in
        let parts = length-append (first_said d text cs) (replicate (length cs - 8) no_choice) in
        let rest = length-replicate (length cs - 8) no_choice in
        omega (arith, same, parts, rest)

    -- there are as many as choices
    pub all_counted : length spoken ≡ length cs
    all_counted = elim (cases_lt (length cs) 8) [
      | inl less ↦ let size = few less in omega (arith, long, size, less)
      | inr more ↦ let size = many more in omega (arith, long, size, more)
    ]

    -- the first eight are those that are named
    pub first_named : map plain_lent (take 8 spoken) ≡ first_said d text cs
    first_named = sym (take-map plain_lent 8 spoken) ∙ ap (take 8) is ∙ elim (cases_lt (length cs) 8) [
      | inl less ↦
          let none : length cs - 8 ≡ 0 = omega (arith, less) in
          ap (λ n. take 8 (first_said d text cs ++ replicate n no_choice)) none
          ∙ ap (take 8) (append-nil (first_said d text cs))
          ∙ take_all 8 (first_said d text cs) (let size = few less in omega (arith, size, less))
      | inr more ↦
          let size = many more in
          take-append-le 8 (first_said d text cs) (replicate (length cs - 8) no_choice) (omega (arith, size))
          ∙ take_all 8 (first_said d text cs) (omega (arith, size))
    ]
