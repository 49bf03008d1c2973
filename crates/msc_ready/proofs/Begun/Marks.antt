-- The marks of the events that have occurred.
use Rattle.std.proofs.Common.{◌≡◌, ℕ, ◌<◌, Bool, true, false, List, [], ◌∷◌, ◌++◌, length, get_or, sym, ap, ◌∙◌, arith, inl, inr, set, get_or-set_other, get_or-set_same}
use Rattle.std.proofs.lemmas.Bool.{cases_eq}
use Rattle.std.proofs.lemmas.List.{get_or_read, get_or-replicate, length-replicate}
use Rattle.std.proofs.Math.ListN.{length-set, replicate}
use Rattle.msc_chart.specs.Lists.{occurs}
use Rattle.msc_ready.specs.Beginnings.{HasMarks}
use Rattle.msc_ready.proofs.Shared.{occurs-push, occurs_other}

-- nothing has occurred yet
pub none_marked : (n k : ℕ) (done : List Bool) → k ≡ n → done ≡ replicate k false → HasMarks n [] done
unfolding occurs
none_marked n k done size all =
    let same : done ≡ replicate n false = all ∙ ap (λ (m : ℕ). replicate m false) size in
    rw same (record { each = length-replicate n false; told = λ x below. get_or-replicate n x false false below })

-- one more event is marked
pub marked_after : (n : ℕ) (run : List ℕ) (done : List Bool) (x : ℕ) → x < n → HasMarks n run done
    → HasMarks n (run ++ x ∷ []) (set done x true)
marked_after n run done x below h = record {
  each = length-set done x true ∙ h.each;
  told = λ y y_below. elim (cases_eq y x) [
    | inl same ↦
        let inside : x < length done = let each = h.each in omega (arith, each, below) in
        rw same (get_or-set_same done x true false inside ∙ sym (occurs-push run x))
    | inr other ↦ get_or-set_other done x y true false other ∙ h.told y y_below ∙ sym (occurs_other run x y other)
  ];
}

-- the mark that is read tells whether x has occurred
pub mark_read : (n : ℕ) (run : List ℕ) (done : List Bool) (x : ℕ) (b : Bool) → HasMarks n run done → x < n → b ≡ get_or done x b → b ≡ occurs run x
mark_read n run done x b marks below read =
    let each = marks.each in
    get_or_read done x b (omega (arith, each, below)) read false ∙ marks.told x below
