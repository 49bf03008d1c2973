-- The first scenarios of a diagram, which are kept, with their charts.
use Rattle.std.proofs.Common.{◌≡◌, ◌<◌, ℕ, List, Some, get_or, slice_get, length, take, min, map, refl, sym, ap, ◌∙◌, arith}
use Rattle.std.proofs.lemmas.List.{get_or-take, length-map, length-take, take-map}
use Rattle.std.proofs.lemmas.Option.{slice_get_read}

-- charts of the first drawings are the first charts
pub first_charts : {X Y : Type 0} (f : X → Y) (all first : List X) (charts : List Y) → first ≡ take (length first) all → charts ≡ map f first → charts ≡ take (length charts) (map f all)
first_charts f all first charts are made =
    made ∙ ap (map f) are ∙ sym (take-map f (length first) all) ∙ ap (λ n. take n (map f all)) (sym (ap length made ∙ length-map first f))

-- one of the first is that of all
pub first_at : {X : Type 0} (all first : List X) (i : ℕ) (x : X) → first ≡ take (length first) all → i < length first → get_or first i x ≡ x → slice_get all i ≡ Some x
first_at all first i x are inside is =
    let size : length first ≡ min (length first) (length all) = ap length are ∙ length-take (length first) all in
    let within : i < length all = omega (arith, inside, size) in
    slice_get_read all (length all) i x refl within (sym is ∙ ap (λ l. get_or l i x) are ∙ get_or-take (length first) all i x inside)
