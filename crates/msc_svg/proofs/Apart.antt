-- Axes and rows stand apart.
use Rattle.std.proofs.Common.{◌≡◌, ℕ, zero, suc, ◌+◌, ◌-◌, ◌*◌, ◌≤◌, ◌<◌, Bool, cond, true, false, max, List, [], ◌∷◌, Option, None, Some, length, get_or, refl, sym, ap, subst, ◌∙◌, arith}
use Rattle.std.specs.Prelude.{slice_get}
use Rattle.std.proofs.lemmas.List.{get_or-map, length-map}
use Rattle.std.proofs.lemmas.List.FromFn.{get_or-map-range_with_len, length-map-range_with_len}
use Rattle.msc_picture.specs.declared.scene.Act.{Act}
use Rattle.msc_picture.specs.declared.scene.Act.TheVariants.{Sends, Takes, Does}
use Rattle.msc_picture.specs.declared.scene.Scene.{Scene}
use Rattle.msc_picture.specs.declared.scene.Spot.{Spot}
use Rattle.msc_picture.specs.Rows.{row_of_one}
use Rattle.msc_svg.specs.Actions.{action_box}
use Rattle.msc_svg.specs.Depths.{depths_of}
use Rattle.msc_svg.specs.Layouts.{act_height, gap, gaps_of, is_short, layout_of, row_height, row_heights, row_numbers, spot_height, sums}
use Rattle.msc_svg.specs.Places.{axis, edge}

-- from one sum to the next is a step
pub sums_step : (start : ℕ) (steps : List ℕ) (k : ℕ) → k < length steps
    → get_or (sums start steps) (k + 1) 0 ≡ get_or (sums start steps) k 0 + get_or steps k 0
sums_step start [] k below = absurd (omega (arith, below))
sums_step start (x ∷ []) zero below = refl
sums_step start (x ∷ y ∷ ys) zero below = refl
sums_step start (x ∷ xs) (suc k) below =
    let on : suc k + 1 ≡ suc (k + 1) = omega arith in
    ap (λ (n : ℕ). get_or (sums start (x ∷ xs)) n 0) on ∙ sums_step (start + x) xs k (omega (arith, below))

-- a step that is no less than this sets the next sum so far apart
pub sums_apart : (start : ℕ) (steps : List ℕ) (k w : ℕ) → k < length steps → w ≤ get_or steps k 0
    → get_or (sums start steps) k 0 + w ≤ get_or (sums start steps) (k + 1) 0
sums_apart start steps k w below wide = omega (arith, sums_step start steps k below, wide)

-- the greatest of some lengths and 112
at_least : (a b c d : ℕ) → 112 ≤ max (max (max (max 112 a) b) c) d
at_least a b c d = omega arith

-- axes stand apart
pub axes_apart : (s : Scene) (heading : List (List ℕ)) (i : ℕ) → i + 1 < length s.heads
    → axis (layout_of s heading) i + 112 ≤ axis (layout_of s heading) (i + 1)
axes_apart s heading i below =
    let many = length s.heads - 1 in
    let steps = gaps_of s (depths_of s) in
    let long : length steps ≡ many = length-map-range_with_len (gap s (depths_of s)) 0 many in
    let inside : i < many = omega (arith, below) in
    let is : get_or steps i 0 ≡ gap s (depths_of s) i =
    get_or-map-range_with_len (gap s (depths_of s)) 0 many i i 0 inside (omega arith) in
    let wide : 112 ≤ gap s (depths_of s) i = at_least _ _ _ _ in
    sums_apart _ steps i 112 (subst (λ (n : ℕ). i < n) (sym long) inside)
    (subst (λ (n : ℕ). 112 ≤ n) (sym is) wide)

-- the least height
itself : 32 ≤ 32
itself = omega arith

-- a height by a test
two_heights : (t : Bool) → 32 ≤ cond t 48 32
two_heights true = let high : 32 ≤ 48 = omega arith in high
two_heights false = itself

box_high : (n : ℕ) → 32 ≤ 16 * n + 32
box_high n = omega arith

-- each row is at least 32 high
act_high : (s : Scene) (numbers : List ℕ) (act : Act) → 32 ≤ act_height s numbers act
act_high s numbers (Sends m) = two_heights (is_short numbers (slice_get s.arrows m))
act_high s numbers (Takes m) = itself
act_high s numbers (Does text) = box_high (length (action_box text).lines)

spot_high : (s : Scene) (numbers : List ℕ) (spot : Option Spot) → 32 ≤ spot_height s numbers spot
spot_high s numbers None = itself
spot_high s numbers (Some spot) = act_high s numbers spot.act

-- rows stand apart
pub rows_apart : (s : Scene) (heading : List (List ℕ)) (r : ℕ) → r < length s.rows
    → edge (layout_of s heading) r + 32 ≤ edge (layout_of s heading) (r + 1)
rows_apart s heading r below =
    let numbers = row_numbers s in
    let steps = row_heights s numbers in
    let long : length steps ≡ length s.rows = length-map s.rows (row_height s numbers) in
    let is : get_or steps r 0 ≡ row_height s numbers (get_or s.rows r (row_of_one 0)) =
    get_or-map (row_height s numbers) s.rows r (row_of_one 0) 0 below in
    let high : 32 ≤ row_height s numbers (get_or s.rows r (row_of_one 0)) = spot_high s numbers _ in
    sums_apart _ steps r 32 (subst (λ (n : ℕ). r < n) (sym long) below)
    (subst (λ (n : ℕ). 32 ≤ n) (sym is) high)
