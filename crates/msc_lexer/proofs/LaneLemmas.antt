-- From the lanes of a load to the run at its front.
use Rattle.std.proofs.Common.{◌≡◌, ℕ, ◌+◌, ◌%◌, ◌^◌, ◌<◌, ◌≤◌, Bool, true, not, List, [], ◌∷◌, map, length, take, drop, Fits, w8, refl, sym, ap, ◌∙◌, arith}
use Rattle.std.proofs.lemmas.Bool.{agree_below, agree_below_at, eq-eqb, ne_eqb}
use Rattle.std.proofs.lemmas.List.{length-map, length-take, length-drop, drop-drop, take-append-drop}
use Rattle.std.proofs.lemmas.List.Folds.{prefix_len-append}
use Rattle.std.proofs.lemmas.List.Sums.{prefix_len-le-length}
use Rattle.std.proofs.lemmas.Simd.{map-map, mask_l-mod, first_set_mask_l}
use Rattle.std.specs.List.{prefix_len}
use lib.Lanes.{Each1, mask_l, top}
use Rattle.msc_lexer.specs.Scanning.{first_set}

-- two tests that agree on bytes find the same prefix
same_prefix : (p q : ℕ → Bool) (bytes : List ℕ) → agree_below p q 256 ≡ true → Each1 (Fits w8) bytes
    → prefix_len p bytes ≡ prefix_len q bytes
same_prefix p q [] agree fits = refl
same_prefix p q (b ∷ bs) agree fits =
    rw (agree_below_at p q 256 b agree fits.0.fits, same_prefix p q bs agree fits.1) refl

-- where a lane stops just where the test fails, the first that stops ends the prefix that passes
pub run_of_lanes : (q : ℕ → Bool) (stop : ℕ → ℕ) (bytes lanes : List ℕ) (r : ℕ) → length bytes ≡ 16
    → Each1 (Fits w8) bytes → lanes ≡ map stop bytes
    → agree_below (λ b. not (top 7 (stop b))) q 256 ≡ true
    → r ≡ first_set (mask_l (map (top 7) lanes) % 2 ^ 64) 16 → r ≡ prefix_len q bytes
run_of_lanes q stop bytes lanes r long fits are agree found =
    let stops : ℕ → Bool = λ b. top 7 (stop b) in
    let tops = ap (map (top 7)) are ∙ map-map (top 7) stop bytes in
    let mask = ap (λ l. mask_l l % 2 ^ 64) tops ∙ mask_l-mod (map stops bytes) 64 (omega (arith, length-map bytes stops, long)) in
    found ∙ ap (λ m. first_set m 16) mask ∙ first_set_mask_l stops bytes 16 long (omega arith)
    ∙ same_prefix (λ b. not (stops b)) q bytes agree fits

-- a run that ends within a load at a place it has reached ends there
pub run_ends : (q : ℕ → Bool) (bytes : List ℕ) (at r : ℕ) → at + 16 ≤ length bytes
    → prefix_len q bytes ≡ at + prefix_len q (drop at bytes) → r ≡ prefix_len q (take 16 (drop at bytes))
    → r < 16 → at + r ≡ prefix_len q bytes
run_ends q bytes at r room reached is short =
    let rest = drop at bytes in
    let len = length-take 16 rest in
    let ends = ne_eqb (prefix_len q (take 16 rest)) (length (take 16 rest)) (λ e. omega (arith, e, is, len, length-drop at bytes)) in
    let front : prefix_len q rest ≡ prefix_len q (take 16 rest) = ap (prefix_len q) (sym (take-append-drop 16 rest)) ∙ prefix_len-append q (take 16 rest) (drop 16 rest) ∙ rw ends refl in
    omega (arith, reached, front, is)

-- one that takes in all of the load has reached the place past it
pub run_goes_on : (q : ℕ → Bool) (bytes : List ℕ) (at r : ℕ) → at + 16 ≤ length bytes
    → prefix_len q bytes ≡ at + prefix_len q (drop at bytes) → r ≡ prefix_len q (take 16 (drop at bytes))
    → 16 ≤ r → prefix_len q bytes ≡ at + 16 + prefix_len q (drop (at + 16) bytes)
run_goes_on q bytes at r room reached is long =
    let rest = drop at bytes in
    let len : length (take 16 rest) ≡ 16 = omega (arith, length-take 16 rest, length-drop at bytes) in
    let all = eq-eqb (prefix_len q (take 16 rest)) (length (take 16 rest)) (omega (arith, is, len, prefix_len-le-length q (take 16 rest))) in
    let back : drop 16 rest ≡ drop (at + 16) bytes = drop-drop 16 at bytes in
    let front : prefix_len q rest ≡ 16 + prefix_len q (drop (at + 16) bytes) = ap (prefix_len q) (sym (take-append-drop 16 rest)) ∙ prefix_len-append q (take 16 rest) (drop 16 rest) ∙ rw (all, len, back) refl in
    omega (arith, reached, front)
