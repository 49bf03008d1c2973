-- How many paths there are: those to the end, and those that a break ends.
use Rattle.std.proofs.Common.{◌≡◌, ℕ, ◌+◌, ◌*◌, Bool, true, false, cond, List, [], ◌∷◌, ◌++◌, length, map, refl, sym, ap, ◌∙◌, arith}
use Rattle.std.proofs.Math.Nat.{add-mul}
use Rattle.msc_scenarios.specs.declared.path.Path.{Path}
use Rattle.msc_scenarios.specs.declared.counting.Paths.{Paths}
use Rattle.msc_scenarios.specs.Counting as counting
use Rattle.msc_scenarios.specs.Counting.{all, capped, plus, times, unbroken}
use Rattle.msc_scenarios.specs.Choosing.{behind, chosen, goes_on, healed, joined}
use Rattle.msc_scenarios.proofs.CapLemmas.{plus_capped, times_capped}

-- how many go to the end
abbrev pub through : List Path → ℕ
through [] = 0
through (w ∷ ws) = cond w.broken 0 1 + through ws

-- how many a break ends
abbrev pub broke : List Path → ℕ
broke [] = 0
broke (w ∷ ws) = cond w.broken 1 0 + broke ws

-- both, as they are counted
abbrev pub tally : List Path → Paths
tally ws = record { through = capped (through ws); broken = capped (broke ws) }

abbrev pub the_paths : ℕ → ℕ → Paths
the_paths m n = record { through = m; broken = n }

pub pair : {a b c d : ℕ} → a ≡ b → c ≡ d → the_paths a c ≡ the_paths b d
pair {a} {b} {c} {d} e f = ap (λ x. the_paths x c) e ∙ ap (the_paths b) f

one_of : (b : Bool) → cond b 0 1 + cond b 1 0 ≡ 1
one_of true = refl
one_of false = refl

-- each path is one of them
pub length_is : (ws : List Path) → length ws ≡ through ws + broke ws
length_is [] = refl
length_is (w ∷ ws) = omega (arith, length_is ws, one_of w.broken)

pub through_append : (ws vs : List Path) → through (ws ++ vs) ≡ through ws + through vs
through_append [] vs = omega arith
through_append (w ∷ ws) vs = omega (arith, through_append ws vs)

pub broke_append : (ws vs : List Path) → broke (ws ++ vs) ≡ broke ws + broke vs
broke_append [] vs = omega arith
broke_append (w ∷ ws) vs = omega (arith, broke_append ws vs)

-- a path that goes on with others
module _ (w : Path) where
  through_joined : (vs : List Path) → through (map (joined w) vs) ≡ through vs
  through_joined [] = refl
  through_joined (v ∷ vs) = ap (λ n. cond v.broken 0 1 + n) (through_joined vs)

  broke_joined : (vs : List Path) → broke (map (joined w) vs) ≡ broke vs
  broke_joined [] = refl
  broke_joined (v ∷ vs) = ap (λ n. cond v.broken 1 0 + n) (broke_joined vs)

  module _ (vs : List Path) where
    through_by : (b : Bool) → w.broken ≡ b → through (cond b (w ∷ []) (map (joined w) vs)) ≡ cond b 0 1 * through vs
    through_by true e = omega (arith, ap {B = ℕ} (λ t. cond t 0 1) e)
    through_by false e = omega (arith, through_joined vs)

    broke_by : (b : Bool) → w.broken ≡ b → broke (cond b (w ∷ []) (map (joined w) vs)) ≡ cond b 1 0 + cond b 0 1 * broke vs
    broke_by true e = omega (arith, ap {B = ℕ} (λ t. cond t 1 0) e)
    broke_by false e = omega (arith, broke_joined vs)

pub through_behind : (ws vs : List Path) → through (behind ws vs) ≡ through ws * through vs
through_behind [] vs = omega arith
through_behind (w ∷ ws) vs =
    let head = through_by w vs w.broken refl in
    through_append (goes_on vs w) (behind ws vs) ∙ ap (λ n. n + through (behind ws vs)) head ∙ ap (λ n. cond w.broken 0 1 * through vs + n) (through_behind ws vs) ∙ sym (add-mul (cond w.broken 0 1) (through ws) (through vs))

pub broke_behind : (ws vs : List Path) → broke (behind ws vs) ≡ broke ws + through ws * broke vs
broke_behind [] vs = omega arith
broke_behind (w ∷ ws) vs =
    omega (arith, broke_append (goes_on vs w) (behind ws vs), broke_by w vs w.broken refl, broke_behind ws vs, add-mul (cond w.broken 0 1) (through ws) (broke vs))

pub tally_behind : (ws vs : List Path) → tally (behind ws vs) ≡ counting.behind (tally ws) (tally vs)
tally_behind ws vs =
    let on = through ws * broke vs in
    let ended = plus_capped (broke ws) on in
    pair (ap capped (through_behind ws vs) ∙ sym (times_capped (through ws) (through vs))) (ap capped (broke_behind ws vs) ∙ sym ended ∙ ap (plus (capped (broke ws))) (sym (times_capped (through ws) (broke vs))))

-- all of them
pub all_tally : (ws : List Path) → all (tally ws) ≡ capped (length ws)
all_tally ws = plus_capped (through ws) (broke ws) ∙ ap capped (sym (length_is ws))

-- paths none of which a break ends
pub tally_whole : (ws : List Path) → broke ws ≡ 0 → tally ws ≡ unbroken (capped (length ws))
tally_whole ws none =
    let all_through : through ws ≡ length ws = omega (arith, length_is ws, none) in
    pair (ap capped all_through) (ap capped none)

module _ (c : ℕ) where
  pub chosen_whole : (ws : List Path) → broke (chosen c false ws) ≡ 0
  chosen_whole [] = refl
  chosen_whole (w ∷ ws) = omega (arith, chosen_whole ws)

  pub chosen_ended : (ws : List Path) → through (chosen c true ws) ≡ 0
  chosen_ended [] = refl
  chosen_ended (w ∷ ws) = omega (arith, chosen_ended ws)

  pub length_chosen : (b : Bool) (ws : List Path) → length (chosen c b ws) ≡ length ws
  length_chosen b [] = refl
  length_chosen b (w ∷ ws) = omega (arith, length_chosen b ws)

pub healed_whole : (ws : List Path) → broke (healed ws) ≡ 0
healed_whole [] = refl
healed_whole (w ∷ ws) = omega (arith, healed_whole ws)

pub length_healed : (ws : List Path) → length (healed ws) ≡ length ws
length_healed [] = refl
length_healed (w ∷ ws) = omega (arith, length_healed ws)
