-- Paths that go on with one way.
use Rattle.std.proofs.Common.{◌≡◌, ◌<◌, ℕ, zero, suc, ◌+◌, Bool, true, false, cond, List, [], ◌∷◌, ◌++◌, length, get_or, drop, map, take, slice_set, refl, sym, ap, ◌∙◌, arith}
use Rattle.msc_scenarios.specs.declared.path.Path.{Path}
use Rattle.msc_scenarios.specs.Choosing.{behind, gone_on, joined}

take_none : {X : Type 0} (xs : List X) → take 0 xs ≡ []
take_none [] = refl
take_none (x ∷ xs) = refl

-- the next of a list is changed, where those before it are
set_at : {X : Type 0} (f : X → X) (xs : List X) (i : ℕ) (d : X) → i < length xs → slice_set (map f (take i xs) ++ drop i xs) i (f (get_or (map f (take i xs) ++ drop i xs) i d)) ≡ map f (take (suc i) xs) ++ drop (suc i) xs
set_at f [] i d inside = absurd (omega (arith, inside))
set_at f (x ∷ xs) zero d inside = sym (ap (λ l. f x ∷ (map f l ++ drop 0 xs)) (take_none xs))
set_at f (x ∷ xs) (suc i) d inside = ap (λ l. f x ∷ l) (set_at f xs i d (omega (arith, inside)))

pub set_next : {X : Type 0} (f : X → X) (xs : List X) (i : ℕ) (d : X) → i < length xs → slice_set (map f (take i xs) ++ drop i xs) i (f (get_or (map f (take i xs) ++ drop i xs) i d)) ≡ map f (take (i + 1) xs) ++ drop (i + 1) xs
set_next f xs i d inside = let next : suc i ≡ i + 1 = omega arith in set_at f xs i d inside ∙ ap (λ k. map f (take k xs) ++ drop k xs) next

one_by : (w u : Path) (rest : List Path) (b : Bool) → cond b w (joined w u) ∷ rest ≡ cond b (w ∷ []) (joined w u ∷ []) ++ rest
one_by w u rest true = refl
one_by w u rest false = refl

one_behind : (ws : List Path) (u : Path) → map (gone_on u) ws ≡ behind ws (u ∷ [])
one_behind [] u = refl
one_behind (w ∷ ws) u = ap (λ l. gone_on u w ∷ l) (one_behind ws u) ∙ one_by w u (behind ws (u ∷ [])) w.broken

-- where there is one second path, each goes on with it
pub behind_one : (ws vs : List Path) (v : Path) → length vs ≡ 1 → v ≡ get_or vs 0 v → map (gone_on v) ws ≡ behind ws vs
behind_one ws [] v many is = absurd (omega (arith, many))
behind_one ws (u ∷ []) v many is = ap (λ x. map (gone_on x) ws) is ∙ one_behind ws u
behind_one ws (u ∷ w ∷ vs) v many is = absurd (omega (arith, many))
