-- Pieces of lines, one more.
use Rattle.std.proofs.Common.{◌≡◌, ◌<◌, ◌≤◌, ℕ, ◌+◌, List, [], ◌∷◌, length, get_or, take, drop, map, Option, Result, Ok, inl, inr, ⊎_elim, refl, sym, ap, ◌∙◌, subst}
use Rattle.std.proofs.lemmas.List.{drop_more, drop_all}
use Rattle.msc_mermaid.specs.declared.fault.ImportFault.{ImportFault}
use Rattle.msc_mermaid.specs.declared.progress.Progress.{Progress}
use Rattle.msc_mermaid.specs.declared.statement.Cross.{Cross}
use Rattle.msc_mermaid.specs.Cutting.{room}
use Rattle.msc_mermaid.specs.Gives.{◌>>=◌, Fails}
use Rattle.msc_mermaid.specs.declared.reading.StatementStart.{StatementStart}
use Rattle.msc_mermaid.specs.Lines.{column_behind, further}
use Rattle.msc_mermaid.specs.Mermaid.{read_piece, read_pieces, spot_behind}
use Rattle.msc_mermaid.specs.White.{front}

-- a fault stays
pub bind_fails : {A B : Type 0} (e : ImportFault) (r : Result A ImportFault) (f : A → Result B ImportFault) → Fails e r → Fails e (r >>= f)
bind_fails e r f h = ⊎_elim (λ m. inl m) (λ q. inr (ap (λ x. x >>= f) q)) h

-- where a piece begins
pub spot_is : (start line : ℕ) (bytes : List ℕ) (at column first : ℕ) → column ≡ column_behind (take at bytes) → first ≡ further start at → ◌≡◌ {A = StatementStart} (record { here = record { line = line; column = column }; first = first }) (spot_behind start line bytes at)
spot_is start line bytes at column first c f = rw (c, f) refl

pieces_cons : (cross : Option Cross) (line : ℕ) (bytes : List ℕ) (at : ℕ) (x : List ℕ) (xs : List (List ℕ)) (p : Progress) → read_pieces cross line bytes at (x ∷ xs) p ≡ (read_piece cross bytes (spot_behind p.start line bytes (at + front 0 x)) (drop at bytes) x p >>= (λ q. read_pieces cross line bytes (at + (length x + 1)) xs q))
unfolding read_pieces
pieces_cons cross line bytes at x xs p = refl

pieces_none : (cross : Option Cross) (line : ℕ) (bytes : List ℕ) (at : ℕ) (p : Progress) → read_pieces cross line bytes at [] p ≡ Ok p
unfolding read_pieces
pieces_none cross line bytes at p = refl

-- no piece takes nothing, a piece one byte more than it has
pub room_cons : (p : List ℕ) (ps : List (List ℕ)) → room (p ∷ ps) ≡ length p + 1 + room ps
unfolding room
room_cons p ps = refl

module _ {X : Type 0} (f : X → List ℕ) (qs : List X) (i : ℕ) (d : X) (inside : i < length qs) where
  -- what is left begins with the next piece
  pub next_piece : map f (drop i qs) ≡ f (get_or qs i d) ∷ map f (drop (i + 1) qs)
  next_piece = ap (map f) (drop_more qs i d inside)

  -- the room of what is left
  pub next_room : room (map f (drop i qs)) ≡ length (f (get_or qs i d)) + 1 + room (map f (drop (i + 1) qs))
  next_room = ap room next_piece ∙ room_cons (f (get_or qs i d)) (map f (drop (i + 1) qs))

  module _ (cross : Option Cross) (line : ℕ) (bytes : List ℕ) (at : ℕ) (p : Progress) (spot : StatementStart) (rest : List ℕ) (spot_is : spot ≡ spot_behind p.start line bytes (at + front 0 (f (get_or qs i d)))) (rest_is : rest ≡ drop at bytes) where
    -- the other pieces
    abbrev others : Progress → Result Progress ImportFault
    others q = read_pieces cross line bytes (at + (length (f (get_or qs i d)) + 1)) (map f (drop (i + 1) qs)) q

    -- the next piece is read, and then the others
    read_next : read_pieces cross line bytes at (map f (drop i qs)) p ≡ (read_piece cross bytes spot rest (f (get_or qs i d)) p >>= others)
    read_next =
        ap (λ ps. read_pieces cross line bytes at ps p) next_piece ∙ pieces_cons cross line bytes at (f (get_or qs i d)) (map f (drop (i + 1) qs)) p
        ∙ ap (λ x. read_piece cross bytes x (drop at bytes) (f (get_or qs i d)) p >>= others) (sym spot_is)
        ∙ ap (λ x. read_piece cross bytes spot x (f (get_or qs i d)) p >>= others) (sym rest_is)

    pub reads_next : (next : Progress) → read_piece cross bytes spot rest (f (get_or qs i d)) p ≡ Ok next → read_pieces cross line bytes at (map f (drop i qs)) p ≡ read_pieces cross line bytes (at + (length (f (get_or qs i d)) + 1)) (map f (drop (i + 1) qs)) next
    reads_next next e = read_next ∙ ap (λ x. x >>= others) e

    pub fails_next : (e : ImportFault) → Fails e (read_piece cross bytes spot rest (f (get_or qs i d)) p) → Fails e (read_pieces cross line bytes at (map f (drop i qs)) p)
    fails_next e h = subst (Fails e) (sym read_next) (bind_fails e _ _ h)

-- no piece is left
pub reads_end : {X : Type 0} (f : X → List ℕ) (qs : List X) (i : ℕ) (cross : Option Cross) (line : ℕ) (bytes : List ℕ) (at : ℕ) (p : Progress) → length qs ≤ i → read_pieces cross line bytes at (map f (drop i qs)) p ≡ Ok p
reads_end f qs i cross line bytes at p over =
    ap (λ x. read_pieces cross line bytes at (map f x) p) (drop_all i qs over) ∙ pieces_none cross line bytes at p
