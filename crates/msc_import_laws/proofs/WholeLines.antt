-- A line is its pieces, and a comment behind them.
use Rattle.std.proofs.Common.{◌≡◌, ℕ, ◌==◌, Bool, true, false, List, [], ◌∷◌, ◌++◌, refl, ap, ◌∙◌, arith, not}
use Rattle.std.proofs.lemmas.Bool.Decides.{nat_tests}
use Rattle.msc_chart.proofs.ListLemmas.{by_test}
use Rattle.msc_mermaid.specs.Cutting.{cut_from, is_entity, is_semicolon}
use Rattle.msc_mermaid.specs.Lines.{led_by}
use Rattle.msc_import_laws.specs.Pieces.{IsComment, rejoined}

-- bytes are these pieces, and a comment
abbrev IsLine : List ℕ → List (List ℕ) → Type 0
IsLine bytes ps = (comment : List ℕ) × (bytes ≡ rejoined ps ++ comment) × IsComment comment

is_35 : (b : ℕ) → (b == 35) ≡ true → b ≡ 35
is_35 b h = grind (arith, nat_tests)

is_59 : (b : ℕ) → (b == 59) ≡ true → b ≡ 59
is_59 b h = grind (arith, nat_tests)

-- a piece more, and a byte more of the first piece
piece_more : (b : ℕ) (bytes : List ℕ) (p : List ℕ) (ps : List (List ℕ)) → b ≡ 59 → IsLine bytes (p ∷ ps) → IsLine (b ∷ bytes) ([] ∷ p ∷ ps)
unfolding rejoined
piece_more b bytes p ps e h = (h.0, ap (λ c. c ∷ bytes) e ∙ ap (λ l. 59 ∷ l) h.1, h.2)

byte_more : (b : ℕ) (bytes : List ℕ) (p : List ℕ) (ps : List (List ℕ)) → IsLine bytes (p ∷ ps) → IsLine (b ∷ bytes) ((b ∷ p) ∷ ps)
unfolding rejoined
byte_more b bytes p [] h = (h.0, ap (λ l. b ∷ l) h.1, h.2)
byte_more b bytes p (q ∷ ps) h = (h.0, ap (λ l. b ∷ l) h.1, h.2)

-- the pieces of bytes, of which there is one at least
record IsCut (bytes : List ℕ) (ps : List (List ℕ)) : Type 0 where
  first : List ℕ
  others : List (List ℕ)
  are : ps ≡ first ∷ others
  line : IsLine bytes (first ∷ others)

cut_more : (b : ℕ) (bytes : List ℕ) (ps : List (List ℕ)) → b ≡ 59 → IsCut bytes ps → IsCut (b ∷ bytes) ([] ∷ ps)
cut_more b bytes ps e c = record { first = []; others = c.first ∷ c.others; are = ap (λ l. [] ∷ l) c.are; line = piece_more b bytes c.first c.others e c.line }

led_more : (b : ℕ) (bytes : List ℕ) (ps : List (List ℕ)) → IsCut bytes ps → IsCut (b ∷ bytes) (led_by (b ∷ []) ps)
led_more b bytes ps c = record { first = b ∷ c.first; others = c.others; are = ap (led_by (b ∷ [])) c.are; line = byte_more b bytes c.first c.others c.line }

cut_end : (b : ℕ) (bytes : List ℕ) → b ≡ 35 → is_entity bytes ≡ false → IsCut (b ∷ bytes) ([] ∷ [])
unfolding rejoined
cut_end b bytes e no_entity = record { first = []; others = []; are = refl; line = (b ∷ bytes, refl, (e, no_entity)) }

pieces : (within : Bool) (bytes : List ℕ) → IsCut bytes (cut_from within bytes)
unfolding cut_from rejoined
pieces within [] = record { first = []; others = []; are = refl; line = ([], refl, tt) }
pieces true (b ∷ bytes) = led_more b bytes (cut_from (not (is_semicolon b)) bytes) (pieces (not (is_semicolon b)) bytes)
pieces false (b ∷ bytes) =
    let plain = pieces false bytes in let entity = pieces true bytes in
    by_test (is_semicolon b)
    (λ h. rw h (cut_more b bytes (cut_from false bytes) (is_59 b h) plain))
    (λ h. by_test (b == 35)
    (λ k. by_test (is_entity bytes)
    (λ l. rw (h, k, l) (led_more b bytes (cut_from true bytes) entity))
    (λ l. rw (h, k, l) (cut_end b bytes (is_35 b k) l)))
    (λ k. rw (h, k) (led_more b bytes (cut_from false bytes) plain)))

pub whole_line : (bytes : List ℕ) → IsLine bytes (cut_from false bytes)
whole_line bytes = let c = pieces false bytes in rw c.are c.line
