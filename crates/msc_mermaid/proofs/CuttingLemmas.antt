-- Cutting a line into pieces, byte by byte.
use Rattle.std.proofs.Common.{◌≡◌, ◌≤◌, ◌<◌, ℕ, ◌+◌, Bool, false, List, [], ◌∷◌, ◌++◌, length, get_or, drop, refl, sym, ap, ◌∙◌, arith, append_assoc}
use Rattle.std.proofs.lemmas.List.{append-nil, drop_more, drop_all}
use Rattle.msc_mermaid.specs.declared.cutting.Turn.{Turn}
use Rattle.msc_mermaid.specs.declared.cutting.Turn.TheVariants as turns
use Rattle.msc_mermaid.specs.Lines.{led_by}
use Rattle.msc_mermaid.specs.Cutting.{bare_from, bare_step, cut, cut_by, cut_from, leaves_open, open_step, room, turn_at}
use Rattle.msc_mermaid.proofs.LineLemmas.{part, led_twice, part_more, part_none}

-- The bytes are cut up to byte i: the pieces that are there, the piece that begins at start and goes on, and
-- the pieces of what is left are those of the bytes.
pub record AreCutUp (bytes : List ℕ) (pieces : List (List ℕ)) (start : ℕ) (within : Bool) (i : ℕ) : Type 0 where
  pub ordered : start ≤ i
  pub told : pieces ++ led_by (part bytes start i) (cut_from within (drop i bytes)) ≡ cut_from false bytes

cut_cons : (within : Bool) (b : ℕ) (bs : List ℕ) (t : Turn) → turn_at within b bs ≡ t → cut_from within (b ∷ bs) ≡ cut_by t b (λ w. cut_from w bs)
unfolding cut_from
cut_cons within b bs t e = ap (λ x. cut_by x b (λ w. cut_from w bs)) e

cut_nothing : (within : Bool) → cut_from within [] ≡ [] ∷ []
unfolding cut_from
cut_nothing within = refl

-- nothing in front of what a byte leaves
led_by_none : (t : Turn) (b : ℕ) (more : Bool → List (List ℕ)) → led_by [] (cut_by t b more) ≡ cut_by t b more
led_by_none turns.End b more = refl
led_by_none turns.Cut b more = refl
led_by_none (turns.On w) b more = led_twice [] (b ∷ []) (more w)

-- nothing in front
led_cut : (within : Bool) (bs : List ℕ) → led_by [] (cut_from within bs) ≡ cut_from within bs
led_cut within [] = ap (led_by []) (cut_nothing within) ∙ sym (cut_nothing within)
led_cut within (b ∷ bs) =
    let here = cut_cons within b bs (turn_at within b bs) refl in
    ap (led_by []) here ∙ led_by_none (turn_at within b bs) b (λ w. cut_from w bs) ∙ sym here

-- nothing is cut yet
pub cut_start : (bytes : List ℕ) → AreCutUp bytes [] 0 false 0
cut_start bytes = record { ordered = omega arith; told = led_cut false bytes }

module _ (bytes : List ℕ) (pieces : List (List ℕ)) (start : ℕ) (within : Bool) (i : ℕ) (so_far : AreCutUp bytes pieces start within i) where
  module _ (inside : i < length bytes) (t : Turn) (is : turn_at within (get_or bytes i 0) (drop (i + 1) bytes) ≡ t) where
    -- the pieces of what is left
    left : cut_from within (drop i bytes) ≡ cut_by t (get_or bytes i 0) (λ w. cut_from w (drop (i + 1) bytes))
    left = ap (cut_from within) (drop_more bytes i 0 inside) ∙ cut_cons within (get_or bytes i 0) (drop (i + 1) bytes) t is

    told_by : pieces ++ led_by (part bytes start i) (cut_by t (get_or bytes i 0) (λ w. cut_from w (drop (i + 1) bytes))) ≡ cut_from false bytes
    told_by = ap (λ x. pieces ++ led_by (part bytes start i) x) (sym left) ∙ so_far.told

    -- the line ends
    pub cut_ends : t ≡ turns.End → pieces ++ part bytes start i ∷ [] ≡ cut_from false bytes
    cut_ends e =
        let last : (part bytes start i ++ []) ∷ [] ≡ part bytes start i ∷ [] = ap (λ x. x ∷ []) (append-nil (part bytes start i)) in
        ap (λ x. pieces ++ x) (sym last) ∙ ap (λ x. pieces ++ led_by (part bytes start i) (cut_by x (get_or bytes i 0) (λ w. cut_from w (drop (i + 1) bytes)))) (sym e) ∙ told_by

    -- a piece ends
    pub cut_here : t ≡ turns.Cut → AreCutUp bytes (pieces ++ part bytes start i ∷ []) (i + 1) false (i + 1)
    cut_here e =
        let mid = part bytes start i in let rest = cut_from false (drop (i + 1) bytes) in
        let plain : (mid ++ []) ∷ rest ≡ mid ∷ rest = ap (λ x. x ∷ rest) (append-nil mid) in
        record {
          ordered = omega arith;
          told = ap (λ x. (pieces ++ mid ∷ []) ++ led_by x rest) (part_none bytes (i + 1)) ∙ ap (λ x. (pieces ++ mid ∷ []) ++ x) (led_cut false (drop (i + 1) bytes)) ∙ append_assoc pieces (mid ∷ []) rest ∙ ap (λ x. pieces ++ x) (sym plain)
              ∙ ap (λ x. pieces ++ led_by mid (cut_by x (get_or bytes i 0) (λ w. cut_from w (drop (i + 1) bytes)))) (sym e) ∙ told_by;
        }

    -- a piece goes on
    pub cut_past : (next : Bool) → t ≡ turns.On next → AreCutUp bytes pieces start next (i + 1)
    cut_past next e =
        let b = get_or bytes i 0 in let rest = cut_from next (drop (i + 1) bytes) in
        record {
          ordered = omega (arith, so_far.ordered);
          told = ap (λ x. pieces ++ led_by x rest) (part_more bytes start i so_far.ordered inside) ∙ ap (λ x. pieces ++ x) (sym (led_twice (part bytes start i) (b ∷ []) rest)) ∙ ap (λ x. pieces ++ led_by (part bytes start i) (cut_by x b (λ w. cut_from w (drop (i + 1) bytes)))) (sym e) ∙ told_by;
        }

  -- all is cut: the last piece is what is left
  pub cut_whole : length bytes ≤ i → i ≤ length bytes → pieces ++ part bytes start (length bytes) ∷ [] ≡ cut_from false bytes
  cut_whole over low =
      let whole : i ≡ length bytes = omega (arith, over, low) in
      let mid = ap (part bytes start) whole in
      let none = ap (cut_from within) (drop_all i bytes over) ∙ cut_nothing within in
      let last : led_by (part bytes start i) (cut_from within (drop i bytes)) ≡ part bytes start (length bytes) ∷ [] = ap (led_by (part bytes start i)) none ∙ ap (λ x. x ∷ []) (append-nil (part bytes start i) ∙ mid) in
      sym (ap (λ x. pieces ++ x) last) ∙ so_far.told

-- a byte in front of the first piece
room_led : (b : ℕ) (ps : List (List ℕ)) → 1 ≤ room ps → room (led_by (b ∷ []) ps) ≡ 1 + room ps
unfolding room
room_led b [] some = absurd (omega (arith, some))
room_led b (p ∷ ps) some = omega arith

-- one byte takes the room of one byte, at most
room_by : (t : Turn) (b : ℕ) (more : Bool → List (List ℕ)) (n : ℕ) → ((w : Bool) → (1 ≤ room (more w)) × (room (more w) ≤ n + 1)) → (1 ≤ room (cut_by t b more)) × (room (cut_by t b more) ≤ n + 2)
unfolding room
room_by turns.End b more n low = (omega arith, omega arith)
room_by turns.Cut b more n low = let h = low false in (omega arith, omega (arith, h.1))
room_by (turns.On w) b more n low =
    let h = low w in let e = room_led b (more w) h.0 in (omega (arith, e), omega (arith, e, h.1))

-- the pieces of a line take its bytes, and one more
rooms : (bs : List ℕ) (within : Bool) → (1 ≤ room (cut_from within bs)) × (room (cut_from within bs) ≤ length bs + 1)
unfolding room
rooms [] within = let e = ap room (cut_nothing within) in (omega (arith, e), omega (arith, e))
rooms (b ∷ bs) within =
    let t = turn_at within b bs in let e = ap room (cut_cons within b bs t refl) in
    let h = room_by t b (λ w. cut_from w bs) (length bs) (λ w. rooms bs w) in (omega (arith, e, h.0), omega (arith, e, h.1))

pub room_cut : (bs : List ℕ) → room (cut bs) ≤ length bs + 1
room_cut bs = (rooms bs false).1

module _ (bytes : List ℕ) (i : ℕ) where
  open_cons : (was : Bool) (b : ℕ) (bs : List ℕ) → leaves_open was (b ∷ bs) ≡ leaves_open (open_step was (b ∷ bs)) bs
  unfolding leaves_open
  open_cons was b bs = refl

  open_nothing : (was : Bool) → leaves_open was [] ≡ was
  unfolding leaves_open
  open_nothing was = refl

  -- one byte more
  pub open_more : (was : Bool) → i < length bytes → leaves_open was (drop i bytes) ≡ leaves_open (open_step was (drop i bytes)) (drop (i + 1) bytes)
  open_more was inside =
      let at = drop_more bytes i 0 inside in
      ap (leaves_open was) at ∙ open_cons was (get_or bytes i 0) (drop (i + 1) bytes) ∙ sym (ap (λ x. leaves_open (open_step was x) (drop (i + 1) bytes)) at)

  -- no byte is left
  pub open_end : (was : Bool) → length bytes ≤ i → leaves_open was (drop i bytes) ≡ was
  open_end was over = ap (leaves_open was) (drop_all i bytes over) ∙ open_nothing was

module _ (bytes : List ℕ) (i : ℕ) (within : Bool) where
  bare_cons : (b : ℕ) (bs : List ℕ) → bare_from within (b ∷ bs) ≡ (bare_step within b bs).0 ∷ bare_from (bare_step within b bs).1 bs
  unfolding bare_from
  bare_cons b bs = refl

  bare_nothing : bare_from within [] ≡ []
  unfolding bare_from
  bare_nothing = refl

  -- one byte more
  pub bare_more : (byte : ℕ) (next : Bool) → i < length bytes → bare_step within (get_or bytes i 0) (drop (i + 1) bytes) ≡ (byte, next) → bare_from within (drop i bytes) ≡ byte ∷ bare_from next (drop (i + 1) bytes)
  bare_more byte next inside e =
      ap (bare_from within) (drop_more bytes i 0 inside) ∙ bare_cons (get_or bytes i 0) (drop (i + 1) bytes) ∙ ap (λ s. s.0 ∷ bare_from s.1 (drop (i + 1) bytes)) e

  -- no byte is left
  pub bare_end : length bytes ≤ i → bare_from within (drop i bytes) ≡ []
  bare_end over = ap (bare_from within) (drop_all i bytes over) ∙ bare_nothing
