-- Texts in parts, one byte more.
use Rattle.std.proofs.Common.{◌≡◌, ◌<◌, ◌≤◌, ℕ, ◌+◌, ◌-◌, Bool, true, false, cond, List, [], ◌∷◌, ◌++◌, length, get_or, map, suc, take, drop, slice_range, refl, ap, sym, ◌∙◌, arith}
use Rattle.std.specs.Borrow.{Bor}
use Rattle.std.proofs.Math.Seq.{take-suc}
use Rattle.std.proofs.lemmas.List.{append-nil, append_assoc, at_drop_more, drop_all, get_or-drop, length-drop, map-append}
use Rattle.msc_arrow_marks.specs.Parts.{open_length, parts_from, quoted_after, separates}

open_length_cons : (separator : ℕ) (quoted : Bool) (b : ℕ) (bs : List ℕ) → open_length separator quoted (b ∷ bs) ≡ cond (separates separator quoted b) 0 (1 + open_length separator (quoted_after quoted b) bs)
unfolding open_length
open_length_cons separator quoted b bs = refl

open_length_nothing : (separator : ℕ) (quoted : Bool) → open_length separator quoted [] ≡ 0
unfolding open_length
open_length_nothing separator quoted = refl

module _ (separator : ℕ) (quoted : Bool) (bytes : List ℕ) (i : ℕ) where
  module _ (inside : i < length bytes) where
    next : open_length separator quoted (drop i bytes) ≡ cond (separates separator quoted (get_or bytes i 0)) 0 (1 + open_length separator (quoted_after quoted (get_or bytes i 0)) (drop (i + 1) bytes))
    next = at_drop_more (open_length separator quoted) bytes i 0 inside ∙ open_length_cons separator quoted (get_or bytes i 0) (drop (i + 1) bytes)

    -- a separator stands here
    pub open_length_ends : separates separator quoted (get_or bytes i 0) ≡ true → open_length separator quoted (drop i bytes) ≡ 0
    open_length_ends here = next ∙ ap (λ t. cond t 0 (1 + open_length separator (quoted_after quoted (get_or bytes i 0)) (drop (i + 1) bytes))) here

    -- another byte stands here
    pub open_length_goes_on : separates separator quoted (get_or bytes i 0) ≡ false → open_length separator quoted (drop i bytes) ≡ 1 + open_length separator (quoted_after quoted (get_or bytes i 0)) (drop (i + 1) bytes)
    open_length_goes_on other = next ∙ ap (λ t. cond t 0 (1 + open_length separator (quoted_after quoted (get_or bytes i 0)) (drop (i + 1) bytes))) other

  -- no byte is left
  pub open_length_over : length bytes ≤ i → open_length separator quoted (drop i bytes) ≡ 0
  open_length_over over = ap (open_length separator quoted) (drop_all i bytes over) ∙ open_length_nothing separator quoted

parts_from_nothing : (separator : ℕ) (quoted : Bool) (part : List ℕ) → parts_from separator quoted part [] ≡ part ∷ []
unfolding parts_from
parts_from_nothing separator quoted part = refl

parts_from_cons : (separator : ℕ) (quoted : Bool) (part : List ℕ) (b : ℕ) (bs : List ℕ) → parts_from separator quoted part (b ∷ bs) ≡ cond (separates separator quoted b) (part ∷ parts_from separator (quoted_after quoted b) [] bs) (parts_from separator (quoted_after quoted b) (part ++ b ∷ []) bs)
unfolding parts_from
parts_from_cons separator quoted part b bs = refl

-- one byte more of a part
part_more : (bytes : List ℕ) (start i : ℕ) → start ≤ i → i < length bytes → slice_range bytes start i ++ get_or bytes i 0 ∷ [] ≡ slice_range bytes start (i + 1)
part_more bytes start i within inside =
    let at : start + (i - start) ≡ i = omega (arith, within) in
    let here : get_or (drop start bytes) (i - start) 0 ≡ get_or bytes i 0 = get_or-drop start bytes (i - start) 0 ∙ ap (λ n. get_or bytes n 0) at in
    let count : i + 1 - start ≡ suc (i - start) = omega (arith, within) in
    let long : i - start < length (drop start bytes) = omega (arith, within, inside, length-drop start bytes) in
    sym (ap (λ n. take n (drop start bytes)) count ∙ take-suc (drop start bytes) (i - start) 0 long ∙ ap (λ b. take (i - start) (drop start bytes) ++ b ∷ []) here)

-- a part that begins
part_none : (bytes : List ℕ) (i : ℕ) → slice_range bytes i i ≡ []
part_none bytes i =
    let none : i - i ≡ 0 = omega arith in
    ap (λ n. take n (drop i bytes)) none

abbrev pub now : List (Bor (List ℕ)) → List (List ℕ)
now parts = map (λ (part : Bor (List ℕ)). part.now) parts

-- the parts that were met, and those that follow: the next one began at `start`
abbrev pub parts_on : ℕ → List ℕ → List (Bor (List ℕ)) → Bool → ℕ → ℕ → List (List ℕ)
parts_on separator bytes parts quoted start i = map (λ (part : Bor (List ℕ)). part.now) parts ++ parts_from separator quoted (slice_range bytes start i) (drop i bytes)

-- one part more was met
met : (parts : List (Bor (List ℕ))) (part : Bor (List ℕ)) (more : List (List ℕ)) → now parts ++ part.now ∷ more ≡ now (parts ++ part ∷ []) ++ more
met parts part more = sym (ap (λ t. t ++ more) (map-append (λ (part : Bor (List ℕ)). part.now) parts (part ∷ [])) ∙ append_assoc (now parts) (part.now ∷ []) more)

module _ (separator : ℕ) (bytes : List ℕ) (parts : List (Bor (List ℕ))) (quoted : Bool) (start i : ℕ) where
  module _ (inside : i < length bytes) where
    abbrev ended : List (List ℕ)
    ended = slice_range bytes start i ∷ parts_from separator (quoted_after quoted (get_or bytes i 0)) [] (drop (i + 1) bytes)

    abbrev gone_on : List (List ℕ)
    gone_on = parts_from separator (quoted_after quoted (get_or bytes i 0)) (slice_range bytes start i ++ get_or bytes i 0 ∷ []) (drop (i + 1) bytes)

    on : parts_from separator quoted (slice_range bytes start i) (drop i bytes) ≡ cond (separates separator quoted (get_or bytes i 0)) ended gone_on
    on = at_drop_more (parts_from separator quoted (slice_range bytes start i)) bytes i 0 inside ∙ parts_from_cons separator quoted (slice_range bytes start i) (get_or bytes i 0) (drop (i + 1) bytes)

    -- a separator ends the part
    parts_end : (part : Bor (List ℕ)) → part.now ≡ slice_range bytes start i → separates separator quoted (get_or bytes i 0) ≡ true → parts_on separator bytes parts quoted start i ≡ parts_on separator bytes (parts ++ part ∷ []) (quoted_after quoted (get_or bytes i 0)) (i + 1) (i + 1)
    parts_end part is here =
        let more = parts_from separator (quoted_after quoted (get_or bytes i 0)) [] (drop (i + 1) bytes) in
        ap (λ t. now parts ++ t) (on ∙ ap (λ t. cond t ended gone_on) here ∙ ap (λ t. t ∷ more) (sym is))
        ∙ met parts part more
        ∙ ap (λ t. now (parts ++ part ∷ []) ++ parts_from separator (quoted_after quoted (get_or bytes i 0)) t (drop (i + 1) bytes)) (sym (part_none bytes (i + 1)))

    -- the part goes on
    parts_go_on : start ≤ i → separates separator quoted (get_or bytes i 0) ≡ false → parts_on separator bytes parts quoted start i ≡ parts_on separator bytes parts (quoted_after quoted (get_or bytes i 0)) start (i + 1)
    parts_go_on within other =
        ap (λ t. now parts ++ t) (on ∙ ap (λ t. cond t ended gone_on) other
        ∙ ap (λ t. parts_from separator (quoted_after quoted (get_or bytes i 0)) t (drop (i + 1) bytes)) (part_more bytes start i within inside))

    module _ (parts' : List (Bor (List ℕ))) (quoted' : Bool) (start' : ℕ) (behind : quoted' ≡ quoted_after quoted (get_or bytes i 0)) where
      -- the same, behind a separator
      pub parts_met : (part : Bor (List ℕ)) → parts' ≡ parts ++ part ∷ [] → part.now ≡ slice_range bytes start i → start' ≡ i + 1 → separates separator quoted (get_or bytes i 0) ≡ true → parts_on separator bytes parts' quoted' start' (i + 1) ≡ parts_on separator bytes parts quoted start i
      parts_met part more is begun here =
          ap (λ t. parts_on separator bytes t quoted' start' (i + 1)) more
          ∙ ap (λ q. parts_on separator bytes (parts ++ part ∷ []) q start' (i + 1)) behind
          ∙ ap (λ n. parts_on separator bytes (parts ++ part ∷ []) (quoted_after quoted (get_or bytes i 0)) n (i + 1)) begun
          ∙ sym (parts_end part is here)

      -- the same, behind another byte
      pub parts_same : parts' ≡ parts → start' ≡ start → start ≤ i → separates separator quoted (get_or bytes i 0) ≡ false → parts_on separator bytes parts' quoted' start' (i + 1) ≡ parts_on separator bytes parts quoted start i
      parts_same same begun within other =
          ap (λ t. parts_on separator bytes t quoted' start' (i + 1)) same
          ∙ ap (λ q. parts_on separator bytes parts q start' (i + 1)) behind
          ∙ ap (λ n. parts_on separator bytes parts (quoted_after quoted (get_or bytes i 0)) n (i + 1)) begun
          ∙ sym (parts_go_on within other)

  -- the last part ends with the text
  pub parts_over : (part : Bor (List ℕ)) → part.now ≡ slice_range bytes start i → length bytes ≤ i → parts_on separator bytes parts quoted start i ≡ now (parts ++ part ∷ [])
  parts_over part is over =
      ap (λ t. now parts ++ t) (ap (parts_from separator quoted (slice_range bytes start i)) (drop_all i bytes over) ∙ parts_from_nothing separator quoted (slice_range bytes start i) ∙ ap (λ t. t ∷ []) (sym is))
      ∙ met parts part [] ∙ append-nil (now (parts ++ part ∷ []))
