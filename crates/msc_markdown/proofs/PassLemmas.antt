-- The lines of a text of Markdown, one more.
use Rattle.std.proofs.Common.{◌≡◌, ◌<◌, ◌≤◌, ℕ, ◌+◌, ◌-◌, Bool, true, false, cond, ◌||◌, List, [], ◌∷◌, ◌++◌, length, get_or, map, take, drop, count_by, Option, None, Some, refl, sym, ap, ◌∙◌, arith, append_assoc}
use Rattle.std.specs.List.{list_any}
use Rattle.std.proofs.lemmas.List.Sums.{sum_by-cons}
use Rattle.std.proofs.lemmas.List.{append-nil, drop_more, drop_all, drop-map, take-map, length-map}
use Rattle.msc_mermaid.specs.declared.ahead.Ahead.{Ahead}
use Rattle.msc_mermaid.specs.Aheads.{ahead_behind}
use Rattle.msc_mermaid.specs.declared.part.LinePart.{LinePart}
use Rattle.msc_mermaid.specs.Parts.{Stretch, stretch}
use Rattle.msc_markdown.specs.declared.around.Around.{Around}
use Rattle.msc_markdown.specs.declared.around.BlockKind.{BlockKind}
use Rattle.msc_markdown.specs.declared.closing.Ends.{Ends}
use Rattle.msc_markdown.specs.declared.markdown.Start.{Start}
use Rattle.msc_markdown.specs.declared.markup.Shortcode.TheVariants as shortcodes
use Rattle.msc_markdown.specs.declared.seeking.Sought.TheVariants as sought
use Rattle.msc_markdown.specs.Arounds.{left_by}
use Rattle.msc_markdown.specs.Markdowns.{bytes_in, ends_in, is_sequence, look, number_if, next_line, numbers_from, own_parts, parts_from, start_at, starts_from}
use Rattle.msc_markdown.specs.Seeking.{holds}

-- counting what a view makes of the items of a list
pub count_view : {X Y : Type 0} (p : Y → Bool) (f : X → Y) (xs : List X) → count_by p (map f xs) ≡ count_by (λ x. p (f x)) xs
count_view p f [] = refl
count_view p f (x ∷ xs) =
    sum_by-cons (λ y. cond (p y) 1 0) (f x) (map f xs) ∙ ap (λ n. cond (p (f x)) 1 0 + n) (count_view p f xs)
    ∙ sym (sum_by-cons (λ y. cond (p (f y)) 1 0) x xs)

parts_cons : (n : ℕ) (o : Option Around) (l : List ℕ) (ls : List (List ℕ)) → parts_from n o (l ∷ ls) ≡ (left_by n (ends_in ls) l o).part ∷ parts_from (n + 1) (left_by n (ends_in ls) l o).after ls
unfolding parts_from
parts_cons n o l ls = refl

parts_none : (n : ℕ) (o : Option Around) → parts_from n o [] ≡ []
unfolding parts_from
parts_none n o = refl

starts_cons : (n : ℕ) (o : Option Around) (l : List ℕ) (ls : List (List ℕ)) → starts_from n o (l ∷ ls) ≡ start_at n (left_by n (ends_in ls) l o).start (starts_from (n + 1) (left_by n (ends_in ls) l o).after ls)
unfolding starts_from
starts_cons n o l ls = refl

starts_none : (n : ℕ) (o : Option Around) → starts_from n o [] ≡ []
unfolding starts_from
starts_none n o = refl

start_before : (n : ℕ) (kind : Option BlockKind) (starts : List Start) → start_at n kind starts ≡ start_at n kind [] ++ starts
start_before n None starts = refl
start_before n (Some kind) starts = refl

module _ {X : Type 0} (view : X → List ℕ) (xs : List X) (i : ℕ) (d : X) (inside : i < length xs) where
  -- fewer ends of blocks follow
  count_next : (p : List ℕ → Bool) → count_by p (map view (drop i xs)) ≡ cond (p (view (get_or xs i d))) 1 0 + count_by p (map view (drop (i + 1) xs))
  count_next p =
      ap (λ x. count_by p (map view x)) (drop_more xs i d inside)
      ∙ sum_by-cons (λ y. cond (p y) 1 0) (view (get_or xs i d)) (map view (drop (i + 1) xs))

  pub ends_next : (before after : Ends) → before ≡ ends_in (map view (drop i xs)) → after.angle ≡ before.angle - cond (holds (sought.ShortcodeEnd shortcodes.Angle) (view (get_or xs i d))) 1 0 → after.percent ≡ before.percent - cond (holds (sought.ShortcodeEnd shortcodes.Percent) (view (get_or xs i d))) 1 0 → after ≡ ends_in (map view (drop (i + 1) xs))
  ends_next before after is angle percent =
      let angles = count_next (holds (sought.ShortcodeEnd shortcodes.Angle)) in
      let percents = count_next (holds (sought.ShortcodeEnd shortcodes.Percent)) in
      let first = ap (λ (e : Ends). e.angle) is in
      let second = ap (λ (e : Ends). e.percent) is in
      let a : after.angle ≡ count_by (holds (sought.ShortcodeEnd shortcodes.Angle)) (map view (drop (i + 1) xs)) = omega (arith, angle, first, angles) in
      let b : after.percent ≡ count_by (holds (sought.ShortcodeEnd shortcodes.Percent)) (map view (drop (i + 1) xs)) = omega (arith, percent, second, percents) in
      let one : Ends → ℕ → Ends = λ e x. record { angle = x; percent = e.percent } in
      let two : ℕ → ℕ → Ends = λ x y. record { angle = x; percent = y } in
      ap (one after) a ∙ ap (two (count_by (holds (sought.ShortcodeEnd shortcodes.Angle)) (map view (drop (i + 1) xs)))) b

  module _ (n : ℕ) (o : Option Around) (e : Ends) (is : e ≡ ends_in (map view (drop (i + 1) xs))) (after : Option Around) (behind : after ≡ (left_by n e (view (get_or xs i d)) o).after) where
    pub parts_more : (done next : List Stretch) (part : Stretch) → next ≡ done ++ part ∷ [] → part ≡ (left_by n e (view (get_or xs i d)) o).part → next ++ parts_from (n + 1) after (map view (drop (i + 1) xs)) ≡ done ++ parts_from n o (map view (drop i xs))
    parts_more done next part more same =
        let rest = map view (drop (i + 1) xs) in
        let line = view (get_or xs i d) in
        let left = left_by n (ends_in rest) line o in
        let here = same ∙ ap (λ x. (left_by n x line o).part) is in
        let now = behind ∙ ap (λ x. (left_by n x line o).after) is in
        ap (λ x. next ++ parts_from (n + 1) x rest) now ∙ ap (λ x. x ++ parts_from (n + 1) left.after rest) (more ∙ ap (λ x. done ++ x ∷ []) here)
        ∙ append_assoc done (left.part ∷ []) (parts_from (n + 1) left.after rest)
        ∙ sym (ap (λ x. done ++ x) (parts_cons n o line rest)) ∙ sym (ap (λ x. done ++ parts_from n o (map view x)) (drop_more xs i d inside))

    pub starts_more : (done next : List Start) (start : Option BlockKind) → next ≡ done ++ start_at n start [] → start ≡ (left_by n e (view (get_or xs i d)) o).start → next ++ starts_from (n + 1) after (map view (drop (i + 1) xs)) ≡ done ++ starts_from n o (map view (drop i xs))
    starts_more done next start more same =
        let rest = map view (drop (i + 1) xs) in
        let line = view (get_or xs i d) in
        let left = left_by n (ends_in rest) line o in
        let here = same ∙ ap (λ x. (left_by n x line o).start) is in
        let now = behind ∙ ap (λ x. (left_by n x line o).after) is in
        ap (λ x. next ++ starts_from (n + 1) x rest) now ∙ ap (λ x. x ++ starts_from (n + 1) left.after rest) (more ∙ ap (λ x. done ++ start_at n x []) here)
        ∙ append_assoc done (start_at n left.start []) (starts_from (n + 1) left.after rest)
        ∙ sym (ap (λ x. done ++ x) (start_before n left.start (starts_from (n + 1) left.after rest)))
        ∙ sym (ap (λ x. done ++ x) (starts_cons n o line rest)) ∙ sym (ap (λ x. done ++ starts_from n o (map view x)) (drop_more xs i d inside))

module _ {X : Type 0} (view : X → List ℕ) (xs : List X) (i n : ℕ) (o : Option Around) where
  pub parts_end : (done : List Stretch) → length xs ≤ i → done ++ parts_from n o (map view (drop i xs)) ≡ done
  parts_end done over =
      ap (λ x. done ++ parts_from n o (map view x)) (drop_all i xs over) ∙ ap (λ x. done ++ x) (parts_none n o) ∙ append-nil done

  pub starts_end : (done : List Start) → length xs ≤ i → done ++ starts_from n o (map view (drop i xs)) ≡ done
  starts_end done over =
      ap (λ x. done ++ starts_from n o (map view x)) (drop_all i xs over) ∙ ap (λ x. done ++ x) (starts_none n o) ∙ append-nil done

-- what stands ahead behind one line more
look_cons : (a : Ahead) (l : List ℕ) (ls : List (List ℕ)) → look a (l ∷ ls) ≡ look (ahead_behind l a) ls
unfolding look
look_cons a l ls = refl

look_none : (a : Ahead) → look a [] ≡ a
unfolding look
look_none a = refl

module _ {X : Type 0} (view : X → List ℕ) (xs : List X) (i : ℕ) (a : Ahead) where
  pub look_more : (d : X) → i < length xs → look a (map view (drop i xs)) ≡ look (ahead_behind (view (get_or xs i d)) a) (map view (drop (i + 1) xs))
  look_more d inside =
      ap (λ x. look a (map view x)) (drop_more xs i d inside) ∙ look_cons a (view (get_or xs i d)) (map view (drop (i + 1) xs))

  pub look_end : length xs ≤ i → look a (map view (drop i xs)) ≡ a
  look_end over = ap (λ x. look a (map view x)) (drop_all i xs over) ∙ look_none a

-- the numbers of one block more
numbers_cons : (n : ℕ) (s : Start) (ss : List Start) (parts : List Stretch) → numbers_from n (s ∷ ss) parts ≡ number_if (is_sequence s.kind (bytes_in (own_parts s ss parts))) n (numbers_from (n + 1) ss parts)
unfolding numbers_from
numbers_cons n s ss parts = refl

numbers_none : (n : ℕ) (parts : List Stretch) → numbers_from n [] parts ≡ []
unfolding numbers_from
numbers_none n parts = refl

module _ (ss : List Start) (i n : ℕ) (parts : List Stretch) where
  module _ (d : Start) (inside : i < length ss) where
    numbers_next : numbers_from n (drop i ss) parts ≡ number_if (is_sequence (get_or ss i d).kind (bytes_in (own_parts (get_or ss i d) (drop (i + 1) ss) parts))) n (numbers_from (n + 1) (drop (i + 1) ss) parts)
    numbers_next = ap (λ x. numbers_from n x parts) (drop_more ss i d inside) ∙ numbers_cons n (get_or ss i d) (drop (i + 1) ss) parts

    module _ (done : List ℕ) (own : List Stretch) (others : List Start) (is : Bool) (of_block : own ≡ own_parts (get_or ss i d) others parts) (behind : others ≡ drop (i + 1) ss) (told : is ≡ is_sequence (get_or ss i d).kind (bytes_in own)) where
      block_is : is_sequence (get_or ss i d).kind (bytes_in (own_parts (get_or ss i d) (drop (i + 1) ss) parts)) ≡ is
      block_is =
          sym (told ∙ ap (λ x. is_sequence (get_or ss i d).kind (bytes_in x)) (of_block ∙ ap (λ x. own_parts (get_or ss i d) x parts) behind))

      pub numbers_on : is ≡ true → (done ++ n ∷ []) ++ numbers_from (n + 1) (drop (i + 1) ss) parts ≡ done ++ numbers_from n (drop i ss) parts
      numbers_on so =
          append_assoc done (n ∷ []) (numbers_from (n + 1) (drop (i + 1) ss) parts)
          ∙ sym (ap (λ x. done ++ x) (numbers_next ∙ ap (λ b. number_if b n (numbers_from (n + 1) (drop (i + 1) ss) parts)) (block_is ∙ so)))

      pub numbers_pass : is ≡ false → done ++ numbers_from (n + 1) (drop (i + 1) ss) parts ≡ done ++ numbers_from n (drop i ss) parts
      numbers_pass so =
          sym (ap (λ x. done ++ x) (numbers_next ∙ ap (λ b. number_if b n (numbers_from (n + 1) (drop (i + 1) ss) parts)) (block_is ∙ so)))

  pub numbers_end : (done : List ℕ) → length ss ≤ i → done ++ numbers_from n (drop i ss) parts ≡ done
  numbers_end done over =
      ap (λ x. done ++ numbers_from n x parts) (drop_all i ss over) ∙ ap (λ x. done ++ x) (numbers_none n parts) ∙ append-nil done

-- what belongs to a block, of parts that are seen by a view
pub own_view : {X : Type 0} (view : X → Stretch) (xs found rest : List X) (s : Start) (others : List Start) (past back few : ℕ) → past ≡ next_line others (length xs + 1) → back ≡ s.line - 1 → few ≡ past - s.line → rest ≡ drop back xs → found ≡ take few rest → map view found ≡ own_parts s others (map view xs)
own_view view xs found rest s others past back few a b e f g =
    let size = length-map xs view in
    let same : few ≡ next_line others (length (map view xs) + 1) - s.line = e ∙ ap (λ n. n - s.line) (a ∙ ap (λ n. next_line others (n + 1)) (sym size)) in
    ap (map view) (g ∙ ap (take few) (f ∙ ap (λ n. drop n xs) b)) ∙ sym (take-map view few (drop (s.line - 1) xs))
    ∙ ap (take few) (sym (drop-map view (s.line - 1) xs)) ∙ ap (λ n. take n (drop (s.line - 1) (map view xs))) same

-- the bytes of parts
pub bytes_view : (parts : List LinePart) → bytes_in (map stretch parts) ≡ map (λ p. p.bytes.now) parts
bytes_view [] = refl
bytes_view (p ∷ ps) = ap (λ x. p.bytes.now ∷ x) (bytes_view ps)

-- a test of what a view makes of the items of a list
pub any_view : {X Y : Type 0} (test : Y → Bool) (view : X → Y) (xs : List X) → list_any test (map view xs) ≡ list_any (λ x. test (view x)) xs
any_view test view [] = refl
any_view test view (x ∷ xs) = ap (λ b. test (view x) || b) (any_view test view xs)

-- a test of the bytes of parts
pub any_part : (test : List ℕ → Bool) (parts : List LinePart) → list_any (λ p. test p.bytes.now) parts ≡ list_any test (bytes_in (map stretch parts))
any_part test parts =
    sym (any_view test (λ p. p.bytes.now) parts) ∙ ap (list_any test) (sym (bytes_view parts))
