-- The numbers of arrows name the arrows of a draft's events.
use Rattle.std.proofs.Common.{◌≡◌, ℕ, zero, suc, ◌+◌, List, [], ◌∷◌, ◌++◌, ◌<◌, get_or, length, map, replicate, slice_get, take, Option, Some, Result, Ok, Err, refl, sym, ap, ◌∙◌, subst, arith}
use Rattle.std.specs.List.{flat_map, range_with_len}
use Rattle.std.specs.Prelude.{option_map}
use Rattle.std.proofs.lemmas.List.{append-nil, append_assoc, length-map, length-take-le, length_push, map-append, take_more}
use Rattle.std.proofs.lemmas.Simd.{map-map}
use Rattle.msc_mermaid.specs.declared.fault.ImportFault.{ImportFault}
use Rattle.msc_mermaid.specs.Gives.{◌>>=◌}
use Rattle.msc_place.specs.declared.position.Position.{Position}
use Rattle.msc_scenarios.specs.declared.steps.Message.{Message}
use Rattle.msc_scenarios.specs.declared.steps.Step.{Step}
use Rattle.msc_scenarios.specs.declared.steps.Step.TheVariants as steps
use Rattle.msc_scenarios.specs.Steps.{Walk, unended}
use Rattle.msc_import.specs.declared.plan.Manner.{Manner}
use Rattle.msc_import.specs.declared.plan.Own.{Own}
use Rattle.msc_import.specs.declared.plan.Side.{Side}
use Rattle.msc_import.specs.Laws.{ends_on}
use Rattle.msc_import.specs.Numbering.{NumbersNameTheArrows, arrow_numbers, arrows_of, numbers_from, numbers_on_lines, start_of_arrow, walk_numbers}
use Rattle.msc_import.specs.Places.{place_of, places, places_in, walk_places}
use Rattle.msc_import.specs.Plans.{Event, Plan, plans_of, sides_on, unplanned}
use Rattle.msc_import.proofs.OrderLemmas.{ends_of, plan_events}
use Rattle.msc_import.proofs.TogetherLemmas.{Steps_by, together}

module _ (own : Own) (line : ℕ) where
  -- the numbers of one arrow more
  pub numbers_more : (n : ℕ) (ms : List Message) (m : Message) → numbers_from own line n (ms ++ m ∷ []) ≡ numbers_from own line n ms ++ replicate (length (sides_on own line m)) (n + length ms)
  unfolding numbers_from
  numbers_more n [] m =
      let at : n ≡ n + 0 = omega arith in
      append-nil (replicate (length (sides_on own line m)) n) ∙ ap (replicate (length (sides_on own line m))) at
  numbers_more n (x ∷ ms) m =
      let at : (n + 1) + length ms ≡ n + suc (length ms) = omega arith in
      let first = replicate (length (sides_on own line x)) n in
      ap (λ l. first ++ l) (numbers_more (n + 1) ms m)
      ∙ ap (λ k. first ++ (numbers_from own line (n + 1) ms ++ replicate (length (sides_on own line m)) k)) at
      ∙ sym (append_assoc first (numbers_from own line (n + 1) ms) (replicate (length (sides_on own line m)) (n + suc (length ms))))

  -- those of the first so many arrows, and of one more
  pub numbers_taken : {X : Type 0} (now : X → Message) (xs : List X) (i : ℕ) (d : X) → i < length xs
      → numbers_from own line 0 (map now (take (i + 1) xs)) ≡ numbers_from own line 0 (map now (take i xs)) ++ replicate (length (sides_on own line (now (get_or xs i d)))) i
  numbers_taken now xs i d inside =
      let front = map now (take i xs) in
      let many : 0 + length front ≡ i = omega (arith, length-map (take i xs) now, length-take-le i xs (omega (arith, inside))) in
      ap (λ l. numbers_from own line 0 (map now l)) (take_more xs i d inside)
      ∙ ap (numbers_from own line 0) (map-append now (take i xs) (get_or xs i d ∷ []))
      ∙ numbers_more 0 front (now (get_or xs i d))
      ∙ ap (λ k. numbers_from own line 0 front ++ replicate (length (sides_on own line (now (get_or xs i d)))) k) many

  -- the ends of an arrow on the line, each with its arrow
  ends_met : (m : Message) (ss : List Side) → replicate (length ss) (Some m) ≡ map (λ e. Some e.message) (ends_of m ss)
  ends_met m [] = refl
  ends_met m (s ∷ ss) = ap (λ l. Some m ∷ l) (ends_met m ss)

  ends_all : List Message → List Event
  ends_all ms = flat_map (λ m. ends_of m (sides_on own line m)) ms

  -- the ends of a path are those of its arrows
  ends_arrows : (ss : List Step) → flat_map (ends_on own line) ss ≡ flat_map (λ m. ends_of m (sides_on own line m)) (arrows_of ss)
  ends_arrows [] = refl
  ends_arrows (steps.Meets m ∷ ss) = ap (λ l. ends_of m (sides_on own line m) ++ l) (ends_arrows ss)
  ends_arrows (steps.Opens text ∷ ss) = ends_arrows ss
  ends_arrows (steps.Next ∷ ss) = ends_arrows ss
  ends_arrows (steps.Closes ∷ ss) = ends_arrows ss

-- what stands behind others has their number
get_seam : (front : List Message) (m : Message) (ms : List Message) → slice_get (front ++ m ∷ ms) (length front) ≡ Some m
get_seam [] m ms = refl
get_seam (x ∷ front) m ms = get_seam front m ms

map_same : (f : ℕ → Option Message) (k n : ℕ) → map f (replicate k n) ≡ replicate k (f n)
map_same f zero n = refl
map_same f (suc k) n = ap (λ l. f n ∷ l) (map_same f k n)

module _ (own : Own) (line : ℕ) where
  -- the numbers on a line name the arrows of its ends
  line_named : (front ms : List Message) → map (slice_get (front ++ ms)) (numbers_from own line (length front) ms) ≡ map (λ e. Some e.message) (flat_map (λ m. ends_of m (sides_on own line m)) ms)
  unfolding numbers_from
  line_named front [] = refl
  line_named front (m ∷ ms) =
      let all = front ++ m ∷ ms in
      let ends = ends_of m (sides_on own line m) in
      let rest = flat_map (λ m. ends_of m (sides_on own line m)) ms in
      let many = length (sides_on own line m) in
      let here : map (slice_get all) (replicate many (length front)) ≡ map (λ e. Some e.message) ends =
      map_same (slice_get all) many (length front) ∙ ap (replicate many) (get_seam front m ms) ∙ ends_met own line m (sides_on own line m) in
      let same : (front ++ m ∷ []) ++ ms ≡ all = append_assoc front (m ∷ []) ms in
      let behind : map (slice_get all) (numbers_from own line (length front + 1) ms) ≡ map (λ e. Some e.message) rest =
      ap (λ k. map (slice_get all) (numbers_from own line k ms)) (sym (length_push front m))
      ∙ subst (λ l. map (slice_get l) (numbers_from own line (length (front ++ m ∷ [])) ms) ≡ map (λ e. Some e.message) rest) same (line_named (front ++ m ∷ []) ms) in
      map-append (slice_get all) (replicate many (length front)) (numbers_from own line (length front + 1) ms)
      ∙ ap (λ l. l ++ map (slice_get all) (numbers_from own line (length front + 1) ms)) here
      ∙ ap (λ l. map (λ e. Some e.message) ends ++ l) behind
      ∙ sym (map-append (λ e. Some e.message) ends rest)

module _ (manner : Manner) (ss : List Step) where
  abbrev named : ℕ → List (Option Message)
  named line = map (slice_get (arrows_of ss)) (numbers_from manner.own line 0 (arrows_of ss))

  -- on each line, from this one on
  lines_named : (n line : ℕ) (ps : List Plan) → Steps_by manner ss line (replicate n unplanned) ps
      → map (slice_get (arrows_of ss)) (flat_map (λ l. numbers_from manner.own l 0 (arrows_of ss)) (range_with_len line n)) ≡ map (λ e. Some e.message) (flat_map (λ p. p.events) ps)
  unfolding Steps_by
  lines_named zero line ps e = ap (λ qs. map (λ e. Some e.message) (flat_map (λ p. p.events) qs)) (sym e)
  lines_named (suc n) line [] e = absurd e
  lines_named (suc n) line (p ∷ ps) e =
      let numbers = numbers_from manner.own line 0 (arrows_of ss) in
      let others = flat_map (λ l. numbers_from manner.own l 0 (arrows_of ss)) (range_with_len (line + 1) n) in
      let events : p.events ≡ flat_map (λ m. ends_of m (sides_on manner.own line m)) (arrows_of ss) =
      plan_events manner line ss p e.0 ∙ ends_arrows manner.own line ss in
      let here : map (slice_get (arrows_of ss)) numbers ≡ map (λ e. Some e.message) p.events =
      line_named manner.own line [] (arrows_of ss) ∙ ap (map (λ e. Some e.message)) (sym events) in
      map-append (slice_get (arrows_of ss)) numbers others
      ∙ ap (λ l. l ++ map (slice_get (arrows_of ss)) others) here
      ∙ ap (λ l. map (λ e. Some e.message) p.events ++ l) (lines_named n (line + 1) ps e.1)
      ∙ sym (map-append (λ e. Some e.message) p.events (flat_map (λ p. p.events) ps))

  pub plans_named : (lines : ℕ) (plans : List Plan) → plans_of manner ss lines ≡ Ok plans
      → map (slice_get (arrows_of ss)) (numbers_on_lines manner.own lines (arrows_of ss)) ≡ map (λ e. Some e.message) (flat_map (λ p. p.events) plans)
  plans_named lines plans e = lines_named lines 0 plans (together manner ss (replicate lines unplanned) plans e)

-- the numbers of one line more
line_behind : (own : Own) (ms : List Message) (a n : ℕ) → flat_map (λ line. numbers_from own line 0 ms) (range_with_len a (suc n)) ≡ flat_map (λ line. numbers_from own line 0 ms) (range_with_len a n) ++ numbers_from own (a + n) 0 ms
line_behind own ms a zero =
    let at : a ≡ a + 0 = omega arith in
    append-nil (numbers_from own a 0 ms) ∙ ap (λ line. numbers_from own line 0 ms) at
line_behind own ms a (suc n) =
    let at : (a + 1) + n ≡ a + suc n = omega arith in
    let first = numbers_from own a 0 ms in
    let middle = flat_map (λ line. numbers_from own line 0 ms) (range_with_len (a + 1) n) in
    ap (λ l. first ++ l) (line_behind own ms (a + 1) n)
    ∙ ap (λ k. first ++ (middle ++ numbers_from own k 0 ms)) at
    ∙ sym (append_assoc first middle (numbers_from own (a + suc n) 0 ms))

pub lines_more : (own : Own) (ms : List Message) (n : ℕ) → numbers_on_lines own (n + 1) ms ≡ numbers_on_lines own n ms ++ numbers_from own n 0 ms
lines_more own ms n =
    let more : n + 1 ≡ suc n = omega arith in
    ap (λ k. numbers_on_lines own k ms) more ∙ line_behind own ms 0 n
    ∙ ap (λ line. numbers_on_lines own n ms ++ numbers_from own line 0 ms) (omega arith)

-- the positions of arrows with these numbers
positions_of : (ms : List Message) (ns : List ℕ) (es : List Event) → map (slice_get ms) ns ≡ map (λ e. Some e.message) es
    → map (λ n. option_map start_of_arrow (slice_get ms n)) ns ≡ map Some (map place_of es)
positions_of ms ns es e =
    sym (map-map (option_map start_of_arrow) (slice_get ms) ns)
    ∙ ap (map (option_map start_of_arrow)) e
    ∙ map-map (option_map start_of_arrow) (λ e. Some e.message) es
    ∙ sym (map-map Some place_of es)

places_flat : (ps : List Plan) → flat_map places_in ps ≡ map place_of (flat_map (λ p. p.events) ps)
places_flat [] = refl
places_flat (p ∷ ps) = ap (λ l. map place_of p.events ++ l) (places_flat ps) ∙ sym (map-append place_of p.events (flat_map (λ p. p.events) ps))

module _ (manner : Manner) (w : Walk) where
  abbrev Numbers : Result (List ℕ) ImportFault → List Position → Type 0
  Numbers r xs = (ns : List ℕ) × (r ≡ Ok ns) × (map (λ n. option_map start_of_arrow (slice_get (arrows_of w.steps) n)) ns ≡ map Some xs)

  abbrev numbers : List ℕ
  numbers = numbers_on_lines manner.own (length w.lines) (arrows_of w.steps)

  walk_named : (xs : List Position) → walk_places manner w ≡ Ok xs → Numbers (walk_numbers manner w) xs
  unfolding walk_places walk_numbers
  walk_named xs e = by (plans_of manner w.steps (length w.lines)) refl (unended w w.ending) e
    where
      by : (r : Result (List Plan) ImportFault) → plans_of manner w.steps (length w.lines) ≡ r → (u : Result Walk ImportFault)
          → (r >>= (λ ps. u >>= (λ whole. Ok (flat_map places_in ps)))) ≡ Ok xs
          → Numbers (r >>= (λ ps. u >>= (λ whole. Ok numbers))) xs
      by (Ok ps) is (Ok x) f =
          let same : flat_map places_in ps ≡ xs = cc in
          (numbers, refl, positions_of (arrows_of w.steps) numbers (flat_map (λ p. p.events) ps) (plans_named manner w.steps (length w.lines) ps is) ∙ ap (map Some) (sym (places_flat ps) ∙ same))
      by (Ok ps) is (Err g) f = cc
      by (Err g) is u f = cc

  walk_refused : (fault : ImportFault) → walk_places manner w ≡ Err fault → walk_numbers manner w ≡ Err fault
  unfolding walk_places walk_numbers
  walk_refused fault e = by (plans_of manner w.steps (length w.lines)) (unended w w.ending) e
    where
      by : (r : Result (List Plan) ImportFault) (u : Result Walk ImportFault)
          → (r >>= (λ ps. u >>= (λ whole. Ok (flat_map places_in ps)))) ≡ Err fault
          → (r >>= (λ ps. u >>= (λ whole. Ok numbers))) ≡ Err fault
      by (Ok ps) (Ok x) f = cc
      by (Ok ps) (Err g) f = cc
      by (Err g) u f = cc

pub numbers_name : NumbersNameTheArrows
unfolding places arrow_numbers
numbers_name = record {
  events = λ manner ss lines plans e. plans_named manner ss lines plans e;
  positions = λ manner d given xs e. walk_named manner _ xs e;
  refused = λ manner d given fault e. walk_refused manner _ fault e;
}
