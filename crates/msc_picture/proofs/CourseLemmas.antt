-- How far along the course of a frame its lines are drawn.
use Rattle.std.proofs.Common.{◌≡◌, ℕ, ◌<◌, true, List, [], ◌∷◌, ◌++◌, length, get_or, replicate, sym, ap, subst, ◌∙◌, arith}
use Rattle.std.proofs.lemmas.List.{length-replicate, get_or-replicate}
use Rattle.std.proofs.lemmas.Grind.{get_or_default_zero}
use Rattle.msc_chart.specs.Charts.{line}
use Rattle.msc_chart.specs.Lists.{occurs}
use Rattle.msc_chart.proofs.ListLemmas.{occurs-left, occurs_other}
use Rattle.msc_picture.specs.Frames.{Frame}
use Rattle.msc_picture.specs.Courses.{event_at, IsDrawnTo, IsLeftAt, AreBehind, IsReached}

-- what stands at a place, as it was read
pub read_at : (course : List ℕ) (p e : ℕ) → p < length course → e ≡ get_or course p e
    → e ≡ event_at course p
read_at course p e below is = is ∙ get_or_default_zero course p e below

-- with more events no less is drawn
pub drawn_to_with : (f : Frame) (course past more next : List ℕ) (i p q : ℕ) → next ≡ past ++ more
    → IsDrawnTo f course past i p q → IsDrawnTo f course next i p q
drawn_to_with f course past more next i p q same so_far k low high on =
    subst (λ (l : List ℕ). occurs l (event_at course k) ≡ true) (sym same)
    (occurs-left past more (event_at course k) (so_far k low high on))

-- no place is looked at yet
pub behind_begins : (f : Frame) (course past firsts seconds : List ℕ) (n lines : ℕ) → n ≡ lines
    → ((e : ℕ) → e < length f.events → line f.events e < lines)
    → firsts ≡ replicate n 0 → seconds ≡ replicate n 0
    → AreBehind f course past firsts seconds lines
behind_begins f course past firsts seconds n lines same on_line first second = record {
  firsts_long = ap (λ (l : List ℕ). length l) first ∙ length-replicate n 0 ∙ same;
  seconds_long = ap (λ (l : List ℕ). length l) second ∙ length-replicate n 0 ∙ same;
  on_line = on_line;
  behind = λ i below.
      let f0 : get_or firsts i 0 ≡ 0 = ap (λ (l : List ℕ). get_or l i 0) first
      ∙ get_or-replicate n i 0 0 (omega arith) in
      let s0 : get_or seconds i 0 ≡ 0 = ap (λ (l : List ℕ). get_or l i 0) second
      ∙ get_or-replicate n i 0 0 (omega arith) in
      record {
        first_within = omega (arith, f0);
        second_within = omega (arith, s0);
        first = λ k low high on. absurd (omega (arith, f0));
        second = λ k low high on. absurd (omega (arith, s0));
      };
}

module _ {f : Frame} {course past firsts seconds : List ℕ} {lines : ℕ}
    (b : AreBehind f course past firsts seconds lines) where
  -- with one more event the lines are behind no less
  pub behind_with : (e : ℕ) (next : List ℕ) → next ≡ past ++ e ∷ []
      → AreBehind f course next firsts seconds lines
  behind_with e next same = record {
    firsts_long = b.firsts_long;
    seconds_long = b.seconds_long;
    on_line = b.on_line;
    behind = λ i below. let at = b.behind i below in record {
      first_within = at.first_within;
      second_within = at.second_within;
      first = drawn_to_with f course past (e ∷ []) next i _ _ same at.first;
      second = drawn_to_with f course past (e ∷ []) next i _ _ same at.second;
    };
  }

-- what is left at a place of another line is left with one event more
left_at_with : (f : Frame) (course past next : List ℕ) (e i p : ℕ) → next ≡ past ++ e ∷ []
    → (i ≡ line f.events e → ⊥) → IsLeftAt f course past i p → IsLeftAt f course next i p
left_at_with f course past next e i p same apart left below =
    let here = left below in
    let other : event_at course p ≡ e → ⊥ = λ is.
    apart (sym here.0 ∙ ap (λ (w : ℕ). line f.events w) is) in (
      here.0,
      ap (λ (l : List ℕ). occurs l (event_at course p)) same
          ∙ occurs_other past e (event_at course p) other ∙ here.1,
    )

-- so another line is where it was
pub reached_with : (f : Frame) (course past next firsts seconds : List ℕ) (e i : ℕ)
    → next ≡ past ++ e ∷ [] → (i ≡ line f.events e → ⊥)
    → IsReached f course past firsts seconds i → IsReached f course next firsts seconds i
reached_with f course past next firsts seconds e i same apart old = record {
  first = left_at_with f course past next e i _ same apart old.first;
  second = left_at_with f course past next e i _ same apart old.second;
  apart = old.apart;
}
