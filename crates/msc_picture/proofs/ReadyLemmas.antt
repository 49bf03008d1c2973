-- What stays listed while events are listed.
use Rattle.std.proofs.Common.{◌≡◌, ℕ, ◌+◌, ◌<◌, ◌≤◌, Bool, true, List, length, inl, inr, refl, subst, ◌∙◌, arith}
use Rattle.std.proofs.lemmas.Bool.{and_from, or_left, or_right, eq-eqb, cases_lt}
use Rattle.bit_rows.specs.Rows.{has, word_count, IsWith}
use Rattle.bit_rows.proofs.Bits.{words_enough}
use Rattle.msc_chart.specs.Charts.{partner}
use Rattle.msc_picture.specs.declared.ready.Ready.{Ready}
use Rattle.msc_picture.specs.Frames.{Frame}
use Rattle.msc_picture.specs.Courses.{event_at, IsCourse, ShareLevel}
use Rattle.msc_picture.specs.Ready.{HasBits, IsListed, IsLevelListed, Keeps, KeepsBut}

-- so many words are a row with a bit for each event
pub bits_from : (n : ℕ) (row : List ℕ) → length row ≡ word_count n → HasBits n row
bits_from n row words = record {
  words = words;
  room = omega (arith, words, words_enough n);
}

-- a row has what was put into it where that was wanted
pub with_it : (old new : List ℕ) (wanted : Bool) (x : ℕ) → IsWith old new wanted x → wanted ≡ true
    → has new x ≡ true
with_it old new wanted x put asked =
    put x ∙ or_right (has old x) _ (and_from _ _ asked (eq-eqb x x refl))

-- and what it had
pub with_others : (old new : List ℕ) (wanted : Bool) (x y : ℕ) → IsWith old new wanted x
    → has old y ≡ true → has new y ≡ true
with_others old new wanted x y put there = put y ∙ or_left (has old y) _ there

-- what is listed stays so over two changes
pub keeps_both : {a b c : Ready} → Keeps a b → Keeps b c → Keeps a c
keeps_both one two = record {
  rests = λ e h. two.rests e (one.rests e h);
  sends = λ e h. two.sends e (one.sends e h);
  levels = λ e h. two.levels e (one.levels e h);
}

pub keeps_but : {a b c : Ready} {x : ℕ} → KeepsBut x a b → Keeps b c → KeepsBut x a c
keeps_but one two = record {
  rests = λ e other h. two.rests e (one.rests e other h);
  sends = λ e other h. two.sends e (one.sends e other h);
  levels = λ e other h. two.levels e (one.levels e other h);
}

module _ {f : Frame} {past : List ℕ} {old new : Ready} (kept : Keeps old new) where
  pub listed_kept : (e : ℕ) → IsListed f past old e → IsListed f past new e
  listed_kept e h = record {
    rest = λ may. kept.rests e (h.rest may);
    send = λ may. kept.sends e (h.send may);
    level = λ may. kept.levels e (h.level may);
  }

  pub level_kept : (course : List ℕ) (p end : ℕ) → IsLevelListed f course past old p end
      → IsLevelListed f course past new p end
  level_kept course p end h q low high share =
      let both = h q low high share in (
        listed_kept (event_at course q) both.0,
        listed_kept (partner f.events (event_at course q)) both.1,
      )

-- one place more of a level
pub level_more : (f : Frame) (course past : List ℕ) (r : Ready) (p q : ℕ)
    → IsLevelListed f course past r p q → IsListed f past r (event_at course q)
    → IsListed f past r (partner f.events (event_at course q))
    → IsLevelListed f course past r p (q + 1)
level_more f course past r p q so_far one other k low high share = elim (cases_lt k q) [
  | inl before ↦ so_far k low before share
  | inr after ↦
      let same : q ≡ k = omega arith in
      subst (λ (w : ℕ). IsListed f past r (event_at course w)
      × IsListed f past r (partner f.events (event_at course w))) same (one, other)
]

-- a level ends where an event of another one stands
pub level_ends : (f : Frame) (course past : List ℕ) (r : Ready) → IsCourse f course → (p q : ℕ)
    → p ≤ q → q < length course → (ShareLevel f (event_at course p) (event_at course q) → ⊥)
    → IsLevelListed f course past r p q → IsLevelListed f course past r p (length course)
level_ends f course past r laid p q low inside apart so_far k from high share =
    elim (cases_lt k q) [
      | inl before ↦ so_far k from before share
      | inr after ↦ absurd (apart (laid.together p q k low after high share))
    ]
