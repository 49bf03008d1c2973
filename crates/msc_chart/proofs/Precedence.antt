-- With no line ready the order of events is the enforced order, and with all lines ready it is the
-- visual order.
use Rattle.std.proofs.Common.{ℕ, Bool, true, inl, inr, refl}
use Rattle.msc_chart.specs.Charts.{Visual}
use Rattle.msc_chart.specs.Charts.Visual.{seen, passed, linked}
use Rattle.msc_chart.specs.Orders.{WiredChart, Enforced}
use Rattle.msc_chart.specs.Precedence.{NoneReadyIsEnforced, AllReadyIsVisual, Precedes, all_ready, none_ready}
use Rattle.msc_chart.proofs.ListLemmas.{clash}
use Rattle.msc_chart.proofs.Drawn.{before_parts, controlled_or_input}

module _ (chart : WiredChart) where
  -- with no line ready it is the enforced order, rule by rule
  enforced_of : (x y : ℕ) → Precedes chart none_ready true x y → Enforced chart x y
  enforced_of x y (Precedes.drawn h c) = Enforced.drawn h c
  enforced_of x y (Precedes.awaited h i l) = clash l refl
  enforced_of x y (Precedes.sent o p) = Enforced.sent o p
  enforced_of x y (Precedes.joined {y = z} h k) = Enforced.joined (enforced_of x z h) (enforced_of z y k)
  enforced_of x y (Precedes.queued {s = s} {t = t} fifo os ot same h p q loose) =
      Enforced.queued os ot same (enforced_of s t h) p q

  -- and back
  of_enforced : (x y : ℕ) → Enforced chart x y → Precedes chart none_ready true x y
  of_enforced x y (Enforced.drawn h c) = Precedes.drawn h c
  of_enforced x y (Enforced.sent o p) = Precedes.sent o p
  of_enforced x y (Enforced.joined {y = z} h k) = Precedes.joined (of_enforced x z h) (of_enforced z y k)
  of_enforced x y (Enforced.queued {s = s} {t = t} os ot same h p q) =
      Precedes.queued refl os ot same (of_enforced s t h) p q refl

  module _ (fifo : Bool) where
    -- with all lines ready it is the visual order
    visual_of : (x y : ℕ) → Precedes chart all_ready fifo x y → Visual chart.events x y
    visual_of x y (Precedes.drawn h c) = seen h
    visual_of x y (Precedes.awaited h i l) = seen h
    visual_of x y (Precedes.sent o p) = passed o p
    visual_of x y (Precedes.joined {y = z} h k) = linked (visual_of x z h) (visual_of z y k)
    visual_of x y (Precedes.queued rule os ot same h p q loose) = clash refl loose

    -- and back: an event is controlled, or an input of a ready line
    of_visual : (x y : ℕ) → Visual chart.events x y → Precedes chart all_ready fifo x y
    of_visual x y (seen h) =
        elim (controlled_or_input chart.events y (before_parts chart.events x y h).1) [
          | inl c ↦ Precedes.drawn h c
          | inr i ↦ Precedes.awaited h i refl
        ]
    of_visual x y (passed o p) = Precedes.sent o p
    of_visual x y (linked {y = z} h k) = Precedes.joined (of_visual x z h) (of_visual z y k)

-- so are both laws
pub none_ready_is_enforced : NoneReadyIsEnforced
none_ready_is_enforced chart x y = (enforced_of chart x y, of_enforced chart x y)

pub all_ready_is_visual : AllReadyIsVisual
all_ready_is_visual chart fifo x y = (visual_of chart fifo x y, of_visual chart fifo x y)
