-- Why a pair is a race: its kind, and the one pair of events that is not enforced.
use Rattle.std.specs.Prelude.{◌≡◌, ◌≢◌, ℕ, ◌↔◌, Bool, ◌&&◌, cond, List, [], ◌∷◌, Option, find, codes, IsTrue, nat_eq}
use Rattle.std.specs.Str.{bytes_eq}
use Rattle.msc_chart.specs.Charts.{partner, is_input, is_controlled}
use Rattle.msc_chart.specs.Orders.{WiredChart, queue, Enforced}
use Rattle.msc_reason.specs.declared.cause.RaceKind.{RaceKind}
use Rattle.msc_reason.specs.declared.cause.RaceKind.TheVariants.{Early, Queues, Unordered, Overtaken}
use Rattle.msc_reason.specs.declared.cause.Cause.{Cause}

-- the word for a kind of races
abbrev pub kind_word : RaceKind → List ℕ
kind_word Early = codes "early"
kind_word Queues = codes "queues"
kind_word Unordered = codes "unordered"
kind_word Overtaken = codes "overtaken"

-- each kind once
abbrev pub all_kinds : List RaceKind
all_kinds = Early ∷ Queues ∷ Unordered ∷ Overtaken ∷ []

-- the kind that a word stands for
unfoldable pub kind_of_word : List ℕ → Option RaceKind
kind_of_word word = find (λ kind. bytes_eq word (kind_word kind)) all_kinds

-- e and f are inputs of one queue
unfoldable pub share_queue : WiredChart → ℕ → ℕ → Bool
share_queue chart e f =
    (is_input chart.events e && is_input chart.events f) && nat_eq (queue chart e) (queue chart f)

-- The kind of a race (e, f), whose second event is an input. Early: e is controlled, so f can come
-- before it. Queues: two inputs by two queues. Unordered: two inputs by one queue, and nothing puts
-- the output of f before that of e. Overtaken: the output of f is enforced before that of e.
abbrev pub IsKindOf : WiredChart → ℕ → ℕ → RaceKind → Type 0
IsKindOf chart e f Early = IsTrue (is_controlled chart.events e)
IsKindOf chart e f Queues = IsTrue (is_input chart.events e) × (queue chart e ≢ queue chart f)
IsKindOf chart e f Unordered =
    IsTrue (share_queue chart e f) × (Enforced chart (partner chart.events f) (partner chart.events e) → ⊥)
IsKindOf chart e f Overtaken =
    IsTrue (share_queue chart e f) × Enforced chart (partner chart.events f) (partner chart.events e)

-- What would have to come before the output of f, so that e comes before f: the output of e where e
-- and f are inputs of one queue, otherwise e.
unfoldable pub needed : WiredChart → ℕ → ℕ → ℕ
needed chart e f = cond (share_queue chart e f) (partner chart.events e) e

-- the cause of a race (e, f)
pub record IsCauseOf (chart : WiredChart) (e f : ℕ) (cause : Cause) : Type 0 where
  pub kind : IsKindOf chart e f cause.kind
  pub first : cause.needed ≡ needed chart e f
  pub second : cause.output ≡ partner chart.events f
  -- every run that has e has f before it
  pub always : IsTrue cause.always ↔ Enforced chart f e
