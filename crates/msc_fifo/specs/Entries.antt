-- Lists of entries, as they are put and taken: what of a sender stands there.
use Rattle.std.specs.Prelude.{◌≢◌, ℕ, zero, suc, ◌+◌, ◌<◌, ◌==◌, ◌||◌, min, Bool, false, if◌then◌else◌, List, [], ◌∷◌}
use Rattle.msc_fifo.specs.declared.entry.Entry.{Entry}
use Rattle.msc_fifo.specs.declared.entry.Entry.TheVariants.{Message, Ended}
use Rattle.msc_fifo.specs.declared.entry.Taken.{Taken}
use Rattle.msc_fifo.specs.declared.entry.Taken.TheVariants as took

-- the sender that put the entry
abbrev pub sender_of : Entry → ℕ
sender_of (Message i m) = i
sender_of (Ended i) = i

-- the messages of sender i, in order
abbrev pub messages_of : ℕ → List Entry → List ℕ
messages_of i [] = []
messages_of i (Message j m ∷ es) = if j == i then (m ∷ messages_of i es) else messages_of i es
messages_of i (Ended j ∷ es) = messages_of i es

-- whether the end mark of sender i stands there
abbrev pub has_ended : ℕ → List Entry → Bool
has_ended i [] = false
has_ended i (Message j m ∷ es) = has_ended i es
has_ended i (Ended j ∷ es) = (j == i) || has_ended i es

-- how many of the first n senders have no end mark there
abbrev pub unended_of : ℕ → List Entry → ℕ
unended_of zero es = 0
unended_of (suc n) es = unended_of n es + (if has_ended n es then 0 else 1)

-- nothing of sender i stands there
abbrev pub HasNothingOf : ℕ → List Entry → Type 0
HasNothingOf i [] = Unit {0}
HasNothingOf i (e ∷ es) = (sender_of e ≢ i) × HasNothingOf i es

-- these entries may come after the entry: an end mark is followed by nothing of its sender
abbrev pub IsFollowed : Entry → List Entry → Type 0
IsFollowed (Message i m) es = Unit {0}
IsFollowed (Ended i) es = HasNothingOf i es

-- each entry names one of n senders, and nothing of a sender follows its end mark
abbrev pub IsOrderly : ℕ → List Entry → Type 0
IsOrderly n [] = Unit {0}
IsOrderly n (e ∷ es) = (sender_of e < n) × IsFollowed e es × IsOrderly n es

-- what a take adds to what was got
abbrev pub entries_of : Taken → List Entry
entries_of (took.Message i m place clock) = Message i m ∷ []
entries_of (took.Ended i) = Ended i ∷ []
entries_of took.Nothing = []

-- the greatest count of takes that found nothing: counts have 32 bits
abbrev pub greatest_idle : ℕ
greatest_idle = 4294967295

-- how many takes in a row have found nothing, after one more take
abbrev pub idle_after : ℕ → Taken → ℕ
idle_after idle (took.Message i m place clock) = 0
idle_after idle (took.Ended i) = 0
idle_after idle took.Nothing = min (idle + 1) greatest_idle

-- how many senders end with a take
abbrev pub ends_in : Taken → ℕ
ends_in (took.Message i m place clock) = 0
ends_in (took.Ended i) = 1
ends_in took.Nothing = 0
