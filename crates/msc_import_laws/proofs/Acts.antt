-- What the ends of arrows do: which is an output, which an input, and with which key.
use Rattle.std.proofs.Common.{◌≡◌, ℕ, ◌+◌, Bool, true, false, not, cond, List, Some, refl, sym, ap, subst, ◌∙◌}
use Rattle.msc_chart.specs.Events.{Act, Key, MessageEnd, act_of, is_action, is_sent, is_taken}
use Rattle.msc_chart.specs.Events.Act.{OfMessage}
use Rattle.msc_scenarios.specs.declared.steps.Message.{Message}
use Rattle.msc_import.specs.Drafting.{fitted, line_name}
use Rattle.msc_import_laws.proofs.EndLists.{End, home}
use Rattle.msc_import_laws.proofs.Parts.Side.{Out, In, Alone, Lost, OutBack, InBack}
use Rattle.msc_import_laws.proofs.Parts.{Side, drawn_part, fall, is_back}
use Rattle.msc_import_laws.proofs.Counts.{is_alone, is_in, is_out}

-- the key of a message between lines of these names
unfoldable pub key_of : List (List ℕ) → Message → Key
key_of names m = record { sender = fitted (line_name names m.from); receiver = fitted (line_name names m.to); name = fitted m.name; number = Some (fitted m.number) }

-- and of the one that is sent back
unfoldable pub back_key : List (List ℕ) → Message → Key
back_key names m = record { sender = fitted (line_name names m.to); receiver = fitted (line_name names m.from); name = fitted m.name; number = Some (fitted m.number) }

-- both ends of a message
unfoldable pub the_out : List (List ℕ) → Message → MessageEnd
the_out names m = record { sends = true; key = key_of names m }

unfoldable pub the_in : List (List ℕ) → Message → MessageEnd
the_in names m = record { sends = false; key = key_of names m }

unfoldable pub the_out_back : List (List ℕ) → Message → MessageEnd
the_out_back names m = record { sends = true; key = back_key names m }

unfoldable pub the_in_back : List (List ℕ) → Message → MessageEnd
the_in_back names m = record { sends = false; key = back_key names m }

-- what a side of a message does on a line
unfoldable pub act_by : List (List ℕ) → ℕ → Message → Side → Act
act_by names line m s = act_of (fitted (line_name names line)) (drawn_part names m s)

-- what an end does
abbrev pub act_at : List (List ℕ) → End → Act
act_at names x = act_by names x.line x.message x.side

module _ (names : List (List ℕ)) (line : ℕ) (m : Message) where
  pub out_act : line ≡ m.from → act_by names line m Out ≡ OfMessage (the_out names m)
  unfolding act_by the_out key_of
  out_act e = ap (λ (l : ℕ). act_by names l m Out) e

  pub in_act : line ≡ m.to → act_by names line m In ≡ OfMessage (the_in names m)
  unfolding act_by the_in key_of
  in_act e = ap (λ (l : ℕ). act_by names l m In) e

  pub out_back_act : line ≡ m.to → act_by names line m OutBack ≡ OfMessage (the_out_back names m)
  unfolding act_by the_out_back back_key
  out_back_act e = ap (λ (l : ℕ). act_by names l m OutBack) e

  pub in_back_act : line ≡ m.from → act_by names line m InBack ≡ OfMessage (the_in_back names m)
  unfolding act_by the_in_back back_key
  in_back_act e = ap (λ (l : ℕ). act_by names l m InBack) e

-- an end of a message is an output or an input of it
pub data IsEndAs (names : List (List ℕ)) (m : Message) : Side → MessageEnd → Type 0 where
  Goes : IsEndAs names m Out (the_out names m)
  Comes : IsEndAs names m In (the_in names m)
  GoesBack : IsEndAs names m OutBack (the_out_back names m)
  ComesBack : IsEndAs names m InBack (the_in_back names m)

pub end_as : (names : List (List ℕ)) (line : ℕ) (m : Message) (s : Side) (y : MessageEnd) → line ≡ home m s → act_by names line m s ≡ OfMessage y → IsEndAs names m s y
unfolding home act_by
end_as names line m Out y here e = let same : the_out names m ≡ y = let k = sym (out_act names line m here) ∙ e in cc in subst (IsEndAs names m Out) same Goes
end_as names line m In y here e = let same : the_in names m ≡ y = let k = sym (in_act names line m here) ∙ e in cc in subst (IsEndAs names m In) same Comes
end_as names line m OutBack y here e = let same : the_out_back names m ≡ y = let k = sym (out_back_act names line m here) ∙ e in cc in subst (IsEndAs names m OutBack) same GoesBack
end_as names line m InBack y here e = let same : the_in_back names m ≡ y = let k = sym (in_back_act names line m here) ∙ e in cc in subst (IsEndAs names m InBack) same ComesBack
end_as names line m Alone y here e = cc
end_as names line m Lost y here e = cc

-- an output sends, and an input does not
pub way : (names : List (List ℕ)) (m : Message) (s : Side) (y : MessageEnd) → IsEndAs names m s y → not (is_in s) ≡ y.sends
unfolding the_out the_in the_out_back the_in_back is_in
way names m s y Goes = refl
way names m s y Comes = refl
way names m s y GoesBack = refl
way names m s y ComesBack = refl

-- who sends the message
abbrev pub source : Message → Side → ℕ
source m s = cond (is_back s) m.to m.from

pub way_source : (names : List (List ℕ)) (m : Message) (s : Side) (y : MessageEnd) → IsEndAs names m s y → fitted (line_name names (source m s)) ≡ y.key.sender
unfolding the_out the_in the_out_back the_in_back key_of back_key
way_source names m s y Goes = refl
way_source names m s y Comes = refl
way_source names m s y GoesBack = refl
way_source names m s y ComesBack = refl

-- the keys tell the arrows apart by their numbers
pub way_number : (names : List (List ℕ)) (m : Message) (s : Side) (y : MessageEnd) → IsEndAs names m s y → Some (fitted m.number) ≡ y.key.number
unfolding the_out the_in the_out_back the_in_back key_of back_key
way_number names m s y Goes = refl
way_number names m s y Comes = refl
way_number names m s y GoesBack = refl
way_number names m s y ComesBack = refl

-- one message of an arrow has one source
pub one_source : (m : Message) (s t : Side) → (is_back s ≡ true → m.from ≡ m.to → ⊥) → (is_back t ≡ true → m.from ≡ m.to → ⊥) → source m s ≡ source m t → is_back s ≡ is_back t
one_source m s t a b e = by (is_back s) (is_back t) a b e
  where
    by : (x y : Bool) → (x ≡ true → m.from ≡ m.to → ⊥) → (y ≡ true → m.from ≡ m.to → ⊥) → cond x m.to m.from ≡ cond y m.to m.from → x ≡ y
    by true true a b e = refl
    by false false a b e = refl
    by true false a b e = absurd (a refl (sym e))
    by false true a b e = absurd (b refl e)

-- how far an end is below the first of its arrow, and where it stands
pub fall_of_end : (names : List (List ℕ)) (m : Message) (s : Side) (y : MessageEnd) → IsEndAs names m s y → fall s ≡ cond (is_back s) 1 0 + cond (is_in s) 2 0
unfolding is_in
fall_of_end names m s y Goes = refl
fall_of_end names m s y Comes = refl
fall_of_end names m s y GoesBack = refl
fall_of_end names m s y ComesBack = refl

pub home_of_input : (names : List (List ℕ)) (m : Message) (s : Side) (y : MessageEnd) → IsEndAs names m s y → is_in s ≡ true → home m s ≡ cond (is_back s) m.from m.to
unfolding is_in home
home_of_input names m s y Goes h = cc
home_of_input names m s y Comes h = refl
home_of_input names m s y GoesBack h = cc
home_of_input names m s y ComesBack h = refl

-- what is counted of the acts is counted of the sides
module _ (names : List (List ℕ)) (line : ℕ) (m : Message) where
  pub sent_is : (s : Side) → is_sent (act_by names line m s) ≡ is_out s
  unfolding act_by is_out
  sent_is Out = refl
  sent_is In = refl
  sent_is Alone = refl
  sent_is Lost = refl
  sent_is OutBack = refl
  sent_is InBack = refl

  pub taken_is : (s : Side) → is_taken (act_by names line m s) ≡ is_in s
  unfolding act_by is_in
  taken_is Out = refl
  taken_is In = refl
  taken_is Alone = refl
  taken_is Lost = refl
  taken_is OutBack = refl
  taken_is InBack = refl

  pub alone_is : (s : Side) → is_action (act_by names line m s) ≡ is_alone s
  unfolding act_by is_alone
  alone_is Out = refl
  alone_is In = refl
  alone_is Alone = refl
  alone_is Lost = refl
  alone_is OutBack = refl
  alone_is InBack = refl
