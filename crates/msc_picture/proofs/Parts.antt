-- What the code reads of charts and texts.
use Rattle.std.proofs.Common.{◌≡◌, ℕ, ◌<◌, Bool, true, false, cond, List, [], ◌∷◌, ◌++◌, length, take, map, codes, Option, Some, None, All, refl}
use Rattle.std.proofs.lemmas.Bool.{and_parts, lt-ltb, true≢false, false≢true}
use Rattle.std.proofs.lemmas.List.Elements.{All-cons, All-nil}
use Rattle.msc_chart.specs.declared.event.EventKind.{EventKind}
use Rattle.msc_chart.specs.declared.event.EventKind.TheVariants.{Output, Input, Local}
use Rattle.msc_chart.specs.Charts.{kind, message, sends, acts, is_output, is_local}
use Rattle.msc_chart.specs.Drawings.{Drawing, label_of}
use Rattle.msc_chart.specs.Lists.{Steps}
use Rattle.msc_picture.specs.declared.scene.Act.TheVariants.{Sends, Takes, Does}
use Rattle.msc_picture.specs.Columns.{short_text}
use Rattle.msc_picture.specs.Scenes.{act_by, shown_byte}
use Rattle.msc_picture.specs.Frames.{Frame, IsDrawnNext}
use Rattle.msc_picture.proofs.DrawnLemmas.{next_may}

-- what an output does
sent_act : (d : Drawing) (e : ℕ) (k : EventKind) → sends k ≡ true
    → Sends (message d.events e) ≡ act_by d e k
sent_act d e Output h = refl
sent_act d e Input h = absurd (false≢true h)
sent_act d e Local h = absurd (false≢true h)

-- what an input does
taken_act : (d : Drawing) (e : ℕ) (k : EventKind) → sends k ≡ false → acts k ≡ false
    → Takes (message d.events e) ≡ act_by d e k
taken_act d e Output h l = absurd (true≢false h)
taken_act d e Input h l = refl
taken_act d e Local h l = absurd (true≢false l)

-- what an action does
done_act : (d : Drawing) (e : ℕ) (k : EventKind) → acts k ≡ true
    → Does (map shown_byte (label_of d e)) ≡ act_by d e k
done_act d e Output h = absurd (false≢true h)
done_act d e Input h = absurd (false≢true h)
done_act d e Local h = refl

-- the same of an event by the tests for its kind
pub act_of_output : (d : Drawing) (e : ℕ) → is_output d.events e ≡ true
    → Sends (message d.events e) ≡ act_by d e (kind d.events e)
unfolding is_output
act_of_output d e h = sent_act d e (kind d.events e) (and_parts _ _ h).1

pub act_of_input : (d : Drawing) (e : ℕ) → e < length d.events → is_output d.events e ≡ false
    → is_local d.events e ≡ false → Takes (message d.events e) ≡ act_by d e (kind d.events e)
unfolding is_output is_local
act_of_input d e below o l =
    let known = lt-ltb e (length d.events) below in
    taken_act d e (kind d.events e) (rw known at o) (rw known at l)

pub act_of_action : (d : Drawing) (e : ℕ) → is_local d.events e ≡ true
    → Does (map shown_byte (label_of d e)) ≡ act_by d e (kind d.events e)
unfolding is_local
act_of_action d e h = done_act d e (kind d.events e) (and_parts _ _ h).1

-- there is no text where a test fails
pub none_where : {X : Type 0} (b : Bool) (x : X) → None ≡ cond b (Some x) None → b ≡ false
none_where true x h = cc
none_where false x h = refl

-- and a text where it holds, this one
pub some_where : {X : Type 0} (b : Bool) (x y : X) → Some y ≡ cond b (Some x) None
    → (b ≡ true) × (y ≡ x)
some_where true x y h = (refl, cc)
some_where false x y h = cc

-- an action's text that is cut
pub short_cut : (text : List ℕ) → 40 < length text → short_text text ≡ take 38 text ++ codes ".."
short_cut text h = rw (lt-ltb 40 (length text) h) refl

-- what is drawn are events
pub drawn_known : (f : Frame) (ranks : Option (List ℕ)) (past xs : List ℕ)
    → Steps (IsDrawnNext f ranks) past xs
    → All (λ e. e < length f.events) xs
drawn_known f ranks past [] steps = All-nil (λ e. e < length f.events)
drawn_known f ranks past (e ∷ es) steps =
    All-cons (λ x. x < length f.events) e es (next_may steps.0).event
    (drawn_known f ranks (past ++ e ∷ []) es steps.1)
