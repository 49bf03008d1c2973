-- The first event that is left in a log, and whether it may follow.
use Rattle.std.proofs.Common.{◌≡◌, ℕ, ◌<◌, Bool, true, false, ◌↔◌, List, [], length, get_or, Option, Some, None, sym, ap, subst, ◌∙◌, arith}
use Rattle.std.proofs.lemmas.List.{get_or_default}
use Rattle.msc_chart.specs.Charts.{line}
use Rattle.msc_chart.specs.Lists.{Steps, occurs}
use Rattle.msc_chart.specs.Orders.{WiredChart}
use Rattle.msc_chart.proofs.ListLemmas.{Steps-map, occurs_at}
use Rattle.msc_gather.specs.Schedule.{log_of, AreLogs, MayFollow, FollowsLeast, crosses}
use Rattle.msc_gather.specs.Heads.{IsLink, IsLinkBehind, IsLogFront}
use Rattle.msc_gather.specs.Links.{AreLinks}
use Rattle.msc_gather.specs.Merges.{IsMerging, MayFollowOn}
use Rattle.msc_chart.proofs.KindTests.{output_below}
use Rattle.msc_gather.proofs.HeadLemmas.{head_of_follower, head_follows}
use Rattle.msc_gather.proofs.ComesFirst.{crosses_cases}

-- what crosses is an event
link_below : (chart : WiredChart) (logs : List (List ℕ)) (x y : ℕ) → crosses chart logs y x ≡ true
    → y < length chart.events
link_below chart logs x y h = crosses_cases chart logs y x h (λ o p. output_below chart.events y o)
    (λ o p q b. output_below chart.events y o)

-- the least events that may follow are events that may follow
pub schedule_steps : (chart : WiredChart) (logs : List (List ℕ)) (past : List ℕ)
    → Steps (FollowsLeast chart logs) [] past → Steps (MayFollow chart logs) [] past
schedule_steps chart logs past steps = Steps-map (FollowsLeast chart logs) (MayFollow chart logs)
    (λ p x f. f.itself) [] past steps

-- line i, of whose log the first k events are behind
module _ {chart : WiredChart} {logs : List (List ℕ)} {links : List (Option ℕ)} {past heads : List ℕ}
    {done : List Bool}
    {n i k : ℕ} {log : List ℕ} (sound : AreLogs chart n logs) (are : AreLinks chart logs links)
    (m : IsMerging chart logs past heads done) (seat : i < n) (log_is : log ≡ get_or logs i [])
    (k_is : k ≡ get_or heads i 0) where
  -- the line has a log
  seat_in : i < length logs
  seat_in = let many : length logs ≡ n = sound.lines.as_many in omega arith

  -- the first k events of the log are behind
  front_logs : IsLogFront past (get_or logs i []) k
  front_logs = subst (λ (j : ℕ). IsLogFront past (get_or logs i []) j) (sym k_is) (m.fronts i seat_in)

  -- the same of the log that was read
  front_here : IsLogFront past log k
  front_here = subst (λ (l : List ℕ). IsLogFront past l k) (sym log_is) front_logs

  -- the first event that is left is an event of the line
  pub head_known : k < length log → (get_or log k 0 < length chart.events)
      × (line chart.events (get_or log k 0) ≡ i)
  head_known below =
      sound.lines.known i (get_or log k 0) seat
      (ap (λ l. occurs l (get_or log k 0)) (sym log_is) ∙ occurs_at log k below)

  -- it may follow exactly where its link is behind
  told_by_link : k < length log → IsLinkBehind past (get_or links (get_or log k 0) None)
      ↔ MayFollow chart logs past (get_or log k 0)
  told_by_link below =
      subst (λ (l : List ℕ). IsLinkBehind past (get_or links (get_or l k 0) None)
      ↔ MayFollow chart logs past (get_or l k 0)) (sym log_is)
      (head_follows chart n logs sound past (schedule_steps chart logs past m.steps) i k
      (get_or links (get_or (get_or logs i []) k 0) None) seat front_logs
      (subst (λ (l : List ℕ). k < length l) log_is below)
      (subst (λ (l : List ℕ). IsLink chart logs (get_or l k 0) (get_or links (get_or l k 0) None))
      log_is (are.each _ (head_known below).0)))

  -- no other event of the line may follow
  pub only_head : (x : ℕ) → MayFollowOn chart logs past i x
      → (k < length log) × (get_or log k 0 ≡ x)
  only_head x h =
      let same : log_of chart logs x ≡ log = ap (λ (j : ℕ). get_or logs j []) h.1 ∙ sym log_is in
      let front : IsLogFront past (log_of chart logs x) k =
      subst (λ (l : List ℕ). IsLogFront past l k) (sym same) front_here in
      let on : line chart.events x < n = subst (λ (j : ℕ). j < n) (sym h.1) seat in
      let told = head_of_follower chart n logs sound past (schedule_steps chart logs past m.steps) x
      k on front h.0 in
      subst (λ (l : List ℕ). (k < length l) × (get_or l k 0 ≡ x)) same told

  -- where its link is behind it may follow
  pub follows_where : (link : Option ℕ) → k < length log → get_or links (get_or log k 0) None ≡ link
      → IsLinkBehind past link
      → MayFollowOn chart logs past i (get_or log k 0)
  follows_where link below link_is behind = (
    (told_by_link below).0 (subst (λ (o : Option ℕ). IsLinkBehind past o) (sym link_is) behind),
    (head_known below).1,
  )

  -- where an event of the line may follow, the link is behind
  pub behind_where : (link : Option ℕ) (x : ℕ) → get_or links (get_or log k 0) None ≡ link
      → MayFollowOn chart logs past i x → IsLinkBehind past link
  behind_where link x link_is h =
      let only = only_head x h in
      subst (λ (o : Option ℕ). IsLinkBehind past o) link_is
      ((told_by_link only.0).1
      (subst (λ (w : ℕ). MayFollow chart logs past w) (sym only.1) h.0))

  -- the link is an event
  pub linked_below : (y : ℕ) → k < length log → get_or links (get_or log k 0) None ≡ Some y
      → y < length done
  linked_below y below link_is =
      let x : ℕ = get_or log k 0 in
      let link : IsLink chart logs x (Some y) =
      subst (λ (o : Option ℕ). IsLink chart logs x o) link_is
      (are.each x (head_known below).0) in
      let y_below : y < length chart.events = link_below chart logs x y link.0 in
      let long : length done ≡ length chart.events = m.long in
      omega arith

-- what is done has occurred
pub done_tells : {chart : WiredChart} {logs : List (List ℕ)} {past heads : List ℕ}
    {done : List Bool} {b : Bool} (y : ℕ) → IsMerging chart logs past heads done → y < length done
    → get_or done y false ≡ b → occurs past y ≡ b
done_tells {chart} {logs} {past} {heads} {done} {b} y m below told =
    let long : length done ≡ length chart.events = m.long in
    sym (m.told y (omega arith)) ∙ told

-- a head read from the table
pub head_read : {chart : WiredChart} {logs : List (List ℕ)} {past heads : List ℕ} {done : List Bool}
    {n i r : ℕ}
    → AreLogs chart n logs → IsMerging chart logs past heads done → i < n → r ≡ get_or heads i r
    → r ≡ get_or heads i 0
head_read {chart} {logs} {past} {heads} {done} {n} {i} {r} sound m seat read =
    read ∙ get_or_default heads i r 0 (omega (arith, seat, sound.lines.as_many, m.many))
