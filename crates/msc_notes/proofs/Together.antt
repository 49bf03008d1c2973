-- What is put sort by sort is all that stands in a draft.
use Rattle.std.proofs.Common.{◌≡◌, ℕ, ◌≤◌, true, false, List, [], length, map, ap, subst, ◌∙◌, arith}
use Rattle.std.proofs.lemmas.List.{length-map}
use Rattle.msc_lexer.specs.declared.TheConstants.{TEXT_LIMIT}
use Rattle.msc_parser.specs.declared.tree.Decl.{Decl}
use Rattle.msc_parser.specs.declared.tree.Section.{Section}
use Rattle.msc_parser.specs.Drafts.{statements_of}
use Rattle.msc_parser.specs.Grammar.{Tree}
use Rattle.msc_chart.specs.declared.fault.ChartFault.{ChartFault}
use Rattle.msc_chart.specs.declared.fault.ChartFault.TheVariants.{TwiceInstance, HeaderWithoutBody, UnknownAddress, TwiceEvent, UnmatchedOut, UnmatchedIn}
use Rattle.msc_chart.specs.Events.{Act, acts_of, address_of, header_of, instances_of}
use Rattle.msc_chart.specs.Faults.{HoldsAt, IsTwice, IsUnknown, IsUnmatched, OfEnd}
use Rattle.msc_notes.specs.declared.event.OwnEvent.{OwnEvent}
use Rattle.msc_notes.specs.AllFaults.{AreAllFaults}
use Rattle.msc_notes.specs.Events.{act_view, owned_of, own_view, statement_view}
use Rattle.msc_notes.specs.Putting.{HasNames, HasPut, IsFewRepeats, decl_names, section_names, unmatched_fault}
use Rattle.msc_notes.proofs.Acts.{acts_same}
use Rattle.msc_notes.proofs.AllFaults.{all_put, headers_are, names_are, of_addresses, of_headers, of_inputs, of_instances, of_outputs, of_twice, put_same}
use Rattle.msc_notes.proofs.ChartPlaces.{statements_same}

-- a draft has no more events than a text has bytes
pub few_events : (events : List OwnEvent) (d : Tree) (ss : List Section)
    → map own_view events ≡ owned_of d.sections → ss ≡ d.sections
    → length (statements_of ss) ≤ TEXT_LIMIT → length events ≤ TEXT_LIMIT
few_events events d ss is same few =
    let long : length (map statement_view events) ≡ length events = simp length-map in
    let as_many = ap length (statements_same events d.sections is) in
    let read = ap (λ xs. length (statements_of xs)) same in
    omega (arith, long, as_many, read, few)

-- what each part of the code puts, for the names, the header names and the events that it reads
pub record PutInTurn (names headers keys : List (List ℕ)) (acts : List Act) (i k e : ℕ) (twice header addresses ends outputs inputs : List ChartFault) : Type 0 where
  pub names_put : HasPut TwiceInstance (IsFewRepeats names) i [] twice
  pub headers_put : HasPut HeaderWithoutBody (HoldsAt (IsUnknown keys) headers) k twice header
  pub addresses_put : HasPut UnknownAddress (HoldsAt (OfEnd (λ x. IsUnknown keys (address_of x))) acts) e header addresses
  pub ends_put : HasPut TwiceEvent (IsTwice acts) e addresses ends
  pub outputs_put : HasPut (unmatched_fault true) (HoldsAt (OfEnd (IsUnmatched true acts)) acts) e ends outputs
  pub inputs_put : HasPut (unmatched_fault false) (HoldsAt (OfEnd (IsUnmatched false acts)) acts) e outputs inputs

-- where these are those of a draft, all that stand in it are put
in_draft : (d : Tree) (keys : List (List ℕ)) (i k e : ℕ) (a b c x y z : List ChartFault)
    → HasNames keys (instances_of d) → length (instances_of d) ≤ i → length (header_of d) ≤ k
    → length (acts_of d) ≤ e → k ≤ TEXT_LIMIT → e ≤ TEXT_LIMIT
    → PutInTurn (instances_of d) (header_of d) keys (acts_of d) i k e a b c x y z → AreAllFaults d z
in_draft d keys i k e a b c x y z h is ks es few_k few_e p =
    all_put d i k e a b c x y z is ks es (record {
      instances_put = put_same TwiceInstance _ _ i [] a (λ n lt. of_instances d n) p.names_put;
      headers_put = put_same HeaderWithoutBody _ _ k a b (λ n lt. of_headers d keys h k few_k n lt) p.headers_put;
      addresses_put = put_same UnknownAddress _ _ e b c (λ n lt. of_addresses d keys h e few_e n lt) p.addresses_put;
      ends_put = put_same TwiceEvent _ _ e c x (λ n lt. of_twice d e few_e n lt) p.ends_put;
      outputs_put = put_same UnmatchedOut _ _ e x y (λ n lt. of_outputs d e few_e n lt) p.outputs_put;
      inputs_put = put_same UnmatchedIn _ _ e y z (λ n lt. of_inputs d e few_e n lt) p.inputs_put;
    })

-- so what is read of the draft's parts is all of it
pub all_together : (d : Tree) (ss : List Section) (hs : List Decl) (events : List OwnEvent)
    (keys : List (List ℕ)) (a b c x y z : List ChartFault) → ss ≡ d.sections → hs ≡ d.header
    → map own_view events ≡ owned_of d.sections → length hs ≤ TEXT_LIMIT
    → length events ≤ TEXT_LIMIT → HasNames keys (section_names ss)
    → PutInTurn (section_names ss) (decl_names hs) keys (map act_view events) (length ss) (length hs) (length events) a b c x y z
    → AreAllFaults d z
all_together d ss hs events keys a b c x y z sections header is few_k few_e h p =
    let names = ap section_names sections ∙ names_are d in
    let headers = ap decl_names header ∙ headers_are d in
    let acts = acts_same events d is in
    let is_long : length (section_names ss) ≡ length ss = simp length-map in
    let ks_long : length (decl_names hs) ≡ length hs = simp length-map in
    let es_long : length (map act_view events) ≡ length events = simp length-map in
    let by_names = subst (λ ns. PutInTurn ns (decl_names hs) keys (map act_view events) (length ss) (length hs) (length events) a b c x y z) names p in
    let by_headers = subst (λ ns. PutInTurn (instances_of d) ns keys (map act_view events) (length ss) (length hs) (length events) a b c x y z) headers by_names in
    let by_acts = subst (λ xs. PutInTurn (instances_of d) (header_of d) keys xs (length ss) (length hs) (length events) a b c x y z) acts by_headers in
    in_draft d keys (length ss) (length hs) (length events) a b c x y z (subst (HasNames keys) names h)
    (omega (arith, ap length names, is_long)) (omega (arith, ap length headers, ks_long)) (omega (arith, ap length acts, es_long))
    few_k few_e by_acts
