use Rattle.std.proofs.Common.{◌≤◌, ◌*◌, ◌||◌, length, arith, sym, ap, ◌∙◌, subst}
use Rattle.std.specs.Option.{option_copied}
use Rattle.std.specs.Prelude.{nat_lt}
use Rattle.std.proofs.lemmas.List.{with_items_is}
use Rattle.bit_rows.specs.Rows.{has}
use Rattle.bit_rows.proofs.Bits.{words_enough}
use Rattle.msc_mark.specs.Accepting.{names_ident}
use Rattle.msc_mark.specs.Named.{HasNamed}
use Rattle.msc_mark.proofs.Rows.{full_is, named_is, ok_more}
use Rattle.msc_mark.proofs.row.row_of.Goals as goal

pub returns-then-not-names_events-clause-room : goal.returns-then-not-names_events-clause-room
returns-then-not-names_events-clause-room c =
    let size = c.len-count.ensures.len in
    let enough = words_enough c.len-count.result in
    ok_more c.full.result (λ row words. omega (arith, size, enough, words)) c.full.ensures.words

pub returns-then-not-names_events-clause-named : goal.returns-then-not-names_events-clause-named
returns-then-not-names_events-clause-named c =
    let none = sym c.names_events.ensures ∙ c.if-not-names_events.true in
    ok_more c.full.result
    (λ row numbers. full_is c.args.idents.now.keys c.args.mark.now row.items none (λ y. numbers y ∙ ap (nat_lt y) c.len-count.ensures.len))
    c.full.ensures.numbers

pub put_words-requires-clause-room : goal.put_words-requires-clause-room
put_words-requires-clause-room c =
    let size = c.len-count.ensures.len in
    let enough = words_enough c.len-count.result in
    let words = c.in_ok-row.ensures.words in
    let value = ap length c.deref_mut.ensures.value in
    omega (arith, size, enough, words, value)

pub returns-clause-room : goal.returns-clause-room
returns-clause-room c =
    let size = c.len-count.ensures.len in
    let enough = words_enough c.len-count.result in
    let words = c.in_ok-row.ensures.words in
    let value = ap length c.deref_mut.ensures.value in
    let kept = c.put_words.auto.row in
    let new = with_items_is c.in_ok-row.row c.put_words.new.row (c.put_words.auto.row ∙ c.deref_mut.ensures.len) in
    subst (λ l. length c.args.idents.now.keys ≤ 64 * length l) (sym new) (omega (arith, size, enough, words, value, kept))

pub returns-clause-named : goal.returns-clause-named
returns-clause-named c =
    let keys = c.args.idents.now.keys in
    let old = c.deref_mut.result.now in
    let some = sym c.names_events.ensures ∙ c.if-not-names_events.false in
    let new = with_items_is c.in_ok-row.row c.put_words.new.row (c.put_words.auto.row ∙ c.deref_mut.ensures.len) in
    subst (HasNamed keys c.args.mark.now) (sym new)
    (named_is keys c.args.mark.now old c.put_words.new.row some
    (λ y. ap (λ l. has l y) c.deref_mut.ensures.value ∙ c.in_ok-row.ensures.none y)
    (λ q k at. c.put_words.ensures q k at ∙ ap (λ ws. has old q || names_ident k.name.now (option_copied k.number) ws) c.as_slice.ensures))
