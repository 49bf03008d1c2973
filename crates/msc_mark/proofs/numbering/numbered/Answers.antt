use Rattle.std.proofs.Common.{◌≡◌, ℕ, get_or, length, length-append, slice_get, Some, arith, sym, ap, ◌∙◌, subst}
use Rattle.msc_mark.specs.declared.ident.Ident as code
use Rattle.msc_mark.specs.Named.{IsNumbered}
use Rattle.msc_mark.proofs.Idents.{apart_from, few_more, numbered_more, same}
use Rattle.msc_mark.proofs.Numbers.{place_kept}
use Rattle.msc_mark.proofs.numbering.numbered.Goals as goal

pub loop-e-preserved : goal.loop-e-preserved
loop-e-preserved c =
    let now = c.loop-e.invariant in
    let i = c.ident_of.result in
    let keys = c.loop-e.idents.keys in
    let more = c.insert_full.new.self.keys in
    let stays : (q : ℕ) (k : code.Ident) → slice_get keys q ≡ Some k → slice_get more q ≡ Some k =
    λ q k at. subst (λ ks. slice_get ks q ≡ Some k) (sym c.in_ok-number.ensures.keys) (place_kept same keys i k q at) in
    let stored = c.in_ok-number.ensures.stored in
    record {
      distinct = c.insert_full.ensures.unique;
      few = few_more (length more) (length keys) c.loop-e.e _ c.in_ok-number.ensures.len now.few;
      all = ap length c.in_ok-push.ensures.items ∙ (let size = now.all in omega (arith, size, length-append {A = ℕ}));
      each = λ f less.
          subst (λ l. IsNumbered c.args.chart.now more f (get_or l f 0)) (sym c.in_ok-push.ensures.items)
          (numbered_more c.args.chart.now keys more stays c.loop-e.e c.in_ok-number.number c.loop-e.numbers.items i stored.0 stored.1 stored.2 c.ident_of.ensures.name c.ident_of.ensures.number now.all now.each f less);
    }

pub returns-clause-numbered : goal.returns-clause-numbered
returns-clause-numbered c =
    let now = c.loop-e.invariant in
    let all = now.all in let few = now.few in
    let last : c.loop-e.e ≡ c.events-e-end.result = let end = c.loop-e.auto.e-end in let past = c.loop-e-test.false in omega (arith, end, past) in
    record {
      few = omega (arith, all, few);
      apart = apart_from c.loop-e.idents.keys now.distinct;
      all = all ∙ last ∙ c.events-e-end.ensures.number;
      each = λ f less. now.each f (omega (arith, all, less));
    }

pub returns-clause-few : goal.returns-clause-few
returns-clause-few c =
    let few = c.loop-e.invariant.few in
    let end = c.loop-e.auto.e-end in
    let number = c.events-e-end.ensures.number in
    let limit = c.events-e-end.ensures.accepted.few_events in
    omega (arith, few, end, number, limit)
