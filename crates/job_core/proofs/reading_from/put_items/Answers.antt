use Rattle.std.proofs.Common.{◌≡◌, Option, Some, ap, subst, ◌∙◌, refl, arith}
use Rattle.std.specs.Prelude.{IfSome}
use Rattle.std.proofs.lemmas.Result.{err_from_is_err_and}
use Rattle.outside_core.specs.Standing.{place_of}
use Rattle.job_core.specs.declared.fault.JobFault.TheVariants as faults
use Rattle.job_core.specs.declared.partial.Numbers.{Numbers}
use Rattle.job_core.specs.declared.raw.RawEntry.{RawEntry}
use Rattle.job_core.specs.declared.records.Item.{Item as Taken}
use Rattle.job_core.specs.JobFields.{fields_of_job}
use Rattle.job_core.specs.JobLayout.{Item, OneRange, OneCrl, OneEntry, with_item}
use Rattle.job_core.specs.JobText.{crl_held, entry_held}
use Rattle.job_core.specs.Partial.{held_in}
use Rattle.job_core.specs.Records.{item_of_record, some_record}
use Rattle.outside_core.proofs.Pulling.{pulled-none, pulled-then}
use Rattle.job_core.proofs.Gathering.{gathers-none, gathers-more, gathered-all, gathered-refused, gathered-fault, near-more, near-all}
use Rattle.job_core.proofs.reading_from.put_items.Goals as goal

abbrev Behind : RawEntry → Numbers → Numbers → Option Taken → Type 0
Behind entry old new o = IfSome o (λ taken. held_in new ≡ with_item (held_in old) (item_of_record entry taken))

pub records-init : goal.records-init
records-init g c = record {
  pulled = pulled-none g.D.Depot c.args.feed.now;
  none = refl;
  gathers = gathers-none g.D.Depot c.args.limits.now (fields_of_job c.args.job.now) (held_in c.no_numbers-numbers.result) c.args.feed.now c.no_numbers-numbers.ensures;
  near = omega arith;
  few = omega arith;
}

pub returns-in-Ok-None : goal.returns-in-Ok-None
returns-in-Ok-None g c =
    let inv = c.records.invariant in
    let e = c.in-Ok-None.ensures.exact in
    record {
      exact = gathered-all g.D.Depot c.args.limits.now (fields_of_job c.args.job.now) (fields_of_job c.records.job) (held_in c.records.numbers) c.records.serials c.args.feed.now c.records.feed
          c.next_item_from.new.feed inv.gathers inv.pulled _ _ e (λ u. fields_of_job c.records.job) _ refl inv.none (ap (some_record c.next_item_from.new.into) c.in-Ok-None.field-0-is);
      near = near-all c.records.numbers (place_of c.args.feed.now) (place_of c.records.feed) (place_of c.next_item_from.new.feed) c.numbers_facts.ensures.0
          c.numbers_facts.ensures.1 c.numbers_facts.ensures.2 inv.near (omega (arith, c.next_item_from.ensures.near));
    }

pub returns-in-Err : goal.returns-in-Err
returns-in-Err g c =
    let inv = c.records.invariant in
    record {
      exact = gathered-fault g.D.Depot c.args.limits.now (fields_of_job c.args.job.now) (fields_of_job c.records.job) (held_in c.records.numbers) c.records.serials c.args.feed.now c.records.feed
          c.next_item_from.new.feed inv.gathers inv.pulled _ (λ u. fields_of_job c.records.job) c.in-Err.fault inv.none c.in-Err.ensures.exact;
      near = near-all c.records.numbers (place_of c.args.feed.now) (place_of c.records.feed) (place_of c.next_item_from.new.feed) c.numbers_facts.ensures.0
          c.numbers_facts.ensures.1 c.numbers_facts.ensures.2 inv.near (omega (arith, c.next_item_from.ensures.near));
    }

pub records-preserved-in-Continue-1 : goal.records-preserved-in-Continue-1
records-preserved-in-Continue-1 g c =
    let inv = c.records.invariant in
    let e = c.in-Ok-Some-Range.ensures.exact in
    let is = c.in-Ok-Some-Range.field-0-is ∙ ap Some c.in-Ok-Some-Range.field-0-0-is in
    let x : Item = OneRange c.in-Ok-Some-Range.range in
    let holds = subst (Behind c.next_item_from.new.into c.records.numbers c.next_item_from.new.numbers) is c.in-Ok-Some-Range.ensures.behind in
    record {
      pulled = pulled-then g.D.Depot c.args.feed.now c.records.feed c.next_item_from.new.feed inv.pulled e.pulled;
      none = e.blames ∙ inv.none;
      gathers = gathers-more g.D.Depot c.args.limits.now (fields_of_job c.args.job.now) (fields_of_job c.records.job) (held_in c.records.numbers) c.records.serials c.args.feed.now c.records.feed
          c.next_item_from.new.feed inv.gathers inv.pulled _ _ e x (held_in c.next_item_from.new.numbers) _ _
          (ap (some_record c.next_item_from.new.into) is) c.in_ok-put_range-in-Ok-Some-Range.ensures.ok holds refl inv.few;
      near = near-more c.records.numbers c.next_item_from.new.numbers x (place_of c.args.feed.now) (place_of c.records.feed)
          (place_of c.next_item_from.new.feed) holds inv.near (omega (arith, c.next_item_from.ensures.near));
      few = inv.few;
    }

pub records-smaller-in-Continue-1 : goal.records-smaller-in-Continue-1
records-smaller-in-Continue-1 g c = omega (arith, c.in-Ok-Some-Range.ensures.further, c.next_item_from.new.feed.reach)

pub records-preserved-in-Ok-Some-Crl : goal.records-preserved-in-Ok-Some-Crl
records-preserved-in-Ok-Some-Crl g c =
    let inv = c.records.invariant in
    let e = c.in-Ok-Some-Crl.ensures.exact in
    let is = c.in-Ok-Some-Crl.field-0-is ∙ ap Some c.in-Ok-Some-Crl.field-0-0-is in
    let x : Item = OneCrl (crl_held c.in-Ok-Some-Crl.crl) in
    let holds = subst (Behind c.next_item_from.new.into c.records.numbers c.next_item_from.new.numbers) is c.in-Ok-Some-Crl.ensures.behind in
    record {
      pulled = pulled-then g.D.Depot c.args.feed.now c.records.feed c.next_item_from.new.feed inv.pulled e.pulled;
      none = e.blames ∙ inv.none;
      gathers = gathers-more g.D.Depot c.args.limits.now (fields_of_job c.args.job.now) (fields_of_job c.records.job) (held_in c.records.numbers) c.records.serials c.args.feed.now c.records.feed
          c.next_item_from.new.feed inv.gathers inv.pulled _ _ e x (held_in c.next_item_from.new.numbers) _ _
          (ap (some_record c.next_item_from.new.into) is)
          c.in_ok-serials-in-Ok-Some-Crl.ensures.0 holds c.in_ok-serials-in-Ok-Some-Crl.ensures.1 c.in_ok-serials-in-Ok-Some-Crl.ensures.2;
      near = near-more c.records.numbers c.next_item_from.new.numbers x (place_of c.args.feed.now) (place_of c.records.feed)
          (place_of c.next_item_from.new.feed) holds inv.near (omega (arith, c.next_item_from.ensures.near));
      few = c.in_ok-serials-in-Ok-Some-Crl.ensures.2;
    }

pub records-smaller-in-Ok-Some-Crl : goal.records-smaller-in-Ok-Some-Crl
records-smaller-in-Ok-Some-Crl g c = omega (arith, c.in-Ok-Some-Crl.ensures.further, c.next_item_from.new.feed.reach)

pub records-preserved : goal.records-preserved
records-preserved g c =
    let inv = c.records.invariant in
    let e = c.in-Ok-Some-Entry.ensures.exact in
    let is = c.in-Ok-Some-Entry.field-0-is ∙ ap Some c.in-Ok-Some-Entry.field-0-0-is in
    let x : Item = OneEntry (entry_held c.next_item_from.new.into) in
    let holds = subst (Behind c.next_item_from.new.into c.records.numbers c.next_item_from.new.numbers) is c.in-Ok-Some-Entry.ensures.behind in
    record {
      pulled = pulled-then g.D.Depot c.args.feed.now c.records.feed c.next_item_from.new.feed inv.pulled e.pulled;
      none = e.blames ∙ inv.none;
      gathers = gathers-more g.D.Depot c.args.limits.now (fields_of_job c.args.job.now) (fields_of_job c.records.job) (held_in c.records.numbers) c.records.serials c.args.feed.now c.records.feed
          c.next_item_from.new.feed inv.gathers inv.pulled _ _ e x (held_in c.next_item_from.new.numbers) _ _ (ap (some_record c.next_item_from.new.into) is)
          c.in_ok-put_entry-in-Ok-Some-Entry.ensures.ok holds refl inv.few;
      near = near-more c.records.numbers c.next_item_from.new.numbers x (place_of c.args.feed.now) (place_of c.records.feed)
          (place_of c.next_item_from.new.feed) holds inv.near (omega (arith, c.next_item_from.ensures.near));
      few = inv.few;
    }

pub records-smaller : goal.records-smaller
records-smaller g c = omega (arith, c.in-Ok-Some-Entry.ensures.further, c.next_item_from.new.feed.reach)

pub returns-in_err-serials-in-Ok-Some-Crl : goal.returns-in_err-serials-in-Ok-Some-Crl
returns-in_err-serials-in-Ok-Some-Crl g c =
    let r = c.from_residual-in_err-serials-in-Ok-Some-Crl in
    let p = err_from_is_err_and r.result r.ensures.1 in
    let inv = c.records.invariant in
    let e = c.in-Ok-Some-Crl.ensures.exact in
    let is = c.in-Ok-Some-Crl.field-0-is ∙ ap Some c.in-Ok-Some-Crl.field-0-0-is in
    rw (p.1, p.2) (record {
      exact = gathered-refused g.D.Depot c.args.limits.now (fields_of_job c.args.job.now) (fields_of_job c.records.job) (held_in c.records.numbers) c.records.serials c.args.feed.now c.records.feed
          c.next_item_from.new.feed inv.gathers inv.pulled _ _ e _ (OneCrl (crl_held c.in-Ok-Some-Crl.crl)) _
          (ap (some_record c.next_item_from.new.into) is)
          inv.none
          (λ same. let wants : c.in_err-serials-in-Ok-Some-Crl.field-0.0 ≡ faults.NoMemory → ⊥ = λ other. absurd cc in let over = (c.in_err-serials-in-Ok-Some-Crl.ensures wants).0 in absurd cc)
          c.in_err-serials-in-Ok-Some-Crl.ensures;
      near = near-all c.records.numbers (place_of c.args.feed.now) (place_of c.records.feed) (place_of c.next_item_from.new.feed) c.numbers_facts.ensures.0
          c.numbers_facts.ensures.1 c.numbers_facts.ensures.2 inv.near (omega (arith, c.next_item_from.ensures.near));
    })

pub returns-in_err-put_range-in-Ok-Some-Range : goal.returns-in_err-put_range-in-Ok-Some-Range
returns-in_err-put_range-in-Ok-Some-Range g c =
    let r = c.from_residual in
    let p = err_from_is_err_and r.result r.ensures.1 in
    let inv = c.records.invariant in
    let e = c.in-Ok-Some-Range.ensures.exact in
    let is = c.in-Ok-Some-Range.field-0-is ∙ ap Some c.in-Ok-Some-Range.field-0-0-is in
    rw (p.1, p.2) (record {
      exact = gathered-refused g.D.Depot c.args.limits.now (fields_of_job c.args.job.now) (fields_of_job c.records.job) (held_in c.records.numbers) c.records.serials c.args.feed.now c.records.feed
          c.next_item_from.new.feed inv.gathers inv.pulled _ _ e _ (OneRange c.in-Ok-Some-Range.range) _ (ap (some_record c.next_item_from.new.into) is) inv.none
          (λ same. let none = c.in_err-put_range-in-Ok-Some-Range.ensures.wanted in absurd cc)
          (λ other. absurd (other c.in_err-put_range-in-Ok-Some-Range.ensures.wanted));
      near = near-all c.records.numbers (place_of c.args.feed.now) (place_of c.records.feed) (place_of c.next_item_from.new.feed) c.numbers_facts.ensures.0
          c.numbers_facts.ensures.1 c.numbers_facts.ensures.2 inv.near (omega (arith, c.next_item_from.ensures.near));
    })

pub returns-in_err-put_entry-in-Ok-Some-Entry : goal.returns-in_err-put_entry-in-Ok-Some-Entry
returns-in_err-put_entry-in-Ok-Some-Entry g c =
    let r = c.from_residual-in_err-put_entry-in-Ok-Some-Entry in
    let p = err_from_is_err_and r.result r.ensures.1 in
    let inv = c.records.invariant in
    let e = c.in-Ok-Some-Entry.ensures.exact in
    let is = c.in-Ok-Some-Entry.field-0-is ∙ ap Some c.in-Ok-Some-Entry.field-0-0-is in
    rw (p.1, p.2) (record {
      exact = gathered-refused g.D.Depot c.args.limits.now (fields_of_job c.args.job.now) (fields_of_job c.records.job) (held_in c.records.numbers) c.records.serials c.args.feed.now c.records.feed
          c.next_item_from.new.feed inv.gathers inv.pulled _ _ e _ (OneEntry (entry_held c.next_item_from.new.into)) _ (ap (some_record c.next_item_from.new.into) is) inv.none
          (λ same. let none = c.in_err-put_entry-in-Ok-Some-Entry.ensures.wanted in absurd cc)
          (λ other. absurd (other c.in_err-put_entry-in-Ok-Some-Entry.ensures.wanted));
      near = near-all c.records.numbers (place_of c.args.feed.now) (place_of c.records.feed) (place_of c.next_item_from.new.feed) c.numbers_facts.ensures.0
          c.numbers_facts.ensures.1 c.numbers_facts.ensures.2 inv.near (omega (arith, c.next_item_from.ensures.near));
    })
