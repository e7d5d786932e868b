use Rattle.std.proofs.Common.{◌++◌, List, ap, subst, ◌∙◌, arith, rules}
use Rattle.std.specs.Prelude.{All, flat_map}
use Rattle.std.proofs.lemmas.List.{length-map}
use Rattle.std.proofs.lemmas.List.Elements.{All-map}
use Rattle.ident_core.specs.declared.range.Range.{Range}
use Rattle.ident_core.specs.RangeText.{RangeFits}
use Rattle.ident_core.proofs.RangeTexts.{ranges-fit}
use Rattle.job_core.specs.declared.raw.RawCrl.{RawCrl}
use Rattle.job_core.specs.declared.raw.RawEntry.{RawEntry}
use Rattle.job_core.specs.JobText.{range_record, crl_record, entry_record, crl_held, entry_held, FitsCrl, FitsEntry}
use Rattle.job_core.proofs.WrittenJob.{written}
use Rattle.job_core.proofs.writing.bytes_of.Goals as goal

pub returns-clause-text : goal.returns-clause-text
returns-clause-text c =
    let j = c.args.job.now in
    written j.epoch j.moment j.ranges.items j.crls.items j.entries.items
    c.new-out.result.items c.put_bytes.new.out.items c.put_u64.new.out.items c.put_u64-2.new.out.items c.put_ranges.new.out.items c.put_crls.new.out.items
    c.put_entries.new.out.items c.put_u8.new.out.items
    c.new-out.ensures.items
    c.in_ok-put_bytes.ensures.ok
    c.in_ok-put_u64.ensures.ok
    c.in_ok-put_u64-2.ensures.ok
    (c.in_ok-put_ranges.ensures.text ∙ ap (λ (l : List Range). c.put_u64-2.new.out.items ++ flat_map range_record l) c.as_slice.ensures.value)
    (c.in_ok-put_crls.ensures.text ∙ ap (λ (l : List RawCrl). c.put_ranges.new.out.items ++ flat_map (λ x. crl_record (crl_held x)) l) c.as_slice-2.ensures.value)
    (c.in_ok-put_entries.ensures.text ∙ ap (λ (l : List RawEntry). c.put_crls.new.out.items ++ flat_map (λ x. entry_record (entry_held x)) l) c.as_slice-3.ensures.value)
    c.in_ok-put_u8.ensures.ok

pub returns-clause-fits : goal.returns-clause-fits
returns-clause-fits c = record {
  epoch = search rules;
  moment = search rules;
  few_ranges = c.requires.ranges.few;
  ranges = ranges-fit c.args.job.now.ranges.items c.requires.ranges.ascending (subst (λ (l : List Range). All RangeFits l) c.as_slice.ensures.value c.in_ok-put_ranges.ensures.fits);
  few_crls = omega (arith, length-map c.args.job.now.crls.items crl_held, c.requires.few_crls);
  crls = All-map FitsCrl crl_held c.args.job.now.crls.items (subst (λ (l : List RawCrl). All (λ x. FitsCrl (crl_held x)) l) c.as_slice-2.ensures.value c.in_ok-put_crls.ensures.fits);
  few_entries = omega (arith, length-map c.args.job.now.entries.items entry_held, c.requires.few_entries);
  entries = All-map FitsEntry entry_held c.args.job.now.entries.items
      (subst (λ (l : List RawEntry). All (λ x. FitsEntry (entry_held x)) l) c.as_slice-3.ensures.value c.in_ok-put_entries.ensures.fits);
}
