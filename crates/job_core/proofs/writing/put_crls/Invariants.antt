use Rattle.std.proofs.Common.{◌≡◌, ◌++◌, take}
use Rattle.std.specs.Prelude.{flat_map, All}
use Rattle.job_core.specs.JobText.{crl_record, crl_held, FitsCrl}
use Rattle.job_core.proofs.writing.put_crls.Given as goal

abbrev pub invariant-loop-crl : goal.invariant-loop-crl
invariant-loop-crl l = record {
  text : l.out.items ≡ l.fn.out.items ++ flat_map (λ x. crl_record (crl_held x)) (take l.crl-index l.crls);
  fits : All (λ x. FitsCrl (crl_held x)) (take l.crl-index l.crls);
}
