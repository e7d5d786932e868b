-- What was written of a raw job is the text of what it holds.
use Rattle.std.proofs.Common.{◌≡◌, ℕ, List, [], ◌++◌, refl}
use Rattle.std.specs.Prelude.{codes, map, flat_map}
use Rattle.std.specs.Int.{w8, w64, to_be_bytes}
use Rattle.std.proofs.lemmas.List.Folds.{flat_map-map}
use Rattle.ident_core.specs.declared.range.Range.{Range}
use Rattle.job_core.specs.declared.raw.RawCrl.{RawCrl}
use Rattle.job_core.specs.declared.raw.RawEntry.{RawEntry}
use Rattle.job_core.specs.JobText.{range_record, crl_record, entry_record, spelling, crl_held, entry_held}

pub written : (epoch moment : ℕ) (rs : List Range) (cs : List RawCrl) (es : List RawEntry) (o s1 s2 s3 s4 s5 s6 s7 : List ℕ)
    → o ≡ [] → s1 ≡ o ++ codes "CLUBJOB1" → s2 ≡ s1 ++ to_be_bytes w64 epoch → s3 ≡ s2 ++ to_be_bytes w64 moment → s4 ≡ s3 ++ flat_map range_record rs
    → s5 ≡ s4 ++ flat_map (λ x. crl_record (crl_held x)) cs → s6 ≡ s5 ++ flat_map (λ x. entry_record (entry_held x)) es → s7 ≡ s6 ++ to_be_bytes w8 0
    → s7 ≡ spelling (record { epoch = epoch; moment = moment; ranges = rs; crls = map crl_held cs; entries = map entry_held es })
unfolding spelling
written epoch moment rs cs es o s1 s2 s3 s4 s5 s6 s7 h0 h1 h2 h3 h4 h5 h6 h7 =
    rw (h7, h6, h5, h4, h3, h2, h1, h0, flat_map-map crl_record crl_held cs, flat_map-map entry_record entry_held es) refl
