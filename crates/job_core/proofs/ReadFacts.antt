-- A job that bytes are read as fits its fields and keeps its limits, whatever reads them.
use Rattle.std.proofs.Common.{◌≡◌, ℕ, ◌^◌, ◌<◌, ◌≤◌, zero, suc, List, [], ◌∷◌, ◌++◌, map, flat_map, length, Option, Some, None, Result, Ok, Err, refl, sym, ap, ◌∙◌, subst, arith, IfOk}
use Rattle.std.specs.Prelude.{All, IfSome}
use Rattle.std.specs.Int.{to_be_bytes, w8, w64}
use Rattle.std.specs.Prelude.{codes}
use Rattle.std.proofs.lemmas.List.Elements.{All-nil, All-cons, All-head, All-tail}
use Rattle.sha2.proofs.Facts256.{length-sha256}
use Rattle.octets_core.specs.Numbers.{number, three_bytes}
use Rattle.octets_core.proofs.Texts.{IsBytes}
use Rattle.crl_core.specs.declared.crl.CrlFault.{CrlFault}
use Rattle.crl_core.specs.Form.{CrlForm, crl_form}
use Rattle.crl_core.specs.Outcome.{CrlFields, CrlFieldsFit, outcome, outcome_if}
use Rattle.crl_core.proofs.CrlLaws.{crl-only}
use Rattle.crl_core.proofs.FitLaws.{comes-fits}
use Rattle.log_core.specs.declared.Entry.{Entry}
use Rattle.log_core.specs.EntryGrammar.{IsIssuer, IsSigned, ReadsEntry}
use Rattle.log_core.proofs.DateLaws.{dated-fits}
use Rattle.log_core.proofs.EntryLaws.{entry-taken}
use Rattle.job_core.specs.declared.bounds.Limits.{Limits}
use Rattle.job_core.specs.declared.fault.JobFault.{JobFault}
use Rattle.job_core.specs.JobFields.{JobFields}
use Rattle.job_core.specs.JobLayout.{CrlText, EntryText}
use Rattle.job_core.specs.JobText.{JobContents, FitsEntry, range_record, crl_record, entry_record, spelling}
use Rattle.job_core.specs.JobMeaning.{crl_meaning, entry_meaning, IsJob}
use Rattle.job_core.specs.Fitting.{EntryFieldsFit, FitsFields}
use Rattle.job_core.proofs.Fitting.{fits-read}

-- ---- the bytes of a text

front-bytes : (xs ys : List ℕ) → IsBytes (xs ++ ys) → IsBytes xs
front-bytes [] ys h i = omega arith
front-bytes (x ∷ xs) ys h zero = h 0
front-bytes (x ∷ xs) ys h (suc i) = front-bytes xs ys (λ k. h (suc k)) i

back-bytes : (xs ys : List ℕ) → IsBytes (xs ++ ys) → IsBytes ys
back-bytes [] ys h = h
back-bytes (x ∷ xs) ys h = back-bytes xs ys (λ k. h (suc k))

-- a number of eight bytes
eight : (bytes : List ℕ) → length bytes ≡ 8 → IsBytes bytes → number bytes < 2 ^ 64
eight (a ∷ b ∷ c ∷ d ∷ e ∷ f ∷ g ∷ i ∷ []) is h = omega (arith, h 0, h 1, h 2, h 3, h 4, h 5, h 6, h 7)
eight (a ∷ b ∷ c ∷ d ∷ e ∷ f ∷ g ∷ i ∷ k ∷ rest) is h = absurd (omega (arith, is))
eight (a ∷ b ∷ c ∷ d ∷ e ∷ f ∷ g ∷ []) is h = absurd (omega (arith, is))
eight (a ∷ b ∷ c ∷ d ∷ e ∷ f ∷ []) is h = absurd (omega (arith, is))
eight (a ∷ b ∷ c ∷ d ∷ e ∷ []) is h = absurd (omega (arith, is))
eight (a ∷ b ∷ c ∷ d ∷ []) is h = absurd (omega (arith, is))
eight (a ∷ b ∷ c ∷ []) is h = absurd (omega (arith, is))
eight (a ∷ b ∷ []) is h = absurd (omega (arith, is))
eight (a ∷ []) is h = absurd (omega (arith, is))
eight [] is h = absurd (omega (arith, is))

-- ---- entries

leaf-bytes : (e : EntryText) → IsBytes (entry_record e) → IsBytes e.leaf
leaf-bytes e h =
    let before : List ℕ = e.log ++ three_bytes (length e.leaf) in
    let behind : List ℕ = three_bytes (length e.extra) in
    let record_bytes : IsBytes (((before ++ e.leaf) ++ behind) ++ e.extra) = back-bytes (to_be_bytes w8 3) (((before ++ e.leaf) ++ behind) ++ e.extra) h in
    back-bytes before e.leaf (front-bytes (before ++ e.leaf) behind (front-bytes ((before ++ e.leaf) ++ behind) e.extra record_bytes))

-- the issuer is a hash, and the serial has 1 to 32 octets
identity-fits : (by : Option (List ℕ)) (entry hash signed extra issuer serial : List ℕ) → IsIssuer by entry hash → IsSigned by signed extra issuer serial
    → (length issuer ≡ 32) × (1 ≤ length serial) × (length serial ≤ 32)
identity-fits None entry hash signed extra issuer serial is s = (ap (λ (k : List ℕ). length k) s.1.hash ∙ length-sha256 s.1.key, s.0.begins.some, s.0.begins.few)
identity-fits (Some key) entry hash signed extra issuer serial is s = (ap (λ (k : List ℕ). length k) s.1 ∙ is.2, s.0.begins.some, s.0.begins.few)

entry-fits : (e : EntryText) (x : Entry) → FitsEntry e → IsBytes e.leaf → ReadsEntry e.log e.leaf e.extra x → EntryFieldsFit x
entry-fits e x fits bytes r =
    let id = identity-fits r.fields.issuer r.is_leaf.entry r.is_leaf.hash r.fields.signed e.extra x.id.issuer x.id.serial r.is_leaf.is_issuer r.signed in
    let time : IsBytes r.is_leaf.time = front-bytes r.is_leaf.time _ (back-bytes r.is_leaf.kind _ (back-bytes r.is_leaf.version _ (subst IsBytes r.is_leaf.same bytes))) in
    record {
      issuer = id.0;
      some_serial = id.1;
      short_serial = id.2;
      log = ap (λ (k : List ℕ). length k) r.in_log ∙ fits.0;
      time = rw (r.at_time, ← r.is_leaf.is_time.value) (eight r.is_leaf.time r.is_leaf.is_time.size time);
      until = dated-fits r.fields.issuer r.fields.signed x.until r.dated;
    }

meaning-fits : (e : EntryText) (m : Option Entry) → FitsEntry e → IsBytes e.leaf → entry_meaning e ≡ m → IfSome m EntryFieldsFit
meaning-fits e None fits bytes is = tt
meaning-fits e (Some x) fits bytes is = entry-fits e x fits bytes (entry-taken e.log e.leaf e.extra x is)

entries-fit : (es : List EntryText) → All FitsEntry es → IsBytes (flat_map entry_record es) → All (λ m. IfSome m EntryFieldsFit) (map entry_meaning es)
entries-fit [] fits bytes = All-nil (λ m. IfSome m EntryFieldsFit)
entries-fit (e ∷ es) fits bytes =
    All-cons (λ m. IfSome m EntryFieldsFit) (entry_meaning e) (map entry_meaning es)
    (meaning-fits e (entry_meaning e) (All-head FitsEntry e es fits) (leaf-bytes e (front-bytes (entry_record e) (flat_map entry_record es) bytes)) refl)
    (entries-fit es (All-tail FitsEntry e es fits) (back-bytes (entry_record e) (flat_map entry_record es) bytes))

-- ---- CRLs

form-fits : (bytes : List ℕ) (o : Option CrlForm) (x : CrlFields) → crl_form bytes ≡ o → outcome_if o ≡ Ok x → CrlFieldsFit x
form-fits bytes None x at h = absurd cc
form-fits bytes (Some form) x at h = comes-fits bytes x (form, crl-only form bytes at, h)

outcome-fits : (bytes : List ℕ) (r : Result CrlFields CrlFault) → outcome bytes ≡ r → IfOk r CrlFieldsFit
outcome-fits bytes (Ok x) h = form-fits bytes (crl_form bytes) x refl h
outcome-fits bytes (Err e) h = tt

crls-fit : (cs : List CrlText) → All (λ c. IfOk c.outcome CrlFieldsFit) (map crl_meaning cs)
crls-fit [] = All-nil (λ c. IfOk c.outcome CrlFieldsFit)
crls-fit (c ∷ cs) = All-cons (λ m. IfOk m.outcome CrlFieldsFit) (crl_meaning c) (map crl_meaning cs) (outcome-fits c.bytes (outcome c.bytes) refl) (crls-fit cs)

-- ---- the job

spelled-entries : (j : JobContents) → IsBytes (spelling j) → IsBytes (flat_map entry_record j.entries)
unfolding spelling
spelled-entries j h =
    let opening : List ℕ = codes "CLUBJOB1" ++ to_be_bytes w64 j.epoch ++ to_be_bytes w64 j.moment in
    let before : List ℕ = opening ++ flat_map range_record j.ranges ++ flat_map crl_record j.crls in
    let entries : List ℕ = flat_map entry_record j.entries in
    back-bytes before entries (front-bytes (before ++ entries) (to_be_bytes w8 0) h)

pub job-fits : (limits : Limits) (bytes : List ℕ) (f : JobFields) → IsBytes bytes → limits.ranges ≤ 1024 → IsJob limits bytes f → FitsFields f
job-fits limits bytes f fits published is =
    let leaves : IsBytes (flat_map entry_record is.contents.entries) = spelled-entries is.contents (subst IsBytes is.text fits) in
    fits-read limits bytes f published
    (subst (λ (g : JobFields). All (λ c. IfOk c.outcome CrlFieldsFit) g.crls) (sym is.means) (crls-fit is.contents.crls))
    (subst (λ (g : JobFields). All (λ e. IfSome e EntryFieldsFit) g.entries) (sym is.means) (entries-fit is.contents.entries is.fits.entries leaves)) is

pub crls-of : {X : Type 0} (view : X → JobFields) (r : Result X JobFault) → IfOk r (λ x. FitsFields (view x)) → IfOk r (λ x. All (λ c. IfOk c.outcome CrlFieldsFit) (view x).crls)
crls-of view (Ok x) fits = fits.accepted
crls-of view (Err e) fits = tt

pub entries-of : {X : Type 0} (view : X → JobFields) (r : Result X JobFault) → IfOk r (λ x. FitsFields (view x)) → IfOk r (λ x. All (λ e. IfSome e EntryFieldsFit) (view x).entries)
entries-of view (Ok x) fits = fits.publishing.entries
entries-of view (Err e) fits = tt
