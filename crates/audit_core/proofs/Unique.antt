-- An audit finds one thing.
use Rattle.std.specs.List.{slice_get}
use Rattle.std.specs.Prelude.{Result, Ok, Err}
use Rattle.std.proofs.Common.{◌≡◌, ◌≢◌, ◌⊎◌, ℕ, ◌<◌, inl, inr, ⊎_elim, List, [], ◌∷◌, length, take, Bool, Option, Some, None, refl, sym, ap, ◌∙◌, subst, arith}
use Rattle.std.proofs.lemmas.Bool.{cases_lt}
use Rattle.std.proofs.lemmas.Option.{slice_get_within}
use Rattle.card_core.specs.PartFields.{PartFields}
use Rattle.card_core.specs.declared.verdict.Verdict.{Verdict}
use Rattle.card_core.specs.Verdict.{verdict}
use Rattle.log_core.specs.declared.Entry.{Entry}
use Rattle.job_core.specs.JobFields.{JobFields}
use Rattle.ident_core.proofs.Elements.{some_item}
use Rattle.universe_core.specs.History.{is_listed}
use Rattle.universe_core.specs.declared.fault.AdmitFault.{AdmitFault}
use Rattle.universe_core.specs.declared.fault.AdmitFault.TheVariants as admission
use Rattle.audit_core.specs.declared.auditing.Audited.{Audited}
use Rattle.audit_core.specs.declared.fault.AuditFault.{AuditFault}
use Rattle.audit_core.specs.declared.fault.AuditFault.TheVariants as faults
use Rattle.audit_core.specs.Auditing.{left_by_jobs, refusal_behind, AreAdmitted, IsRefused, IsAccepted, AllAgree, ComesBefore, Disagree, IsFound}
use Rattle.audit_core.proofs.Jobs.{accepted_in}

-- a place is before another, at it, or behind it
compared : (m n : ℕ) → (m < n) ⊎ ((m ≡ n) ⊎ (n < m))
compared m n =
    elim (cases_lt m n) [
      | inl lt ↦ inl lt
      | inr ge ↦ elim (cases_lt n m) [ inl gt ↦ inr (inr gt) | inr le ↦ inr (inl (omega (arith, ge, le))) ]
    ]

item_same : {A : Type 0} (x y : A) (o : Option A) → o ≡ Some x → o ≡ Some y → x ≡ y
item_same x y o h k = some_item x y (sym h ∙ k)

-- ---- jobs that aren't admitted

module _ (jobs : List JobFields) where
  before_refused : (n j : ℕ) (why : AdmitFault) → j < n → AreAdmitted jobs n → IsRefused jobs j why → ⊥
  before_refused n j why lt all r =
      let e : ◌≡◌ {A = Option AdmitFault} None (Some why) = sym (all j r.job lt r.at) ∙ r.refused in cc

  all_refused : (j : ℕ) (why : AdmitFault) → AreAdmitted jobs (length jobs) → IsRefused jobs j why → ⊥
  all_refused j why all r = before_refused (length jobs) j why (slice_get_within jobs j r.job r.at) all r

  refused_place : (j k : ℕ) (why other : AdmitFault) → IsRefused jobs j why → IsRefused jobs k other → j ≡ k
  refused_place j k why other r q =
      ⊎_elim (λ lt. absurd (before_refused k j why lt q.admitted r))
      (λ s. ⊎_elim (λ e. e) (λ gt. absurd (before_refused j k other gt r.admitted q)) s) (compared j k)

  refused_here : (j : ℕ) (why other : AdmitFault) → IsRefused jobs j why → IsRefused jobs j other → why ≡ other
  refused_here j why other r q =
      let same = item_same r.job q.job (slice_get jobs j) r.at q.at in
      item_same why other (refusal_behind (take j jobs) q.job)
      (subst (λ (job : JobFields). refusal_behind (take j jobs) job ≡ Some why) same r.refused) q.refused

  refused_same : (j k : ℕ) (why other : AdmitFault) → IsRefused jobs j why → IsRefused jobs k other → (j ≡ k) × (why ≡ other)
  refused_same j k why other r q =
      let place = refused_place j k why other r q in
      (place, refused_here k why other (subst (λ (i : ℕ). IsRefused jobs i why) place r) q)

-- ---- disagreements

module _ (parts : List PartFields) (jobs : List JobFields) where
  agree_not : (j n : ℕ) (v : Verdict) (b : Bool) → AllAgree parts jobs → Disagree parts jobs j n v b → ⊥
  agree_not j n v b all d = d.differs (d.held ∙ all j n d.entry d.accepted)

  before_not : (j n i m : ℕ) (v w : Verdict) (b c : Bool) → ComesBefore j n i m → Disagree parts jobs j n v b → Disagree parts jobs i m w c → ⊥
  before_not j n i m v w b c before d e = d.differs (d.held ∙ e.first j n d.entry d.accepted before)

  same_job : (j n i m : ℕ) (v w : Verdict) (b c : Bool) → Disagree parts jobs j n v b → Disagree parts jobs i m w c → j ≡ i
  same_job j n i m v w b c d e =
      ⊎_elim (λ lt. absurd (before_not j n i m v w b c (inl lt) d e))
      (λ s. ⊎_elim (λ h. h) (λ gt. absurd (before_not i m j n w v c b (inl gt) e d)) s) (compared j i)

  same_entry : (j n m : ℕ) (v w : Verdict) (b c : Bool) → Disagree parts jobs j n v b → Disagree parts jobs j m w c → n ≡ m
  same_entry j n m v w b c d e =
      ⊎_elim (λ lt. absurd (before_not j n j m v w b c (inr (refl, lt)) d e))
      (λ s. ⊎_elim (λ h. h) (λ gt. absurd (before_not j m j n w v c b (inr (refl, gt)) e d)) s) (compared n m)

  accepted_same : (j n : ℕ) (d e : Entry) → IsAccepted jobs j n d → IsAccepted jobs j n e → d ≡ e
  accepted_same j n d e a b = some_item d e (some_item (Some d) (Some e) (sym (accepted_in jobs j b.job b.at n d a).0 ∙ b.entry))

  said_same : (j n : ℕ) (v w : Verdict) (b c : Bool) → Disagree parts jobs j n v b → Disagree parts jobs j n w c → (v ≡ w) × (b ≡ c)
  said_same j n v w b c d e =
      let same = accepted_same j n d.entry e.entry d.accepted e.accepted in (
        d.held ∙ ap (λ (x : Entry). verdict parts x.id (x.sighting ∷ [])) same ∙ sym e.held,
        d.listed ∙ ap (λ (x : Entry). is_listed (left_by_jobs jobs) x.id) same ∙ sym e.listed,
      )

  disagree_same : (j n i m : ℕ) (v w : Verdict) (b c : Bool) → Disagree parts jobs j n v b → Disagree parts jobs i m w c → faults.Disagrees j n v b ≡ faults.Disagrees i m w c
  disagree_same j n i m v w b c d e =
      let job = same_job j n i m v w b c d e in
      let here = subst (λ (k : ℕ). Disagree parts jobs k n v b) job d in
      let place = same_entry i n m v w b c here e in
      let said = said_same i m v w b c (subst (λ (k : ℕ). Disagree parts jobs i k v b) place here) e in
      rw (job, place, said.0, said.1) refl

  -- ---- what is found

  old_same : (j i held given other now : ℕ) → (j ≡ i) × (admission.OldEpoch held given ≡ admission.OldEpoch other now) → faults.OldEpoch j held given ≡ faults.OldEpoch i other now
  old_same j i held given other now (place, why) =
      let h : held ≡ other = cc in let g : given ≡ now = cc in rw (place, h, g) refl

  shrunk_same : (j i : ℕ) (log other : List ℕ) → (j ≡ i) × (admission.CoverageShrinks log ≡ admission.CoverageShrinks other) → faults.CoverageShrinks j log ≡ faults.CoverageShrinks i other
  shrunk_same j i log other (place, why) = let h : log ≡ other = cc in rw (place, h) refl

  pub one_found : (a b : Result Audited AuditFault) → IsFound parts jobs a → IsFound parts jobs b → a ≢ Err faults.NoMemory → b ≢ Err faults.NoMemory → a ≡ b
  one_found (Ok a) (Ok b) x y p q = ap (λ (n : ℕ). Ok (record { entries = n })) (x.2 ∙ sym y.2)
  one_found (Ok a) (Err (faults.OldEpoch j held given)) x y p q = absurd (all_refused jobs j (admission.OldEpoch held given) x.0 y)
  one_found (Ok a) (Err (faults.CoverageShrinks j log)) x y p q = absurd (all_refused jobs j (admission.CoverageShrinks log) x.0 y)
  one_found (Ok a) (Err (faults.Disagrees j n held listed)) x y p q = absurd (agree_not j n held listed x.1 y.1)
  one_found (Err (faults.OldEpoch j held given)) (Ok b) x y p q = absurd (all_refused jobs j (admission.OldEpoch held given) y.0 x)
  one_found (Err (faults.OldEpoch j held given)) (Err (faults.OldEpoch i other now)) x y p q =
      ap (λ (f : AuditFault). Err f)
      (old_same j i held given other now (refused_same jobs j i (admission.OldEpoch held given) (admission.OldEpoch other now) x y))
  one_found (Err (faults.OldEpoch j held given)) (Err (faults.CoverageShrinks i log)) x y p q =
      let why = (refused_same jobs j i (admission.OldEpoch held given) (admission.CoverageShrinks log) x y).1 in absurd cc
  one_found (Err (faults.OldEpoch j held given)) (Err (faults.Disagrees i n said listed)) x y p q = absurd (all_refused jobs j (admission.OldEpoch held given) y.0 x)
  one_found (Err (faults.CoverageShrinks j log)) (Ok b) x y p q = absurd (all_refused jobs j (admission.CoverageShrinks log) y.0 x)
  one_found (Err (faults.CoverageShrinks j log)) (Err (faults.OldEpoch i held given)) x y p q =
      let why = (refused_same jobs j i (admission.CoverageShrinks log) (admission.OldEpoch held given) x y).1 in absurd cc
  one_found (Err (faults.CoverageShrinks j log)) (Err (faults.CoverageShrinks i other)) x y p q =
      ap (λ (f : AuditFault). Err f)
      (shrunk_same j i log other (refused_same jobs j i (admission.CoverageShrinks log) (admission.CoverageShrinks other) x y))
  one_found (Err (faults.CoverageShrinks j log)) (Err (faults.Disagrees i n said listed)) x y p q = absurd (all_refused jobs j (admission.CoverageShrinks log) y.0 x)
  one_found (Err (faults.Disagrees j n held listed)) (Ok b) x y p q = absurd (agree_not j n held listed y.1 x.1)
  one_found (Err (faults.Disagrees j n held listed)) (Err (faults.OldEpoch i old now)) x y p q = absurd (all_refused jobs i (admission.OldEpoch old now) x.0 y)
  one_found (Err (faults.Disagrees j n held listed)) (Err (faults.CoverageShrinks i log)) x y p q = absurd (all_refused jobs i (admission.CoverageShrinks log) x.0 y)
  one_found (Err (faults.Disagrees j n held listed)) (Err (faults.Disagrees i m said other)) x y p q =
      ap (λ (f : AuditFault). Err f) (disagree_same j n i m held said listed other x.1 y.1)
  one_found (Err faults.NoMemory) b x y p q = absurd (p refl)
  one_found (Ok a) (Err faults.NoMemory) x y p q = absurd (q refl)
  one_found (Err (faults.OldEpoch j held given)) (Err faults.NoMemory) x y p q = absurd (q refl)
  one_found (Err (faults.CoverageShrinks j log)) (Err faults.NoMemory) x y p q = absurd (q refl)
  one_found (Err (faults.Disagrees j n held listed)) (Err faults.NoMemory) x y p q = absurd (q refl)
