-- What is found of the entries of one job.
use Rattle.std.specs.List.{slice_get, count_by}
use Rattle.std.specs.Prelude.{is_some}
use Rattle.std.specs.Option.{option_map}
use Rattle.std.proofs.Common.{◌≡◌, ◌≢◌, ℕ, ◌+◌, ◌<◌, ◌≤◌, List, [], ◌∷◌, ◌++◌, map, length, take, Bool, true, false, cond, Option, Some, None, refl, sym, ap, ◌∙◌, subst, length-append, arith}
use Rattle.std.proofs.lemmas.Option.{slice_get-map, slice_get_within}
use Rattle.std.proofs.lemmas.List.{length-take}
use Rattle.std.proofs.lemmas.List.Sums.{sum_by_push, count_by-le-length}
use Rattle.card_core.specs.PartFields.{PartFields}
use Rattle.card_core.specs.declared.verdict.Verdict.{Verdict}
use Rattle.card_core.specs.declared.verdict.Verdict.TheVariants.{NotCovered}
use Rattle.card_core.specs.Verdict.{verdict}
use Rattle.log_core.specs.declared.Entry.{Entry}
use Rattle.job_core.specs.JobFields.{JobFields}
use Rattle.ledger_core.specs.LedgerFields.{LedgerPartFields, LedgerFields}
use Rattle.ident_core.specs.Among.{Among}
use Rattle.ident_core.proofs.Elements.{Among-from_place, some_item}
use Rattle.universe_core.specs.Jobs.{facts_of}
use Rattle.universe_core.specs.History.{Release, class_by, class_of, if_accepted, is_listed, past_of, seen, shown}
use Rattle.universe_core.specs.Ledgers.{ledger_of, part_from}
use Rattle.universe_core.specs.declared.class.Class.{Class}
use Rattle.universe_core.specs.declared.class.Class.TheVariants.{Unread, Uncovered, Unenrolled, Late, Accepted}
use Rattle.history_core.specs.Facts.{IsSound}
use Rattle.history_core.proofs.Releases.{seen-push}
use Rattle.audit_core.specs.declared.fault.AuditFault.{AuditFault}
use Rattle.audit_core.specs.declared.checking.Agreement.{Agreement}
use Rattle.audit_core.specs.declared.checking.Agreement.TheVariants as agreements
use Rattle.audit_core.specs.Auditing.{left_by_jobs, entries_of, IsAccepted, Agrees}
use Rattle.audit_core.specs.Checking.{listing, is_truth, truth_by, agreement_by, agreement_of, IsFine, AreFine, is_told, IsFirstOf, IsFirstIn}
use Rattle.audit_core.proofs.Lists.{take_at, length-filter_map, count_agree}
use Rattle.audit_core.proofs.Verdicts.{truth_is, truth_is_not}
use Rattle.audit_core.proofs.Jobs.{accepted_in, release_behind, history_at, history_cut, history-length}
use Rattle.audit_core.proofs.Accepting.{told_by, listing_is}

slice_mid : {A : Type 0} (xs ys : List A) (x : A) → slice_get (xs ++ x ∷ ys) (length xs) ≡ Some x
slice_mid [] ys x = refl
slice_mid (y ∷ xs) ys x = slice_mid xs ys x

pub parts_are : (rs : List Release) → (ledger_of rs).parts ≡ map part_from rs
unfolding ledger_of
parts_are rs = refl

-- ---- what an answer tells

fine_truth : (b : Bool) (v : Verdict) (t : Bool) → IsFine (cond b agreements.Agrees (agreements.Disagrees v t)) → b ≡ true
fine_truth true v t f = refl
fine_truth false v t f = absurd f

abbrev held_of : Agreement → Verdict
held_of agreements.Skipped = NotCovered
held_of agreements.Agrees = NotCovered
held_of (agreements.Disagrees v t) = v

abbrev listed_of : Agreement → Bool
listed_of agreements.Skipped = false
listed_of agreements.Agrees = false
listed_of (agreements.Disagrees v t) = t

abbrev Differs : Class → Verdict → Bool → Verdict → Bool → Type 0
Differs c v t held listed = (c ≡ Accepted) × (held ≡ v) × (listed ≡ t) × (held ≢ truth_by listed)

differs_by : (b : Bool) (v : Verdict) (t : Bool) (held : Verdict) (listed : Bool) → is_truth v t ≡ b → cond b agreements.Agrees (agreements.Disagrees v t) ≡ agreements.Disagrees held listed
    → Differs Accepted v t held listed
differs_by true v t held listed e h = absurd cc
differs_by false v t held listed e h =
    let v_is : held ≡ v = sym (ap held_of h) in
    let t_is : listed ≡ t = sym (ap listed_of h) in
    (refl, v_is, t_is, λ q. truth_is_not v t e (sym v_is ∙ q ∙ ap truth_by t_is))

disagrees_by : (parts : List PartFields) (e : Entry) (c : Class) (t : Bool) (held : Verdict) (listed : Bool) → agreement_by parts e (told_by c t) ≡ agreements.Disagrees held listed
    → Differs c (verdict parts e.id (e.sighting ∷ [])) t held listed
disagrees_by parts e Unread t held listed h = absurd cc
disagrees_by parts e Uncovered t held listed h = absurd cc
disagrees_by parts e Unenrolled t held listed h = absurd cc
disagrees_by parts e Late t held listed h = absurd cc
disagrees_by parts e Accepted t held listed h =
    differs_by (is_truth (verdict parts e.id (e.sighting ∷ [])) t) (verdict parts e.id (e.sighting ∷ [])) t held listed refl h

told_if : (c : Class) (t : Bool) (e : Entry) → is_some (told_by c t) ≡ is_some (if_accepted c (Some e))
told_if Unread t e = refl
told_if Uncovered t e = refl
told_if Unenrolled t e = refl
told_if Late t e = refl
told_if Accepted t e = refl

-- ---- one job

module _ (jobs : List JobFields) (j : ℕ) (job : JobFields) (at : slice_get jobs j ≡ Some job) (sound : IsSound (left_by_jobs jobs))
    (ledger : LedgerFields) (is : ledger ≡ ledger_of (left_by_jobs jobs)) (part : LedgerPartFields) (here : slice_get ledger.parts j ≡ Some part) where
  place_is : length (left_by_jobs (take j jobs)) ≡ j
  place_is =
      let a = history-length (take j jobs) in
      let lt = slice_get_within jobs j job at in
      let b = length-take j jobs in
      omega (arith, a, b, lt)

  part_is : part ≡ part_from (release_behind (take j jobs) job)
  part_is =
      let cut = history_cut jobs j job at in
      let r = release_behind (take j jobs) job in
      let whole : slice_get (left_by_jobs jobs) j ≡ Some r
      = ap (λ rs. slice_get rs j) cut.1 ∙ ap (slice_get (left_by_jobs (take j jobs) ++ r ∷ cut.0)) (sym place_is) ∙ slice_mid (left_by_jobs (take j jobs)) cut.0 r in
      some_item part (part_from r)
      (sym here ∙ ap (λ (l : LedgerFields). slice_get l.parts j) is ∙ ap (λ ps. slice_get ps j) (parts_are (left_by_jobs jobs)) ∙ slice_get-map part_from (left_by_jobs jobs) j ∙ ap (option_map part_from) whole)

  told : (e : Entry) → Among job.entries (Some e) → listing ledger part e ≡ told_by (class_of (past_of (left_by_jobs (take j jobs))) (facts_of job) (Some e)) (is_listed (left_by_jobs jobs) e.id)
  told e a =
      let cut = history_cut jobs j job at in
      let r = release_behind (take j jobs) job in
      ap (λ l. listing l part e) is ∙ ap (λ p. listing (ledger_of (left_by_jobs jobs)) p e) part_is
      ∙ subst (λ rs. listing (ledger_of rs) (part_from r) e ≡ told_by (class_of (past_of (left_by_jobs (take j jobs))) (facts_of job) (Some e)) (is_listed rs e.id)) (sym cut.1)
      (listing_is (left_by_jobs (take j jobs)) cut.0 (facts_of job) (subst IsSound cut.1 sound) e a)

  -- where the first entries are fine, the parts say the truth of the accepted ones
  pub agrees_to : (parts : List PartFields) (k : ℕ) → AreFine parts (listing ledger part) job.entries k → (n : ℕ) (e : Entry) → n < k → IsAccepted jobs j n e → Agrees parts jobs e
  agrees_to parts k f n e lt a =
      let t = is_listed (left_by_jobs jobs) e.id in
      let v = verdict parts e.id (e.sighting ∷ []) in
      let among = Among-from_place job.entries n (Some e) (accepted_in jobs j job at n e a).0 in
      let tells : listing ledger part e ≡ Some t = told e among ∙ ap (λ c. told_by c t) ((accepted_in jobs j job at n e a).1) in
      let fine : IsFine (cond (is_truth v t) agreements.Agrees (agreements.Disagrees v t)) = subst (λ o. IsFine (agreement_by parts e o)) tells (f n (Some e) lt (accepted_in jobs j job at n e a).0) in
      truth_is v t (fine_truth (is_truth v t) v t fine)

  pub agrees_all : (parts : List PartFields) → AreFine parts (listing ledger part) job.entries (length job.entries) → (n : ℕ) (e : Entry) → IsAccepted jobs j n e → Agrees parts jobs e
  agrees_all parts f n e a = agrees_to parts (length job.entries) f n e (slice_get_within job.entries n (Some e) (accepted_in jobs j job at n e a).0) a

  is_told_at : (o : Option Entry) → Among job.entries o → is_told (listing ledger part) o ≡ is_some (if_accepted (class_of (past_of (left_by_jobs (take j jobs))) (facts_of job) o) o)
  unfolding class_by
  is_told_at None a = refl
  is_told_at (Some e) a = ap is_some (told e a) ∙ told_if (class_of (past_of (left_by_jobs (take j jobs))) (facts_of job) (Some e)) (is_listed (left_by_jobs jobs) e.id) e

  pub counted : (n : ℕ) → n ≡ count_by (is_told (listing ledger part)) job.entries → length (seen (left_by_jobs (take (j + 1) jobs))) ≡ length (seen (left_by_jobs (take j jobs))) + n
  unfolding shown
  counted n h =
      let r = release_behind (take j jobs) job in
      let accepted = λ (o : Option Entry). if_accepted (class_of (past_of (left_by_jobs (take j jobs))) (facts_of job) o) o in
      let all : n ≡ length r.shown = h ∙ count_agree (is_told (listing ledger part)) (λ o. is_some (accepted o)) job.entries is_told_at ∙ sym (length-filter_map accepted job.entries) in
      ap (λ rs. length (seen rs)) (history_at jobs j job at) ∙ ap length (seen-push (left_by_jobs (take j jobs)) r) ∙ length-append (seen (left_by_jobs (take j jobs))) r.shown
      ∙ ap (λ m. length (seen (left_by_jobs (take j jobs))) + m) (sym all)

  pub few_at : (n : ℕ) → n ≡ count_by (is_told (listing ledger part)) job.entries → entries_of (take j jobs) + n ≤ entries_of (take (j + 1) jobs)
  few_at n h =
      let a = ap entries_of (take_at jobs j job at) ∙ sum_by_push (λ (k : JobFields). length k.entries) (take j jobs) job in
      let b = count_by-le-length (is_told (listing ledger part)) job.entries in
      omega (arith, a, b, h)

  first_at : (parts : List PartFields) (fault : AuditFault) (f : IsFirstOf parts (listing ledger part) j job.entries fault) (o : Option Entry) → f.entry ≡ o → IsFirstIn parts jobs j fault
  first_at parts fault f None h = absurd (not_disagrees (sym (ap (agreement_of parts (listing ledger part)) h) ∙ f.asked))
    where
      not_disagrees : agreements.Skipped ≡ agreements.Disagrees f.held f.listed → ⊥
      not_disagrees e = absurd cc
  first_at parts fault f (Some e) h =
      let t = is_listed (left_by_jobs jobs) e.id in
      let entry : slice_get job.entries f.place ≡ Some (Some e) = f.at ∙ ap (λ z. Some z) h in
      let among = Among-from_place job.entries f.place (Some e) entry in
      let c = class_of (past_of (left_by_jobs (take j jobs))) (facts_of job) (Some e) in
      let d = disagrees_by parts e c t f.held f.listed (ap (agreement_by parts e) (sym (told e among)) ∙ sym (ap (agreement_of parts (listing ledger part)) h) ∙ f.asked) in
      record {
        place = f.place;
        held = f.held;
        listed = f.listed;
        entry = e;
        fault = f.fault;
        accepted = record { job = job; at = at; entry = entry; accepted = d.0 };
        said = d.1;
        truth = d.2;
        differs = d.3;
        before = λ m z lt a. agrees_to parts f.place f.before m z lt a;
      }

  pub first_is : (parts : List PartFields) (fault : AuditFault) → IsFirstOf parts (listing ledger part) j job.entries fault → IsFirstIn parts jobs j fault
  first_is parts fault f = first_at parts fault f f.entry refl
