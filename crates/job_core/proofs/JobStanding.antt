-- What a reader of a job stands for, from one record to the next.
use Rattle.std.proofs.Common.{◌≡◌, ℕ, ◌+◌, ◌-◌, ◌≤◌, ◌<◌, ◌^◌, List, [], ◌∷◌, ◌++◌, length, get_or, take, drop, replicate, Option, Some, None, Result, Ok, Err}
use Rattle.std.proofs.Common.{refl, sym, ap, subst, ◌∙◌, append_assoc, length-append, length-take, arith, inl, inr}
use Rattle.std.specs.Prelude.{OnOk}
use Rattle.std.specs.Int.{w8, to_be_bytes}
use Rattle.std.proofs.Math.Seq.{take-add}
use Rattle.std.proofs.lemmas.Bool.{cases_lt}
use Rattle.std.proofs.lemmas.List.{take_all, take_at, drop_at, append-nil, length-drop, length-replicate, get_or-replicate, get_or_append_left, get_or-drop, take-append-drop}
use Rattle.std.proofs.lemmas.Grind.{flat_map-append}
use Rattle.octets_core.specs.Position.{piece}
use Rattle.octets_core.specs.Layout.{Layout, then_read, ◌>>=◌, whole}
use Rattle.octets_core.specs.Reading.{end as end_of}
use Rattle.octets_core.proofs.Fields.{mapped-ok}
use Rattle.octets_core.proofs.Texts.{IsBytes, Takes}
use Rattle.job_core.specs.declared.bounds.Limits.{Limits}
use Rattle.job_core.specs.declared.fault.JobFault.{JobFault}
use Rattle.job_core.specs.JobLayout.{fielded, Item, OneRange, OneCrl, OneEntry, HeldSoFar, nothing_held, with_item, with_serials, next_item, opening, records, JobTexts, job}
use Rattle.job_core.specs.JobText.{opening_text, record_text, FitsItem, Pass, held_behind, serials_behind, behind}
use Rattle.job_core.specs.declared.fault.JobFault.TheVariants as faults
use Rattle.job_core.specs.declared.reader.JobReader.{JobReader}
use Rattle.job_core.specs.declared.reader.Stage.{Stage}
use Rattle.job_core.specs.declared.reader.Stage.TheVariants as stages
use Rattle.job_core.specs.declared.reader.Record.{Record}
use Rattle.job_core.specs.declared.reader.Record.TheVariants as gives
use Rattle.job_core.specs.Partial.{held_in}
use Rattle.outside_core.specs.declared.depot.Depot.{Ghosts}
use Rattle.outside_core.specs.declared.feed.Feed.{Feed}
use Rattle.job_core.specs.Reader.{no_serials, with_record, Begins, StandsAt, StandsFor, text_of, GivesNext, ReadsNext}
use Rattle.job_core.specs.Pulling.{AreBytes, IsOfBytes}
use Rattle.job_core.proofs.Steps.{Advances, next-advances, opening-advances, fails, ends}
use Rattle.job_core.proofs.Passing.{texts_of, passes}
use Rattle.job_core.proofs.RecordsSpelled.{Says, next-leaves}
use Rattle.job_core.proofs.JobSpelled.{opening-leaves, end-tells}
use Rattle.job_core.proofs.JobReads.{opening-read, behind-opening, behind_opening}

-- ---- only the bytes that were read are known to be bytes

-- the same piece behind zeros
abbrev padded : List ℕ → ℕ → ℕ → List ℕ
padded file at end = replicate at 0 ++ piece (end - at) file at

module _ (file : List ℕ) (at end : ℕ) (le : at ≤ end) (room : end ≤ length file) (fits : AreBytes (piece (end - at) file at)) where
  length-piece : length (piece (end - at) file at) ≡ end - at
  length-piece = omega (arith, length-take (end - at) (drop at file), length-drop at file)

  padded-back : drop at (padded file at end) ≡ piece (end - at) file at
  padded-back = drop_at (replicate at 0) (piece (end - at) file at) at (length-replicate at 0)

  padded-same : piece (end - at) (padded file at end) at ≡ piece (end - at) file at
  padded-same = ap (take (end - at)) padded-back ∙ take_all (end - at) (piece (end - at) file at) (omega (arith, length-piece))

  padded-length : length (padded file at end) ≡ end
  padded-length = omega (arith, length-append (replicate at 0) (piece (end - at) file at), length-replicate {A = ℕ} at 0, length-piece)

  padded-bytes : IsBytes (padded file at end)
  padded-bytes = λ i. elim (cases_lt i at) [
    | inl lt ↦
        let a : get_or (padded file at end) i 0 ≡ get_or (replicate at 0) i 0 = get_or_append_left (replicate at 0) (piece (end - at) file at) 0 i (omega (arith, lt, length-replicate {A = ℕ} at 0)) in
        omega (arith, a, get_or-replicate {A = ℕ} at i 0 0 lt)
    | inr past ↦
        let b : get_or (padded file at end) i 0 ≡ get_or (piece (end - at) file at) (i - at) 0
        = ap (λ (n : ℕ). get_or (padded file at end) n 0) (omega (arith, past)) ∙ sym (get_or-drop at (padded file at end) (i - at) 0) ∙ ap (λ (l : List ℕ). get_or l (i - at) 0) padded-back in
        omega (arith, b, fits (i - at))
  ]

  unpadded : (text : List ℕ) → Takes (padded file at end) at text end → Takes file at text end
  unpadded text takes =
      let front : take at (padded file at end) ≡ replicate at 0 = take_at (replicate at 0) (piece (end - at) file at) at (length-replicate at 0) in
      let all : padded file at end ≡ replicate at 0 ++ text
      = sym (take_all end (padded file at end) (omega (arith, padded-length))) ∙ takes.parts ∙ ap (λ (l : List ℕ). l ++ text) front in
      let same : piece (end - at) file at ≡ text = sym padded-back ∙ ap (drop at) all ∙ drop_at (replicate at 0) text at (length-replicate at 0) in
      let k : end ≡ at + (end - at) = omega (arith, le) in
      record {
        parts = ap (λ (n : ℕ). take n file) k ∙ take-add at (end - at) file ∙ ap (λ (l : List ℕ). take at file ++ l) same;
        room = room;
      }

  read-padded : {E A : Type 0} (layout : Layout E A) → Advances layout → (x : A) → layout file at ≡ Ok (x, end) → layout (padded file at end) at ≡ Ok (x, end)
  read-padded layout advances x is = advances.local file (padded file at end) at (x, end) is padded-same (omega (arith, padded-length))

  pub opening-found : (o : ℕ × ℕ) → opening file at ≡ Ok (o, end) → Takes file at (opening_text o.0 o.1) end × (o.0 < 2 ^ 64) × (o.1 < 2 ^ 64)
  opening-found o is =
      let l = (opening-leaves (padded file at end) padded-bytes at).each (o, end) (read-padded opening opening-advances o is) in
      (unpadded (opening_text o.0 o.1) l.0, l.1, l.2)

  found-says : (limits : Limits) (h : HeldSoFar) (x : Option Item) → Says limits h (padded file at end) at x end → Says limits h file at x end
  found-says limits h None says = unpadded (to_be_bytes w8 0) says
  found-says limits h (Some x) says = (unpadded (record_text x) says.0, says.1)

  pub next-found : (limits : Limits) (h : HeldSoFar) (x : Option Item) → next_item limits h file at ≡ Ok (x, end) → Says limits h file at x end
  next-found limits h x is =
      found-says limits h x ((next-leaves limits h (padded file at end) padded-bytes at).each (x, end) (read-padded (next_item limits h) (next-advances limits h) x is))

-- ---- one record more

same_serials : (n : ℕ) (x : Item) → with_serials no_serials n x ≡ n
same_serials n (OneRange r) = refl
same_serials n (OneCrl c) = omega arith
same_serials n (OneEntry e) = refl

pass-more : (limits : Limits) (h : HeldSoFar) (n : ℕ) (xs : List Item) (x : Item) → n ≤ limits.serials → Pass no_serials limits h n xs → FitsItem limits (held_behind h xs) x
    → Pass no_serials limits h n (xs ++ x ∷ [])
pass-more limits h n [] x le pass fits = (fits, omega (arith, le, same_serials n x), tt)
pass-more limits h n (y ∷ xs) x le pass fits = (pass.0, pass.1, pass-more limits (with_item h y) (with_serials no_serials n y) xs x pass.1 pass.2 fits)

held-more : (h : HeldSoFar) (xs : List Item) (x : Item) → held_behind h (xs ++ x ∷ []) ≡ with_item (held_behind h xs) x
held-more h [] x = refl
held-more h (y ∷ xs) x = held-more (with_item h y) xs x

pub begins-more : (limits : Limits) (numbers later : HeldSoFar) (b : List ℕ) (t : JobTexts) (x : Item) → Begins limits numbers b t → FitsItem limits numbers x → later ≡ with_item numbers x
    → Begins limits later (b ++ record_text x) (with_record t x)
begins-more limits numbers later b t x begins fits holds =
    let O : List ℕ = opening_text t.epoch t.moment in
    record {
      spelled = ap (λ (l : List ℕ). l ++ record_text x) begins.spelled
          ∙ append_assoc O (texts_of t.items) (record_text x)
          ∙ ap (λ (l : List ℕ). O ++ l)
          (ap (λ (l : List ℕ). texts_of t.items ++ l) (sym (append-nil (record_text x))) ∙ sym (flat_map-append record_text t.items (x ∷ [])));
      epoch = begins.epoch;
      moment = begins.moment;
      pass = pass-more limits nothing_held 0 t.items x (omega arith) begins.pass (subst (λ (h : HeldSoFar). FitsItem limits h x) begins.held fits);
      held = holds ∙ ap (λ (h : HeldSoFar). with_item h x) begins.held ∙ sym (held-more nothing_held t.items x);
    }

pub begins-first : (limits : Limits) (epoch moment : ℕ) → epoch < 2 ^ 64 → moment < 2 ^ 64
    → Begins limits nothing_held (opening_text epoch moment) (record { epoch = epoch; moment = moment; items = [] })
begins-first limits epoch moment few_epoch few_moment = record {
  spelled = sym (append-nil (opening_text epoch moment));
  epoch = few_epoch;
  moment = few_moment;
  pass = tt;
  held = refl;
}

-- ---- faults of the job

pub opening-fault : (limits : Limits) (file : List ℕ) (e : JobFault) → fielded opening file 0 ≡ Err e → job no_serials limits file 0 ≡ Err e
unfolding job
opening-fault limits file e is = ap (λ r. then_read r (behind_opening no_serials limits) file) is

module _ (limits : Limits) (numbers : HeldSoFar) (file : List ℕ) (at : ℕ) (t : JobTexts) (begins : Begins limits numbers (take at file) t) (within : at ≤ length file) where
  abbrev O : List ℕ
  O = opening_text t.epoch t.moment

  abbrev T : List ℕ
  T = texts_of t.items

  abbrev rest : List ℕ
  rest = drop at file

  file-is : file ≡ O ++ (T ++ rest)
  file-is = sym (take-append-drop at file) ∙ ap (λ (l : List ℕ). l ++ rest) begins.spelled ∙ append_assoc O T rest

  place-is : at ≡ length O + length T
  place-is = omega (arith, length-take at file, within, ap length begins.spelled, length-append O T)

  job-behind : job no_serials limits file 0 ≡ then_read (behind t.items (records no_serials limits numbers (serials_behind no_serials 0 t.items) file at))
      (λ xs. fielded end_of >>= λ over. whole (record { epoch = t.epoch; moment = t.moment; items = xs })) file
  job-behind =
      let opened : opening file 0 ≡ Ok ((t.epoch, t.moment), length O)
      = ap (λ (l : List ℕ). opening l 0) file-is ∙ (opening-read t.epoch t.moment begins.epoch begins.moment []).each (T ++ rest) in
      let passed : records no_serials limits nothing_held 0 file (length O) ≡ behind t.items (records no_serials limits numbers (serials_behind no_serials 0 t.items) file at)
      = ap (λ (l : List ℕ). records no_serials limits nothing_held 0 l (length O)) file-is
      ∙ passes no_serials limits nothing_held 0 t.items O rest begins.pass
      ∙ ap (λ (l : List ℕ). behind t.items (records no_serials limits (held_behind nothing_held t.items) (serials_behind no_serials 0 t.items) l (length O + length T))) (sym file-is)
      ∙ ap (λ (n : ℕ). behind t.items (records no_serials limits (held_behind nothing_held t.items) (serials_behind no_serials 0 t.items) file n)) (sym place-is)
      ∙ ap (λ (h : HeldSoFar). behind t.items (records no_serials limits h (serials_behind no_serials 0 t.items) file at)) (sym begins.held) in
      behind-opening no_serials limits file 0 (t.epoch, t.moment) (length O) opened
      ∙ ap (λ r. then_read r (λ xs. fielded end_of >>= λ over. whole (record { epoch = t.epoch; moment = t.moment; items = xs })) file) passed

  pub record-fault : (e : JobFault) → next_item limits numbers file at ≡ Err e → job no_serials limits file 0 ≡ Err e
  record-fault e is =
      job-behind
      ∙ ap (λ r. then_read (behind t.items r) (λ xs. fielded end_of >>= λ over. whole (record { epoch = t.epoch; moment = t.moment; items = xs })) file)
      (fails no_serials limits numbers (serials_behind no_serials 0 t.items) file at e is)

  pub end-fault : (q : ℕ) (e : JobFault) → next_item limits numbers file at ≡ Ok (None, q) → fielded end_of file q ≡ Err e → job no_serials limits file 0 ≡ Err e
  end-fault q e is over =
      job-behind
      ∙ ap (λ r. then_read (behind t.items r) (λ xs. fielded end_of >>= λ over. whole (record { epoch = t.epoch; moment = t.moment; items = xs })) file)
      (ends no_serials limits numbers (serials_behind no_serials 0 t.items) file at q is)
      ∙ ap (λ r. then_read r (λ over. whole (record { epoch = t.epoch; moment = t.moment; items = t.items ++ [] })) file) over

-- ---- what a reader gives

end-seen : (file : List ℕ) (q last : ℕ) (u : Unit {0}) → fielded end_of file q ≡ Ok (u, last) → (last ≡ q) × (length file ≤ q)
end-seen file q last u is = (end-tells file q).each (u, last) (mapped-ok faults.Layout end_of file q (u, last) is)

stands-records : (old : JobReader) (b : List ℕ) → old.stage ≡ stages.Records → StandsFor old b → (t : JobTexts) × Begins old.limits (held_in old.numbers) b t
stands-records old b is stands = subst (λ (s : Stage). StandsAt s old.limits (held_in old.numbers) b) is stands

stands-opening : (old : JobReader) (b : List ℕ) → old.stage ≡ stages.Opening → StandsFor old b → (b ≡ []) × (held_in old.numbers ≡ nothing_held)
stands-opening old b is stands = subst (λ (s : Stage). StandsAt s old.limits (held_in old.numbers) b) is stands

module _ (old new : JobReader) (file : List ℕ) (at end : ℕ) (le : at ≤ end) (room : end ≤ length file) (lim : new.limits ≡ old.limits) (stands : StandsFor old (take at file)) where
  stands-later : (s : Stage) → new.stage ≡ s → StandsAt s new.limits (held_in new.numbers) (take end file) → StandsFor new (take end file)
  stands-later s is later = subst (λ (s : Stage). StandsAt s new.limits (held_in new.numbers) (take end file)) (sym is) later

  pub gives-one : (x : Item) (r : Record) → old.stage ≡ stages.Records → new.stage ≡ stages.Records → held_in new.numbers ≡ with_item (held_in old.numbers) x → text_of r ≡ record_text x
      → (r ≡ gives.End → ⊥) → (next_item old.limits (held_in old.numbers) file at ≡ Ok (Some x, end)) × AreBytes (piece (end - at) file at) → GivesNext old new file at end (Ok r)
  gives-one x r was is holds text other told =
      let says = next-found file at end le room told.1 old.limits (held_in old.numbers) (Some x) told.0 in
      let (t, begins) = stands-records old (take at file) was stands in
      let more : Begins old.limits (held_in new.numbers) (take end file) (with_record t x)
      = subst (λ (b : List ℕ). Begins old.limits (held_in new.numbers) b (with_record t x)) (sym says.0.parts)
      (begins-more old.limits (held_in old.numbers) (held_in new.numbers) (take at file) t x begins says.1 holds) in (
        says.0.parts ∙ ap (λ (l : List ℕ). take at file ++ l) (sym text),
        stands-later stages.Records is (with_record t x, subst (λ (l : Limits). Begins l (held_in new.numbers) (take end file) (with_record t x)) (sym lim) more),
        λ same. absurd (other same),
      )

  pub gives-end : (q : ℕ) (u : Unit {0}) → old.stage ≡ stages.Records → new.stage ≡ stages.Ended → q ≡ end
      → (next_item old.limits (held_in old.numbers) file at ≡ Ok (None, q)) × AreBytes (piece (q - at) file at) → fielded end_of file q ≡ Ok (u, end) → GivesNext old new file at end (Ok gives.End)
  gives-end q u was is same told over =
      let told_at = subst (λ (n : ℕ). (next_item old.limits (held_in old.numbers) file at ≡ Ok (None, n)) × AreBytes (piece (n - at) file at)) same told in
      let says = next-found file at end le room told_at.1 old.limits (held_in old.numbers) None told_at.0 in
      let (t, begins) = stands-records old (take at file) was stands in (
        says.parts,
        stands-later stages.Ended is (held_in old.numbers, take at file, t, says.parts, subst (λ (l : Limits). Begins l (held_in old.numbers) (take at file) t) (sym lim) begins),
        λ is_end. omega (arith, same, (end-seen file q end u over).1),
      )

  pub gives-first : (o : ℕ × ℕ) → old.stage ≡ stages.Opening → new.stage ≡ stages.Records → held_in new.numbers ≡ held_in old.numbers
      → (fielded opening file at ≡ Ok (o, end)) × AreBytes (piece (end - at) file at) → GivesNext old new file at end (Ok (gives.Begin o.0 o.1))
  gives-first o was is holds told =
      let found = opening-found file at end le room told.1 o (mapped-ok faults.Layout opening file at (o, end) told.0) in
      let none = stands-opening old (take at file) was stands in
      let t : JobTexts = record { epoch = o.0; moment = o.1; items = [] } in
      let text : take end file ≡ opening_text o.0 o.1 = found.0.parts ∙ ap (λ (l : List ℕ). l ++ opening_text o.0 o.1) none.0 in
      let first : Begins new.limits (held_in new.numbers) (take end file) t
      = subst (λ (b : List ℕ). Begins new.limits (held_in new.numbers) b t) (sym text)
      (subst (λ (h : HeldSoFar). Begins new.limits h (opening_text o.0 o.1) t) (sym (holds ∙ none.1)) (begins-first new.limits o.0 o.1 found.1 found.2)) in (
        found.0.parts,
        stands-later stages.Records is (t, first),
        λ same. absurd cc,
      )

module _ (old new : JobReader) (file : List ℕ) (at end : ℕ) (within : at ≤ length file) (stands : StandsFor old (take at file)) (e : JobFault) where
  pub gives-fault : old.stage ≡ stages.Records → (IsOfBytes e → next_item old.limits (held_in old.numbers) file at ≡ Err e) → GivesNext old new file at end (Err e)
  gives-fault was is = λ of.
      let (t, begins) = stands-records old (take at file) was stands in
      record-fault old.limits (held_in old.numbers) file at t begins within e (is of)

  pub gives-more : (q : ℕ) → old.stage ≡ stages.Records → next_item old.limits (held_in old.numbers) file at ≡ Ok (None, q) → (IsOfBytes e → fielded end_of file q ≡ Err e)
      → GivesNext old new file at end (Err e)
  gives-more q was is over = λ of.
      let (t, begins) = stands-records old (take at file) was stands in
      end-fault old.limits (held_in old.numbers) file at t begins within q e is (over of)

  pub gives-no_job : old.stage ≡ stages.Opening → (IsOfBytes e → fielded opening file at ≡ Err e) → GivesNext old new file at end (Err e)
  gives-no_job was is = λ of.
      let none = stands-opening old (take at file) was stands in
      let first : at ≡ 0 = omega (arith, within, length-take at file, ap length none.0) in
      opening-fault old.limits file e (subst (λ (n : ℕ). fielded opening file n ≡ Err e) first (is of))

-- keeping an answer changes a reader only behind a fault
pub reads-kept : {D : Type 0} (g : Ghosts D) (old mid new : JobReader) (from to : Feed D) (r : Result Record JobFault) → OnOk r (new ≡ mid) → ReadsNext g old mid from to r
    → ReadsNext g old new from to r
reads-kept g old mid new from to (Ok r) same reads = subst (λ (n : JobReader). ReadsNext g old n from to (Ok r)) (sym same) reads
reads-kept g old mid new from to (Err e) same reads = reads
