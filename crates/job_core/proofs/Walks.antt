-- What a walk over a job's bytes has read, from one record to the next.
use Rattle.std.proofs.Common.{◌≡◌, ℕ, ◌+◌, ◌≤◌, ◌<◌, List, [], ◌∷◌, ◌++◌, length, take, Option, Some, None, Result, Ok, Err, refl, sym, ap, subst, ◌∙◌, append_assoc, length-append, length-take, arith}
use Rattle.std.specs.Int.{w8, to_be_bytes}
use Rattle.std.proofs.lemmas.List.{take_all, append-nil}
use Rattle.std.proofs.lemmas.Grind.{flat_map-append}
use Rattle.octets_core.specs.Layout.{with_fault}
use Rattle.octets_core.specs.Reading.{end as end_of}
use Rattle.octets_core.specs.declared.fault.LayoutFault.{LayoutFault}
use Rattle.job_core.specs.declared.bounds.Limits.{Limits}
use Rattle.job_core.specs.declared.fault.JobFault.{JobFault}
use Rattle.job_core.specs.declared.fault.JobFault.TheVariants as faults
use Rattle.job_core.specs.declared.record_texts.RecordText.{RecordText}
use Rattle.job_core.specs.declared.walking.JobRecords.{JobRecords}
use Rattle.job_core.specs.JobLayout.{Item, OneRange, OneCrl, OneEntry, nothing_held, HeldSoFar, with_item, next_item, opening, JobTexts, job}
use Rattle.job_core.specs.JobText.{opening_text, record_text, ranges_in, entries_in, held_behind}
use Rattle.job_core.specs.Partial.{held_in}
use Rattle.job_core.specs.Pulling.{AreBytes}
use Rattle.job_core.specs.Reader.{no_serials, with_record, Begins}
use Rattle.job_core.specs.Records.{item_shown}
use Rattle.job_core.specs.Walks.{HasRead, ReadsOne, place_in, left_of}
use Rattle.job_core.proofs.Passing.{texts_of}
use Rattle.job_core.proofs.RecordsSpelled.{next-leaves}
use Rattle.job_core.proofs.JobSpelled.{opening-leaves, end-tells}
use Rattle.job_core.proofs.JobReads.{texts-read}
use Rattle.job_core.proofs.JobStanding.{begins-more, begins-first, opening-fault, record-fault, end-fault}

-- ---- the opening

pub opened : (limits : Limits) (r : JobRecords) (bytes : List ℕ) (o : ℕ × ℕ) → AreBytes bytes → r.limits ≡ limits → r.cursor.bytes ≡ bytes → held_in r.numbers ≡ nothing_held
    → opening bytes 0 ≡ Ok (o, place_in r) → (t : JobTexts) × HasRead limits r bytes t × (t.items ≡ []) × (t.epoch ≡ o.0)
opened limits r bytes o octets kept of none is =
    let found = (opening-leaves bytes octets 0).each (o, place_in r) is in
    let t : JobTexts = record { epoch = o.0; moment = o.1; items = [] } in (
      t,
      record {
        kept = kept;
        of = of;
        octets = octets;
        within = found.0.room;
        begins = subst (λ (b : List ℕ). Begins limits (held_in r.numbers) b t) (sym found.0.parts)
            (subst (λ (h : HeldSoFar). Begins limits h (opening_text o.0 o.1) t) (sym none) (begins-first limits o.0 o.1 found.1 found.2));
      },
      refl,
      refl,
    )

pub not-opened : (limits : Limits) (bytes : List ℕ) (e : LayoutFault) → opening bytes 0 ≡ Err e → job no_serials limits bytes 0 ≡ Err (faults.Layout e)
not-opened limits bytes e is = opening-fault limits bytes (faults.Layout e) (ap (with_fault faults.Layout) is)

-- ---- a record

-- how many ranges and entries are counted
counted : (h : HeldSoFar) (xs : List Item) → let b : HeldSoFar = held_behind h xs in (b.ranges ≡ h.ranges + length (ranges_in xs)) × (b.entries ≡ h.entries + length (entries_in xs))
counted h [] = (omega arith, omega arith)
counted h (OneRange r ∷ xs) = let c = counted (with_item h (OneRange r)) xs in (omega (arith, c.0), c.1)
counted h (OneCrl x ∷ xs) = counted (with_item h (OneCrl x)) xs
counted h (OneEntry e ∷ xs) = let c = counted (with_item h (OneEntry e)) xs in (c.0, omega (arith, c.1))

module _ (limits : Limits) (old new : JobRecords) (bytes : List ℕ) (t : JobTexts) (h : HasRead limits old bytes t) where
  -- of the bytes that it holds
  abbrev Next : Result (Option Item × ℕ) JobFault → Type 0
  Next r = next_item old.limits (held_in old.numbers) old.cursor.bytes (place_in old) ≡ r

  told : (r : Result (Option Item × ℕ) JobFault) → Next r → next_item limits (held_in old.numbers) bytes (place_in old) ≡ r
  told r is = rw (← h.kept, ← h.of) is

  pub one-more : (x : RecordText) → Next (Ok (Some (item_shown x), place_in new)) → new.limits ≡ old.limits → new.cursor.bytes ≡ old.cursor.bytes → held_in new.numbers ≡ with_item (held_in old.numbers) (item_shown x) → HasRead limits new bytes (with_record t (item_shown x))
  one-more x is kept of holds =
      let says = (next-leaves limits (held_in old.numbers) bytes h.octets (place_in old)).each (Some (item_shown x), place_in new) (told _ is) in
      record {
        kept = kept ∙ h.kept;
        of = of ∙ h.of;
        octets = h.octets;
        within = says.0.room;
        begins = subst (λ (b : List ℕ). Begins limits (held_in new.numbers) b (with_record t (item_shown x))) (sym says.0.parts)
            (begins-more limits (held_in old.numbers) (held_in new.numbers) (take (place_in old) bytes) t (item_shown x) h.begins says.1 holds);
      }

  pub no-more : (q : ℕ) (u : Unit {0}) (p : ℕ) → Next (Ok (None, q)) → end_of old.cursor.bytes q ≡ Ok (u, p) → held_in new.numbers ≡ held_in old.numbers → ReadsOne limits new bytes t (Ok None)
  no-more q u p is over same =
      let says = (next-leaves limits (held_in old.numbers) bytes h.octets (place_in old)).each (None, q) (told _ is) in
      let past : end_of bytes q ≡ Ok (u, p) = rw (← h.of) over in
      let ends = (end-tells bytes q).each (u, p) past in
      let text : bytes ≡ opening_text t.epoch t.moment ++ (texts_of t.items ++ to_be_bytes w8 0)
      = sym (take_all q bytes ends.1) ∙ says.parts ∙ ap (λ (b : List ℕ). b ++ to_be_bytes w8 0) h.begins.spelled ∙ append_assoc (opening_text t.epoch t.moment) (texts_of t.items) (to_be_bytes w8 0) in
      let counts = counted nothing_held t.items in
      let held : held_in new.numbers ≡ held_behind nothing_held t.items = same ∙ h.begins.held in (
        ap (λ (b : List ℕ). job no_serials limits b 0) text
            ∙ texts-read no_serials limits t h.begins.epoch h.begins.moment h.begins.pass
            ∙ ap (λ (b : List ℕ). Ok (t, length b)) (sym text),
        omega (arith, ap (λ (x : HeldSoFar). x.ranges) held, counts.0),
        omega (arith, ap (λ (x : HeldSoFar). x.entries) held, counts.1),
      )

  pub more-behind : (q : ℕ) (e : LayoutFault) → Next (Ok (None, q)) → end_of old.cursor.bytes q ≡ Err e → job no_serials limits bytes 0 ≡ Err (faults.Layout e)
  more-behind q e is over =
      let past : end_of bytes q ≡ Err e = rw (← h.of) over in
      end-fault limits (held_in old.numbers) bytes (place_in old) t h.begins h.within q (faults.Layout e) (told _ is) (ap (with_fault faults.Layout) past)

  pub not-read : (e : JobFault) → Next (Err e) → job no_serials limits bytes 0 ≡ Err e
  not-read e is = record-fault limits (held_in old.numbers) bytes (place_in old) t h.begins h.within e (told _ is)

some_text : (x : Item) → 1 ≤ length (record_text x)
some_text (OneRange r) = omega arith
some_text (OneCrl c) = omega arith
some_text (OneEntry e) = omega arith

module _ (limits : Limits) (old new : JobRecords) (bytes : List ℕ) (t : JobTexts) (x : Item) (h : HasRead limits old bytes t) (g : HasRead limits new bytes (with_record t x)) where
  pub longer : take (place_in new) bytes ≡ take (place_in old) bytes ++ record_text x
  longer =
      g.begins.spelled
      ∙ ap (λ (b : List ℕ). opening_text t.epoch t.moment ++ b) (flat_map-append record_text t.items (x ∷ []) ∙ ap (λ (b : List ℕ). texts_of t.items ++ b) (append-nil (record_text x)))
      ∙ sym (append_assoc (opening_text t.epoch t.moment) (texts_of t.items) (record_text x))
      ∙ ap (λ (b : List ℕ). b ++ record_text x) (sym h.begins.spelled)

  -- fewer bytes are left
  pub nearer : left_of new < left_of old
  nearer =
      omega (
        arith,
        ap length longer,
        length-append (take (place_in old) bytes) (record_text x),
        length-take (place_in new) bytes,
        length-take (place_in old) bytes,
        some_text x,
        h.within,
        g.within,
        ap length h.of,
        ap length g.of,
      )
