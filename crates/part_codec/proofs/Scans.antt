-- What a scan answers.
use Rattle.std.proofs.Common.{◌≡◌, ℕ, ◌+◌, ◌-◌, ◌^◌, ◌≤◌, ◌<◌, List, [], ◌++◌, length, take, drop, Option}
use Rattle.std.proofs.Common.{Some, None, Result, Ok, Err, refl, sym, ap, subst, ◌∙◌, append_assoc, length-append, arith, inl, inr}
use Rattle.std.specs.Prelude.{◌⊎◌}
use Rattle.std.proofs.lemmas.Bool.{cases_lt}
use Rattle.std.proofs.lemmas.List.{append-nil, length-take, take_all, take-append-drop}
use Rattle.sha2.specs.declared.Sha256.{Sha256}
use Rattle.octets_core.specs.declared.fault.LayoutFault.{LayoutFault}
use Rattle.octets_core.specs.Reading.{fault_at}
use Rattle.octets_core.specs.declared.fault.Why.TheVariants as why
use Rattle.octets_core.proofs.Fields.{ok_is}
use Rattle.octets_core.specs.Layout.{with_fault}
use Rattle.part_text.specs.SealedFields.{SealedFields}
use Rattle.part_text.specs.declared.fault.PartFault.TheVariants as faults
use Rattle.part_text.specs.PartLayout.{sealed}
use Rattle.part_codec.specs.declared.fields.Kept.{Kept}
use Rattle.part_codec.specs.declared.fields.Open.{Open}
use Rattle.part_codec.specs.declared.fields.Open.TheVariants as opens
use Rattle.part_codec.specs.declared.machine.Machine.{Machine}
use Rattle.part_codec.specs.declared.collector.Nothing.{Nothing}
use Rattle.part_codec.specs.declared.scan.PartNote.{PartNote}
use Rattle.part_codec.specs.declared.scan.PartScan.{PartScan}
use Rattle.part_codec.specs.Remaining.{Seen, sealed_of, rest}
use Rattle.part_codec.specs.Stepping.{AreStarts, IsOpen, skips, tail_of, name_of}
use Rattle.part_codec.specs.Noting.{note_of, noted, note_by}
use Rattle.part_codec.specs.Scanning.{Stands, Hashes}
use Rattle.part_codec.specs.Collecting.{ReadsTo, AnyPile}
use Rattle.part_codec.specs.Taking.{IsPartial}
use Rattle.part_codec.specs.Standing.{StandsBy, StandsFor, EndsAt, HasFault, HasFailed}
use Rattle.part_codec.proofs.FieldSteps.{none-left}
use Rattle.part_codec.proofs.MachineStands.{at-end, field-done, field-short}

-- behind whatever was seen
abbrev pub Behind : Machine → List ℕ → Type 0
Behind m b = (s : Seen) × Stands m s b

pub by-none : (f : Option LayoutFault) (m : Machine) (c : Nothing) (h : Sha256) (b : List ℕ) → f ≡ None → StandsBy f m c h b → ReadsTo AnyPile m c b × Hashes m h b
by-none f m c h b is st = subst (λ (g : Option LayoutFault). StandsBy g m c h b) is st

pub behind-of : (m : Machine) (c : Nothing) (b : List ℕ) → ReadsTo AnyPile m c b → Behind m b
behind-of m c b r = (r.2.0, r.2.1)

by-some : (f : Option LayoutFault) (e : LayoutFault) (m : Machine) (c : Nothing) (h : Sha256) (b x : List ℕ) → f ≡ Some e → StandsBy f m c h b → sealed (b ++ x) 0 ≡ Err e
by-some f e m c h b x is st = (subst (λ (g : Option LayoutFault). StandsBy g m c h b) is st) x

-- no layout wants memory
pub no-memory : (r : Result (SealedFields × ℕ) LayoutFault) → with_fault faults.Layout r ≡ Err faults.NoMemory → ⊥
no-memory (Ok x) is = absurd cc
no-memory (Err e) is = absurd cc

pub done-is : (m : Machine) (s : Seen) (b x : List ℕ) → Stands m s b → m.field ≡ opens.Done → sealed (b ++ x) 0 ≡ Ok (sealed_of m.kept s, length b)
unfolding rest
done-is m s b x st done =
    st.opens.each x ∙ ap (λ (o : Open). rest o m.kept s (b ++ x) m.at) done ∙ ap (λ (n : ℕ). Ok (sealed_of m.kept s, n)) (at-end m s b st done)

pub done-ends : (m : Machine) (b : List ℕ) → Behind m b → m.field ≡ opens.Done → EndsAt b
done-ends m b t done = λ x. (sealed_of m.kept t.0, done-is m t.0 b x t.1 done)

some-left : (o : Open) → 0 < tail_of o → o ≡ opens.Done → ⊥
some-left o some is = let none : 0 < 0 = subst (λ (q : Open). 0 < tail_of q) is some in omega (arith, none)

same-end : (bytes : List ℕ) (s t : SealedFields) (end n : ℕ) → sealed bytes 0 ≡ Ok (s, end) → sealed bytes 0 ≡ Ok (t, n) → n ≡ end
same-end bytes s t end n one two = ap (λ (p : SealedFields × ℕ). p.1) (ok_is {E = LayoutFault} (t, n) (s, end) (sym two ∙ one))

not-both : (bytes : List ℕ) (s : SealedFields) (end : ℕ) (e : LayoutFault) → sealed bytes 0 ≡ Ok (s, end) → sealed bytes 0 ≡ Err e → ⊥
not-both bytes s end e one two = let clash : ◌≡◌ {A = Result (SealedFields × ℕ) LayoutFault} (Ok (s, end)) (Err e) = sym one ∙ two in absurd cc

whole-ends : (m : Machine) (b : List ℕ) (s : SealedFields) (end : ℕ) → Behind m b → ((m.field ≡ opens.Done → ⊥) → m.filled < tail_of m.field) → sealed b 0 ≡ Ok (s, end) → length b ≡ end
whole-ends m b s end t partial read =
    elim (cases_lt 0 (tail_of m.field)) [
      | inl some ↦ absurd (not-both b s end _ read (field-short m t.0 b t.1 (partial (some-left m.field some))))
      | inr none ↦ same-end b s _ end (length b) read (field-done m t.0 b t.1 (none-left m.field m.filled partial none))
    ]

-- it takes what belongs to the part
pub ends-at : (m : Machine) (b piece : List ℕ) (n : ℕ) (s : SealedFields) (end : ℕ) → Behind m (b ++ take n piece) → ((m.field ≡ opens.Done → ⊥) → m.filled < tail_of m.field) → n ≤ length piece
    → (n < length piece → m.field ≡ opens.Done) → sealed (b ++ piece) 0 ≡ Ok (s, end) → length b + n ≡ end
ends-at m b piece n s end t partial count all read =
    elim (cases_lt n (length piece)) [
      | inl lt ↦
          let e = done-ends m (b ++ take n piece) t (all lt) (drop n piece) in
          let same : (b ++ take n piece) ++ drop n piece ≡ b ++ piece = append_assoc b (take n piece) (drop n piece) ∙ ap (λ (l : List ℕ). b ++ l) (take-append-drop n piece) in
          let read2 : sealed (b ++ piece) 0 ≡ Ok (e.0, length (b ++ take n piece)) = ap (λ (l : List ℕ). sealed l 0) (sym same) ∙ e.1 in
          omega (arith, same-end (b ++ piece) s e.0 end (length (b ++ take n piece)) read read2, length-append b (take n piece), length-take n piece, count)
      | inr le ↦
          let same : b ++ take n piece ≡ b ++ piece = ap (λ (l : List ℕ). b ++ l) (take_all n piece le) in
          let now : Behind m (b ++ piece) = subst (λ (l : List ℕ). Behind m l) same t in
          omega (arith, whole-ends m (b ++ piece) s end now partial read, length-append b piece, count, le)
    ]

note-counts : (m : Machine) (s : Seen) (n : ℕ) → m.kept.ranges ≡ length s.ranges → m.kept.issuers ≡ length s.blocks → note_of (sealed_of m.kept s) n ≡ note_by m.kept n
note-counts m s n ranges issuers = rw (ranges, issuers) refl

pub faulty : (f : Option LayoutFault) (e : LayoutFault) (m : Machine) (c : Nothing) (h : Sha256) (b : List ℕ) → f ≡ Some e → StandsBy f m c h b → noted (sealed b 0) ≡ Err e
faulty f e m c h b is st = ap (λ (l : List ℕ). noted (sealed l 0)) (sym (append-nil b)) ∙ ap noted (by-some f e m c h b [] is st)

pub noted-done : (m : Machine) (b : List ℕ) → Behind m b → m.field ≡ opens.Done → noted (sealed b 0) ≡ Ok (note_by m.kept m.at)
noted-done m b t done =
    let s : Seen = t.0 in
    let none = subst (λ (o : Open). IsOpen o m.kept) done t.1.opens.opened in
    ap noted (field-done m s b t.1 done)
    ∙ ap (λ (p : PartNote). Ok p) (note-counts m s (length b) (omega (arith, t.1.opens.counts.ranges, none.1)) (omega (arith, t.1.opens.counts.blocks, none.0)))
    ∙ ap (λ (n : ℕ). Ok (note_by m.kept n)) (sym (at-end m s b t.1 done))

pub noted-short : (m : Machine) (b : List ℕ) (e : LayoutFault) → Behind m b → (m.field ≡ opens.Done → ⊥) → ((m.field ≡ opens.Done → ⊥) → m.filled < tail_of m.field)
    → e ≡ fault_at why.Short (name_of m.field) m.at → noted (sealed b 0) ≡ Err e
noted-short m b e t goes partial is = ap noted (field-short m t.0 b t.1 (partial goes)) ∙ ap (λ (f : LayoutFault). Err f) (sym is)

-- ---- how many bytes it stands for

-- a part is all of them
pub ends-by : (f : Option LayoutFault) (m : Machine) (c : Nothing) (h : Sha256) (b : List ℕ) (s : SealedFields) (end : ℕ) → (f ≡ None → IsPartial m) → StandsBy f m c h b → sealed b 0 ≡ Ok (s, end) → end ≡ length b
ends-by None m c h b s end partial st read = sym (whole-ends m b s end (behind-of m c b st.0) (partial refl) read)
ends-by (Some e) m c h b s end partial st read = absurd (not-both b s end e read (ap (λ (l : List ℕ). sealed l 0) (sym (append-nil b)) ∙ st []))

-- a plane is the widest field
width-bound : (o : Open) (k : Kept) → AreStarts k.starts → skips o k + tail_of o ≤ 1000000
width-bound opens.ApproxPlane k starts = omega (arith, starts.1)
width-bound opens.ExactPlane k starts = omega (arith, starts.1)
width-bound o k starts = omega arith

pub few-behind : (m : Machine) (b : List ℕ) → Behind m b → length b < 2 ^ 49
few-behind m b t = omega (arith, t.1.place, m.few, m.before, m.room, width-bound m.field m.kept m.starts)

-- so many are fewer than can be numbered, or they have a fault
pub few-by : (f : Option LayoutFault) (m : Machine) (c : Nothing) (h : Sha256) (b : List ℕ) → StandsBy f m c h b → length b < 2 ^ 64 - 1 ⊎ HasFault b
few-by None m c h b st = inl (omega (arith, few-behind m b (behind-of m c b st.0)))
few-by (Some e) m c h b st = inr (e, st)

pub few-scanned : (scan : PartScan) (f : Option LayoutFault) (b : List ℕ) → scan.fault ≡ f → ((e : LayoutFault) → HasFailed scan e → ⊥) → StandsFor scan b → length b < 2 ^ 49
few-scanned scan None b is well st = few-behind scan.machine b (behind-of scan.machine scan.nothing b (by-none scan.fault scan.machine scan.nothing scan.hasher b is st).0)
few-scanned scan (Some e) b is well st = absurd (well e is)
