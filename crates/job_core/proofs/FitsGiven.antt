-- A record that is read off a feed fits its fields, also where files aren't told.
use Rattle.std.proofs.Common.{◌≡◌, ℕ, ◌-◌, List, ◌++◌, length, get_or, take, drop, replicate, false, Option, Some, None, Ok, refl, sym, ap, subst, ◌∙◌, length-append, arith, inl, inr}
use Rattle.std.proofs.lemmas.Bool.{cases_lt}
use Rattle.std.proofs.lemmas.List.{take_all, drop_at, length-replicate, get_or-replicate, get_or_append_left, get_or-drop}
use Rattle.octets_core.proofs.Texts.{IsBytes}
use Rattle.outside_core.specs.declared.depot.Depot.{Ghosts}
use Rattle.outside_core.specs.declared.feed.Feed.{Feed}
use Rattle.outside_core.specs.Standing.{place_of}
use Rattle.ident_core.specs.RangeText.{FitsRange}
use Rattle.job_core.specs.declared.bounds.Limits.{Limits}
use Rattle.ident_core.specs.declared.range.Range.{Range}
use Rattle.job_core.specs.declared.raw.RawCrl.{RawCrl}
use Rattle.job_core.specs.declared.raw.RawEntry.{RawEntry}
use Rattle.job_core.specs.declared.records.Item.{Item as Taken}
use Rattle.job_core.specs.declared.records.Item.TheVariants as takens
use Rattle.job_core.specs.JobLayout.{HeldSoFar, next_item}
use Rattle.job_core.specs.JobText.{FitsItem, FitsCrl, FitsEntry, crl_held, entry_held}
use Rattle.job_core.specs.Pulling.{AreBytes, Lies, Fetches}
use Rattle.job_core.specs.Records.{item_of_record, some_record}
use Rattle.job_core.proofs.RecordsSpelled.{next-leaves}

-- bytes behind so many zeros
abbrev behind_zeros : ℕ → List ℕ → List ℕ
behind_zeros at given = replicate at 0 ++ given

zeros-back : (at : ℕ) (given : List ℕ) → drop at (behind_zeros at given) ≡ given
zeros-back at given = drop_at (replicate at 0) given at (length-replicate at 0)

zeros-lie : (at : ℕ) (given : List ℕ) → Lies false (behind_zeros at given) at given
zeros-lie at given = record {
  within = omega (arith, length-append (replicate at 0) given, length-replicate {A = ℕ} at 0);
  same = sym (ap (take (length given)) (zeros-back at given) ∙ take_all (length given) given (omega arith));
  last = λ same. absurd cc;
}

zeros-bytes : (at : ℕ) (given : List ℕ) → AreBytes given → IsBytes (behind_zeros at given)
zeros-bytes at given fits = λ i. elim (cases_lt i at) [
  | inl lt ↦
      let a : get_or (behind_zeros at given) i 0 ≡ get_or (replicate at 0) i 0 = get_or_append_left (replicate at 0) given 0 i (omega (arith, lt, length-replicate {A = ℕ} at 0)) in
      omega (arith, a, get_or-replicate {A = ℕ} at i 0 0 lt)
  | inr past ↦
      let b : get_or (behind_zeros at given) i 0 ≡ get_or given (i - at) 0
      = ap (λ (n : ℕ). get_or (behind_zeros at given) n 0) (omega (arith, past)) ∙ sym (get_or-drop at (behind_zeros at given) (i - at) 0)
      ∙ ap (λ (l : List ℕ). get_or l (i - at) 0) (zeros-back at given) in
      omega (arith, b, fits (i - at))
]

pub item-fits : {D : Type 0} (g : Ghosts D) (limits : Limits) (h : HeldSoFar) (entry : RawEntry) (old new : Feed D) (x : Taken)
    → Fetches g (some_record entry) (next_item limits h) old new (Ok (Some x)) → FitsItem limits h (item_of_record entry x)
item-fits g limits h entry old new x f =
    let at : ℕ = place_of old in
    let file : List ℕ = behind_zeros at f.given in
    let going = f.going in
    let lies = subst (λ b. Lies b file at f.given) (sym going.1) (zeros-lie at f.given) in
    let says = (next-leaves limits h file (zeros-bytes at f.given going.0) at).each (Some (item_of_record entry x), place_of new) (f.reads file lies) in
    says.1

pub range-fits : {D : Type 0} (g : Ghosts D) (limits : Limits) (h : HeldSoFar) (entry : RawEntry) (old new : Feed D) (o : Option Taken) (r : Range) → o ≡ Some (takens.Range r)
    → Fetches g (some_record entry) (next_item limits h) old new (Ok o) → FitsRange None r
range-fits g limits h entry old new o r is f =
    let fits = item-fits g limits h entry old new (takens.Range r) (subst (λ (p : Option Taken). Fetches g (some_record entry) (next_item limits h) old new (Ok p)) is f) in
    ((refl, fits.0.0.1), fits.0.1)

pub crl-fits : {D : Type 0} (g : Ghosts D) (limits : Limits) (h : HeldSoFar) (entry : RawEntry) (old new : Feed D) (o : Option Taken) (c : RawCrl) → o ≡ Some (takens.Crl c)
    → Fetches g (some_record entry) (next_item limits h) old new (Ok o) → FitsCrl (crl_held c)
crl-fits g limits h entry old new o c is f =
    (item-fits g limits h entry old new (takens.Crl c) (subst (λ (p : Option Taken). Fetches g (some_record entry) (next_item limits h) old new (Ok p)) is f)).0

pub entry-fits : {D : Type 0} (g : Ghosts D) (limits : Limits) (h : HeldSoFar) (entry : RawEntry) (old new : Feed D) (o : Option Taken) → o ≡ Some takens.Entry
    → Fetches g (some_record entry) (next_item limits h) old new (Ok o) → FitsEntry (entry_held entry)
entry-fits g limits h entry old new o is f =
    (item-fits g limits h entry old new takens.Entry (subst (λ (p : Option Taken). Fetches g (some_record entry) (next_item limits h) old new (Ok p)) is f)).0
