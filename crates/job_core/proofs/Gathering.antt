-- What a loop over the records of a job has read off a feed.
use Rattle.std.proofs.Common.{◌≡◌, ℕ, ◌+◌, ◌*◌, ◌^◌, ◌≤◌, ◌<◌, Bool, false, List, [], ◌++◌, Option, Some, None, Ok, Err, refl, sym, ap, subst, ◌∙◌, arith, length, length-append}
use Rattle.outside_core.specs.declared.depot.Depot.{Ghosts}
use Rattle.outside_core.specs.declared.feed.Feed.{Feed}
use Rattle.outside_core.specs.Standing.{place_of, StandsIn}
use Rattle.job_core.specs.declared.bounds.Limits.{Limits}
use Rattle.job_core.specs.declared.bounds.What.TheVariants as what
use Rattle.job_core.specs.declared.fault.JobFault.{JobFault}
use Rattle.job_core.specs.declared.fault.JobFault.TheVariants as faults
use Rattle.job_core.specs.declared.partial.Numbers.{Numbers}
use Rattle.job_core.specs.declared.records.Item.{Item as Taken}
use Rattle.job_core.specs.JobFields.{JobFields}
use Rattle.job_core.specs.JobLayout.{Item, OneRange, OneCrl, OneEntry, HeldSoFar, nothing_held, with_item, serials_of, with_serials, next_item, records}
use Rattle.job_core.specs.Partial.{held_in, saying_one, said_behind, records_saying}
use Rattle.outside_core.specs.Pulling.{Pulled}
use Rattle.job_core.specs.Pulling.{AreBytes, NoneFailed, Lies, Fetches}
use Rattle.outside_core.proofs.Pulling.{pulled-then}
use Rattle.job_core.proofs.Given.{lies-none, lies-first, lies-second, lies-both}
use Rattle.job_core.proofs.Fetching.{bytes-none, bytes-both, blames-then}
use Rattle.job_core.proofs.Saying.{says_more, says_all, says_over, says_fault}

-- these bytes were given, and in each file in which they lie so the records behind them say the rest of what all say
pub record Gathers {D : Type 0} (g : Ghosts D) (limits : Limits) (first f : JobFields) (h : HeldSoFar) (serials : ℕ) (old now : Feed D) : Type 0 where
  pub given : List ℕ
  pub place : place_of now ≡ place_of old + length given
  pub bytes : AreBytes given
  pub lies : (file : List ℕ) → StandsIn g old file → Lies false file (place_of old) given
  pub reads : (file : List ℕ) → Lies false file (place_of old) given
      → said_behind f (records serials_of limits h serials file (place_of now)) ≡ records_saying limits first file (place_of old)

pub gathers-none : {D : Type 0} (g : Ghosts D) (limits : Limits) (f : JobFields) (h : HeldSoFar) (feed : Feed D) → h ≡ nothing_held → Gathers g limits f f h 0 feed feed
gathers-none g limits f h feed none = record {
  given = [];
  place = omega arith;
  bytes = bytes-none;
  lies = λ file stands. lies-none file (place_of feed) (omega (arith, stands.window.within));
  reads = λ file lies. ap (λ (k : HeldSoFar). said_behind f (records serials_of limits k 0 file (place_of feed))) none;
}

module _ {D : Type 0} (g : Ghosts D) (limits : Limits) (first f : JobFields) (h : HeldSoFar) (serials : ℕ) (old mid new : Feed D)
    (s : Gathers g limits first f h serials old mid) (pulled : Pulled g old mid) where
  both-lie : (more : List ℕ) (ended : Bool) → ((file : List ℕ) → StandsIn g mid file → Lies ended file (place_of mid) more)
      → (file : List ℕ) → StandsIn g old file → Lies ended file (place_of old) (s.given ++ more)
  both-lie more ended each file stands = lies-both ended file (place_of old) (place_of mid) s.given more s.place (s.lies file stands) (each file (pulled.stands file stands))

  abbrev IsTotal : List ℕ → Type 0
  IsTotal file = said_behind f (records serials_of limits h serials file (place_of mid)) ≡ records_saying limits first file (place_of old)

  front : (more : List ℕ) (ended : Bool) (file : List ℕ) → Lies ended file (place_of old) (s.given ++ more) → IsTotal file
  front more ended file lies = s.reads file (lies-first ended file (place_of old) s.given more lies)

  behind : (more : List ℕ) (ended : Bool) (file : List ℕ) → Lies ended file (place_of old) (s.given ++ more) → Lies ended file (place_of mid) more
  behind more ended file lies = lies-second ended file (place_of old) (place_of mid) s.given more s.place lies

  further : (more : List ℕ) → place_of new ≡ place_of mid + length more → place_of new ≡ place_of old + length (s.given ++ more)
  further more is = omega (arith, is, s.place, length-append s.given more)

  module _ (view : Option Taken → Option Item) (o : Option Taken) (e : Fetches g view (next_item limits h) mid new (Ok o)) where
    next-lies : (file : List ℕ) → StandsIn g mid file → Lies false file (place_of mid) e.given
    next-lies file stands = subst (λ (b : Bool). Lies b file (place_of mid) e.given) e.going.1 (e.lies file stands)

    next-reads : (file : List ℕ) → Lies false file (place_of old) (s.given ++ e.given) → (x : Option Item) → view o ≡ x → next_item limits h file (place_of mid) ≡ Ok (x, place_of new)
    next-reads file lies x is =
        e.reads file (subst (λ (b : Bool). Lies b file (place_of mid) e.given) (sym e.going.1) (behind e.given false file lies)) ∙ ap (λ (y : Option Item). Ok (y, place_of new)) is

    -- a record more
    pub gathers-more : (x : Item) (k : HeldSoFar) (n : ℕ) (next : JobFields) → view o ≡ Some x → next ≡ saying_one f x → k ≡ with_item h x
        → n ≡ with_serials serials_of serials x → n ≤ limits.serials → Gathers g limits first next k n old new
    gathers-more x k n next is says holds counts few = record {
      given = s.given ++ e.given;
      place = further e.given e.place;
      bytes = bytes-both s.given e.given s.bytes e.going.0;
      lies = both-lie e.given false next-lies;
      reads = λ file lies. says_more limits f h serials file (place_of mid) (records_saying limits first file (place_of old)) x (place_of new) next k n file
          (next-reads file lies (Some x) is) says holds counts few refl (front e.given false file lies);
    }

    -- the job ends
    pub gathered-all : {U : Type 0} (v : U → JobFields) (u : U) → v u ≡ f → NoneFailed g old mid → view o ≡ None → Fetches g v (records_saying limits first) old new (Ok u)
    gathered-all v u same none is = record {
      pulled = pulled-then g old mid new pulled e.pulled;
      blames = e.blames ∙ none;
      given = s.given ++ e.given;
      ended = false;
      place = further e.given e.place;
      going = (bytes-both s.given e.given s.bytes e.going.0, refl);
      lies = both-lie e.given false next-lies;
      reads = λ file lies. says_all limits f h serials file (place_of mid) (records_saying limits first file (place_of old)) (place_of new)
          (next-reads file lies None is) (front e.given false file lies) ∙ ap (λ (j : JobFields). Ok (j, place_of new)) (sym same);
    }

    -- a record that isn't added
    pub gathered-refused : {U : Type 0} (v : U → JobFields) (x : Item) (fault : JobFault) → view o ≡ Some x → NoneFailed g old mid → (fault ≡ faults.ReadFault → ⊥)
        → ((fault ≡ faults.NoMemory → ⊥) → (fault ≡ faults.TooMany what.Serials limits.serials) × (limits.serials < with_serials serials_of serials x))
        → Fetches g v (records_saying limits first) old new (Err fault)
    gathered-refused v x fault is none not_read over = record {
      pulled = pulled-then g old mid new pulled e.pulled;
      blames = (λ same. absurd (not_read same), λ not. e.blames ∙ none);
      given = s.given ++ e.given;
      ended = false;
      place = further e.given e.place;
      going = tt;
      lies = both-lie e.given false next-lies;
      reads = λ file lies of.
          let past = over of.0 in
          says_over limits f h serials file (place_of mid) (records_saying limits first file (place_of old)) x (place_of new)
          (next-reads file lies (Some x) is) past.1 (front e.given false file lies) ∙ ap Err (sym past.0);
    }

  -- the next record has a fault
  pub gathered-fault : {U : Type 0} (view : Option Taken → Option Item) (v : U → JobFields) (fault : JobFault) → NoneFailed g old mid → Fetches g view (next_item limits h) mid new (Err fault)
      → Fetches g v (records_saying limits first) old new (Err fault)
  gathered-fault {U} view v fault none e = record {
    pulled = pulled-then g old mid new pulled e.pulled;
    blames = blames-then {X = U} g old mid new (Err fault) pulled none e.blames;
    given = s.given ++ e.given;
    ended = e.ended;
    place = further e.given e.place;
    going = tt;
    lies = both-lie e.given e.ended e.lies;
    reads = λ file lies of. says_fault limits f h serials file (place_of mid) (records_saying limits first file (place_of old)) fault
        (e.reads file (behind e.given e.ended file lies) of) (front e.given e.ended file lies);
  }

-- ---- how far it is

-- how many records there are
abbrev pub count_of : Numbers → ℕ
count_of n = n.ranges + n.crls + n.entries

-- a record more, which is not longer than the longest
pub near-more : (old new : Numbers) (x : Item) (from mid to : ℕ) → held_in new ≡ with_item (held_in old) x → mid ≤ from + count_of old * (2 ^ 27 + 1) → to ≤ mid + (2 ^ 27 + 1)
    → to ≤ from + count_of new * (2 ^ 27 + 1)
near-more old new (OneRange r) from mid to is few next = omega (arith, few, next, ap (λ (h : HeldSoFar). h.ranges) is, ap (λ (h : HeldSoFar). h.crls) is, ap (λ (h : HeldSoFar). h.entries) is)
near-more old new (OneCrl c) from mid to is few next = omega (arith, few, next, ap (λ (h : HeldSoFar). h.ranges) is, ap (λ (h : HeldSoFar). h.crls) is, ap (λ (h : HeldSoFar). h.entries) is)
near-more old new (OneEntry e) from mid to is few next = omega (arith, few, next, ap (λ (h : HeldSoFar). h.ranges) is, ap (λ (h : HeldSoFar). h.crls) is, ap (λ (h : HeldSoFar). h.entries) is)

-- how far the longest job goes, since its records are numbered
pub near-all : (n : Numbers) (from mid to : ℕ) → n.ranges < 2 ^ 32 → n.crls < 2 ^ 32 → n.entries < 2 ^ 32 → mid ≤ from + count_of n * (2 ^ 27 + 1) → to ≤ mid + (2 ^ 27 + 1) → to ≤ from + 2 ^ 62
near-all n from mid to ranges crls entries few next = omega (arith, ranges, crls, entries, few, next)
