use Rattle.std.proofs.Common.{◌≡◌, ◌+◌, ◌≤◌, ℕ, List, length, refl, sym, ap, subst, ◌∙◌, arith}
use Rattle.std.proofs.lemmas.Bool.{eqb-true}
use Rattle.std.proofs.lemmas.List.{nil_from_length}
use Rattle.std.proofs.lemmas.Result.{err_from_is_err_and}
use Rattle.outside_core.specs.Feeding.{IsWindow}
use Rattle.outside_core.specs.Standing.{place_of}
use Rattle.outside_core.proofs.Effects.{ReadFailed-then}
use Rattle.outside_core.proofs.Pulling.{pulled-none, pulled-then, pulled-more, pulled-front}
use Rattle.outside_core.proofs.fill.pull.Goals as goal

pub pieces-init : goal.pieces-init
pieces-init g c = record {
  len = refl;
  within = omega arith;
  pulled = pulled-none g.D.Depot c.args.feed.now;
  unblamed = refl;
  place = omega arith;
  taken = λ file stands. refl;
}

pub returns-in_err-refill-clause-pulled : goal.returns-in_err-refill-clause-pulled
returns-in_err-refill-clause-pulled g c =
    let e = c.refill.ensures in
    pulled-then g.D.Depot c.args.feed.now c.pieces.feed c.refill.new.self c.pieces.invariant.pulled
    (record { same_reference = e.same_reference; name = e.name; only_reads = e.only_reads; stands = e.stands; further = omega (arith, e.at) })

pub returns-in_err-refill-clause-cause : goal.returns-in_err-refill-clause-cause
returns-in_err-refill-clause-cause g c =
    let p = err_from_is_err_and c.from_residual.result c.from_residual.ensures.1 in
    let inv = c.pieces.invariant in
    rw p.1 (ReadFailed-then g.D.Depot _ _ _ _ inv.pulled.only_reads inv.unblamed
    (subst (λ (n : List ℕ). Rattle.outside_core.specs.Reads.ReadFailed g.D.Depot n c.pieces.feed.depot.now c.refill.new.self.depot.now) inv.pulled.name c.in_err-refill.ensures.cause))

pub returns-then-is_empty-clause-pulled : goal.returns-then-is_empty-clause-pulled
returns-then-is_empty-clause-pulled g c =
    let e = c.refill.ensures in
    pulled-then g.D.Depot c.args.feed.now c.pieces.feed c.refill.new.self c.pieces.invariant.pulled
    (record { same_reference = e.same_reference; name = e.name; only_reads = e.only_reads; stands = e.stands; further = omega (arith, e.at) })

pub returns-then-is_empty-clause-short : goal.returns-then-is_empty-clause-short
returns-then-is_empty-clause-short g c = λ is.
    let inv = c.pieces.invariant in
    omega (arith, c.refill.ensures.at, inv.place, inv.len, c.pieces-test.true)

pub returns-then-is_empty-clause-ended : goal.returns-then-is_empty-clause-ended
returns-then-is_empty-clause-ended g c = λ is file stands.
    let inv = c.pieces.invariant in
    let none : length c.buffered-ready.result.now ≡ 0 = eqb-true (length c.buffered-ready.result.now) 0 (sym c.is_empty.ensures ∙ c.if-is_empty.true) in
    let over = (c.in_ok-refill.ensures.ends file (inv.pulled.stands file stands)).0 (sym c.buffered-ready.ensures.value ∙ nil_from_length _ none) in
    omega (arith, over, c.refill.ensures.at)

pub returns-then-is_empty-clause-near : goal.returns-then-is_empty-clause-near
returns-then-is_empty-clause-near g c =
    let inv = c.pieces.invariant in
    omega (arith, c.refill.ensures.at, inv.place, inv.len, inv.within)

pub returns-then-is_empty-clause-given : goal.returns-then-is_empty-clause-given
returns-then-is_empty-clause-given g c = λ file stands.
    let inv = c.pieces.invariant in
    pulled-front file (place_of c.args.feed.now) c.pieces.done (place_of c.refill.new.self) c.pieces.out inv.within (c.refill.ensures.at ∙ inv.place)
    (omega (arith, (inv.pulled.stands file stands).window.within, inv.place)) (inv.taken file stands)

pub returns-in_err-refill-clause-near : goal.returns-in_err-refill-clause-near
returns-in_err-refill-clause-near g c =
    let inv = c.pieces.invariant in
    omega (arith, c.refill.ensures.at, inv.place, inv.len, inv.within)

pub returns-in_err-refill-clause-given : goal.returns-in_err-refill-clause-given
returns-in_err-refill-clause-given g c = λ file stands.
    let inv = c.pieces.invariant in
    pulled-front file (place_of c.args.feed.now) c.pieces.done (place_of c.refill.new.self) c.pieces.out inv.within (c.refill.ensures.at ∙ inv.place)
    (omega (arith, (inv.pulled.stands file stands).window.within, inv.place)) (inv.taken file stands)

pub returns-then-is_empty-clause-unblamed : goal.returns-then-is_empty-clause-unblamed
returns-then-is_empty-clause-unblamed g c = c.in_ok-refill.ensures.unblamed ∙ c.pieces.invariant.unblamed

pub pieces-preserved : goal.pieces-preserved
pieces-preserved g c =
    let inv = c.pieces.invariant in
    let e = c.refill.ensures in
    let t = c.take.ensures in
    let le : c.min-count.result ≤ length c.buffered-ready.result.now = omega (arith, c.min-count.ensures) in
    record {
      len = omega (arith, inv.len, inv.within, c.copy_from_slice.ensures.len);
      within = omega (arith, inv.len, inv.within, c.min-count.ensures, c.copy_from_slice.ensures.len);
      pulled = pulled-then g.D.Depot c.args.feed.now c.pieces.feed c.take.new.self inv.pulled
          (pulled-then g.D.Depot c.pieces.feed c.refill.new.self c.take.new.self
          (record { same_reference = e.same_reference; name = e.name; only_reads = e.only_reads; stands = e.stands; further = omega (arith, e.at) })
          (record {
            same_reference = t.same_reference;
            name = t.name;
            only_reads = rw t.depot (record { later = omega arith; same_files = refl; same_writes = refl });
            stands = t.stands;
            further = omega (arith, t.at);
          }));
      unblamed = ap g.D.Depot.failed_reads t.depot ∙ c.in_ok-refill.ensures.unblamed ∙ inv.unblamed;
      place = omega (arith, t.at, e.at, inv.place);
      taken = λ file stands.
          let there = (e.stands file (inv.pulled.stands file stands)).window in
          let at : place_of c.refill.new.self ≡ place_of c.args.feed.now + c.pieces.done = e.at ∙ inv.place in
          let window : IsWindow file (place_of c.args.feed.now + c.pieces.done) c.buffered-ready.result.now = rw (c.buffered-ready.ensures.value, ← at) there in
          pulled-more file (place_of c.args.feed.now) c.pieces.done c.min-count.result _ c.buffered-ready.result.now c.pieces.out c.copy_from_slice.new.self
          window le (inv.taken file stands) c.copy_from_slice.ensures.after inv.within;
    }

pub returns-clause-pulled : goal.returns-clause-pulled
returns-clause-pulled g c = c.pieces.invariant.pulled

pub returns-clause-full : goal.returns-clause-full
returns-clause-full g c = λ is. omega (arith, c.pieces.invariant.place, c.pieces.invariant.len, c.pieces.invariant.within, c.pieces-test.false)

pub returns-clause-near : goal.returns-clause-near
returns-clause-near g c = omega (arith, c.pieces.invariant.place, c.pieces.invariant.len, c.pieces.invariant.within)

pub returns-clause-given : goal.returns-clause-given
returns-clause-given g c = λ file stands.
    let inv = c.pieces.invariant in
    pulled-front file (place_of c.args.feed.now) c.pieces.done (place_of c.pieces.feed) c.pieces.out inv.within inv.place
    (omega (arith, (inv.pulled.stands file stands).window.within, inv.place)) (inv.taken file stands)

pub returns-clause-unblamed : goal.returns-clause-unblamed
returns-clause-unblamed g c = c.pieces.invariant.unblamed
