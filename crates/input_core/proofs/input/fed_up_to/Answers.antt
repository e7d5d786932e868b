use Rattle.std.proofs.Common.{◌≡◌, ◌+◌, ◌≤◌, ◌<◌, ℕ, List, length, refl, sym, ap, subst, ◌∙◌, arith}
use Rattle.std.proofs.lemmas.Bool.{eqb-true, eqb-false}
use Rattle.std.proofs.lemmas.List.{nil_from_length}
use Rattle.outside_core.specs.Feeding.{Offers}
use Rattle.outside_core.specs.Reads.{ReadFailed}
use Rattle.outside_core.specs.Standing.{depot_of, name_of, place_of}
use Rattle.outside_core.proofs.Effects.{ReadFailed-then}
use Rattle.input_core.proofs.Taken.{none_taken, offers_there, positive, taken-next, taken-all}
use Rattle.input_core.proofs.input.fed_up_to.Goals as goal

pub pieces-init : goal.pieces-init
pieces-init g c = record {
  same_reference = refl;
  name = refl;
  only_reads = record { later = omega arith; same_files = refl; same_writes = refl };
  unblamed = refl;
  in_order = c.requires.in_order;
  few = omega (arith, c.new-bytes.ensures.len);
  taken = rw c.new-bytes.ensures.items (none_taken (g.D.Depot.files (depot_of c.args.feed.now)) (name_of c.args.feed.now) (place_of c.args.feed.now) c.requires.place);
  held = λ lt. absurd (omega (arith, lt, c.new-bytes.ensures.len));
}

pub returns-in_default-clause-failed : goal.returns-in_default-clause-failed
returns-in_default-clause-failed g c = λ failed.
    let inv = c.pieces.invariant in
    ReadFailed-then g.D.Depot _ _ _ _ inv.only_reads inv.unblamed
    (subst (λ (n : List ℕ). ReadFailed g.D.Depot n (depot_of c.pieces.feed) (depot_of c.refill.new.self)) inv.name c.in_default.ensures.cause)

pub returns-then-is_empty-clause-bytes : goal.returns-then-is_empty-clause-bytes
returns-then-is_empty-clause-bytes g c =
    let inv = c.pieces.invariant in
    let told = g.D.Depot.files (depot_of c.args.feed.now) in
    let name = name_of c.args.feed.now in
    let w = c.buffered-ready.result.now in
    let none : length w ≡ 0 = eqb-true (length w) 0 (sym c.is_empty.ensures ∙ c.if-is_empty.true) in
    let offers : Offers told name (place_of c.pieces.feed) w =
    offers_there told _ name _ w _ _ inv.only_reads.same_files inv.name c.buffered-ready.ensures.value (c.in-Ok.ensures.ok inv.in_order) in
    taken-all told name c.pieces.bytes.items (place_of c.pieces.feed) (c.args.limit + 1) inv.taken
    (subst (λ (l : List ℕ). Offers told name (place_of c.pieces.feed) l) (nil_from_length w none) offers)
    (omega (arith, inv.taken.place, c.pieces.bytes.small, c.pieces.bytes.ok)) (omega (arith, inv.taken.place, inv.few, c.pieces.bytes.ok))

pub pieces-preserved : goal.pieces-preserved
pieces-preserved g c =
    let inv = c.pieces.invariant in
    let e = c.refill.ensures in
    let t = c.take.ensures in
    let told = g.D.Depot.files (depot_of c.args.feed.now) in
    let name = name_of c.args.feed.now in
    let w = c.buffered-ready.result.now in
    let offers : Offers told name (place_of c.pieces.feed) w =
    offers_there told _ name _ w _ _ inv.only_reads.same_files inv.name c.buffered-ready.ensures.value (c.in-Ok.ensures.ok inv.in_order) in
    let some : 0 < length w = positive (length w) (eqb-false (length w) 0 (sym c.is_empty.ensures ∙ c.if-is_empty.false)) in
    let n : ℕ = c.min-count.result + 1 in
    let le : n ≤ length w = omega (arith, c.min-count.ensures, some) in
    let is : place_of c.take.new.self ≡ place_of c.pieces.feed + n = omega (arith, t.at, e.at) in
    let more = taken-next told name c.pieces.bytes.items c.extend_from_slice.new.self.items w (place_of c.pieces.feed) n (place_of c.take.new.self) inv.taken offers le is
    c.in-Ok-extend_from_slice.ensures.items in
    record {
      same_reference = t.same_reference ∙ e.same_reference ∙ inv.same_reference;
      name = t.name ∙ e.name ∙ inv.name;
      only_reads = rw t.depot (record {
        later = omega (arith, e.only_reads.later, inv.only_reads.later);
        same_files = e.only_reads.same_files ∙ inv.only_reads.same_files;
        same_writes = e.only_reads.same_writes ∙ inv.only_reads.same_writes;
      });
      unblamed = ap g.D.Depot.failed_reads t.depot ∙ c.in-Ok.ensures.unblamed ∙ inv.unblamed;
      in_order = t.in_order (e.in_order inv.in_order);
      few = omega (arith, c.in-Ok-extend_from_slice.ensures.len, c.min-count.ensures, c.len-in-pieces.ensures, c.len.ensures, c.pieces-test.true, le);
      taken = more.0;
      held = λ lt. more.1;
    }
