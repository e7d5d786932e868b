use Rattle.std.proofs.Common.{◌≡◌, ℕ, List, [], length, refl, sym, ap, subst, ◌∙◌, arith}
use Rattle.std.proofs.lemmas.Bool.{eqb-true}
use Rattle.std.proofs.lemmas.List.{nil_from_length}
use Rattle.outside_core.proofs.Effects.{ReadFailed-then}
use Rattle.outside_core.specs.Feeding.{Offers}
use Rattle.outside_core.specs.Standing.{depot_of, name_of, place_of}
use Rattle.outside_core.specs.Reads.{ReadFailed, WhichFailed}
use Rattle.input_core.proofs.Taken.{none_taken, offers_there}
use Rattle.input_core.proofs.FedFiles.{more-taken, fed-unread, fed-front, fed-behind, fed-whole}
use Rattle.input_core.proofs.fed.fed_to.Goals as goal

pub pieces-init : goal.pieces-init
pieces-init g c = record {
  same_reference = refl;
  name = refl;
  only_reads = record { later = omega arith; same_files = refl; same_writes = refl };
  unblamed = refl;
  in_order = c.requires.in_order;
  taken = record {
    bytes = [];
    stands = c.requires.fresh;
    taken = none_taken (g.D.Depot.files (depot_of c.args.feed.now)) (name_of c.args.feed.now) (place_of c.args.feed.now) c.requires.place;
  };
}

pub returns-in_default-clause-fed : goal.returns-in_default-clause-fed
returns-in_default-clause-fed g c =
    let inv = c.pieces.invariant in
    fed-unread (g.D.Depot.files (depot_of c.args.feed.now)) (WhichFailed g.D.Depot (depot_of c.args.feed.now) (depot_of c.refill.new.self)) (name_of c.args.feed.now) g.F.Fed.reads
    (ReadFailed-then g.D.Depot _ _ _ _ inv.only_reads inv.unblamed
    (subst (λ (n : List ℕ). ReadFailed g.D.Depot n (depot_of c.pieces.feed) (depot_of c.refill.new.self)) inv.name c.in_default.ensures.cause))

pub returns-then-is_empty-clause-fed : goal.returns-then-is_empty-clause-fed
returns-then-is_empty-clause-fed g c =
    let inv = c.pieces.invariant in
    let told = g.D.Depot.files (depot_of c.args.feed.now) in
    let name = name_of c.args.feed.now in
    let w = c.buffered-piece.result.now in
    let offers : Offers told name (place_of c.pieces.feed) w =
    offers_there told _ name _ w _ _ inv.only_reads.same_files inv.name c.buffered-piece.ensures.value (c.in-Ok.ensures.ok inv.in_order) in
    let none : length w ≡ 0 = eqb-true (length w) 0 (sym c.is_empty.ensures ∙ c.if-is_empty.true) in
    let ended = subst (λ (l : List ℕ). Offers told name (place_of c.pieces.feed) l) (nil_from_length w none) offers in
    let place = inv.taken.taken.place ∙ sym (c.at.ensures ∙ c.refill.ensures.at) in
    fed-whole told (WhichFailed g.D.Depot (depot_of c.args.feed.now) (depot_of c.refill.new.self)) name g.F.Fed.reads (g.F.Fed.stands c.pieces.to) (place_of c.pieces.feed) c.made_at.result inv.taken ended
    (c.in-Ok.ensures.unblamed ∙ inv.unblamed) (c.made_at.ensures.few inv.taken.bytes inv.taken.stands) (c.made_at.ensures.reads inv.taken.bytes inv.taken.stands place)

pub returns-in-Err-clause-fed : goal.returns-in-Err-clause-fed
returns-in-Err-clause-fed g c =
    let inv = c.pieces.invariant in
    let told = g.D.Depot.files (depot_of c.args.feed.now) in
    let name = name_of c.args.feed.now in
    let w = c.buffered-piece.result.now in
    let offers : Offers told name (place_of c.pieces.feed) w =
    offers_there told _ name _ w _ _ inv.only_reads.same_files inv.name c.buffered-piece.ensures.value (c.in-Ok.ensures.ok inv.in_order) in
    fed-front told (WhichFailed g.D.Depot (depot_of c.args.feed.now) (depot_of c.refill.new.self)) name g.F.Fed.reads (g.F.Fed.stands c.pieces.to) w (place_of c.pieces.feed) _ inv.taken offers
    (c.in-Ok.ensures.unblamed ∙ inv.unblamed) (λ x. c.in-Err.ensures.err inv.taken.bytes x inv.taken.stands)

pub returns-then-taken-len-clause-fed : goal.returns-then-taken-len-clause-fed
returns-then-taken-len-clause-fed g c =
    let inv = c.pieces.invariant in
    let told = g.D.Depot.files (depot_of c.args.feed.now) in
    let name = name_of c.args.feed.now in
    let w = c.buffered-piece.result.now in
    let offers : Offers told name (place_of c.pieces.feed) w =
    offers_there told _ name _ w _ _ inv.only_reads.same_files inv.name c.buffered-piece.ensures.value (c.in-Ok.ensures.ok inv.in_order) in
    fed-behind told (WhichFailed g.D.Depot (depot_of c.args.feed.now) (depot_of c.refill.new.self)) name g.F.Fed.reads (g.F.Fed.stands c.pieces.to) w (place_of c.pieces.feed) c.in-Ok-put.taken _ inv.taken offers
    (c.in-Ok.ensures.unblamed ∙ inv.unblamed) (omega (arith, c.at-then-taken-len.ensures, c.refill.ensures.at))
    (λ x. c.in-Ok-put.ensures.less c.if-taken-len.true inv.taken.bytes x inv.taken.stands)

pub pieces-preserved : goal.pieces-preserved
pieces-preserved g c =
    let inv = c.pieces.invariant in
    let e = c.refill.ensures in
    let t = c.take.ensures in
    let told = g.D.Depot.files (depot_of c.args.feed.now) in
    let name = name_of c.args.feed.now in
    let w = c.buffered-piece.result.now in
    let offers : Offers told name (place_of c.pieces.feed) w =
    offers_there told _ name _ w _ _ inv.only_reads.same_files inv.name c.buffered-piece.ensures.value (c.in-Ok.ensures.ok inv.in_order) in
    record {
      same_reference = t.same_reference ∙ e.same_reference ∙ inv.same_reference;
      name = t.name ∙ e.name ∙ inv.name;
      only_reads = rw t.depot (record {
        later = omega (arith, e.only_reads.later, inv.only_reads.later);
        same_files = e.only_reads.same_files ∙ inv.only_reads.same_files;
        same_writes = e.only_reads.same_writes ∙ inv.only_reads.same_writes;
      });
      unblamed = ap g.D.Depot.failed_reads t.depot ∙ c.in-Ok.ensures.unblamed ∙ inv.unblamed;
      in_order = t.in_order (e.in_order inv.in_order);
      taken = more-taken told name w (g.F.Fed.stands c.pieces.to) (g.F.Fed.stands c.put.new.self) (place_of c.pieces.feed) c.in-Ok-put.taken (place_of c.take.new.self) inv.taken offers
          c.in-Ok-put.ensures.count (omega (arith, t.at, e.at)) c.in-Ok-put.ensures.ok;
    }
