use Rattle.std.proofs.Common.{ℕ, List, ◌++◌, take, sym, subst, ◌∙◌, rules}
use Rattle.std.proofs.Math.Logic.{∥∥₁_map}
use Rattle.std.proofs.lemmas.List.{append-nil}
use Rattle.part_codec.specs.Scanning.{Hashes}
use Rattle.part_codec.specs.Collecting.{ReadsTo}
use Rattle.part_codec.proofs.MachineStands.{hashed-on}
use Rattle.part_codec.proofs.walk.read_front.Goals as goal

pub read_fields-requires : goal.read_fields-requires
read_fields-requires g c = record {
  front = search rules;
  read = ∥∥₁_map c.requires.read (λ r. (r.0, r.1));
}

pub returns-then-not-is_front-clause-ok : goal.returns-then-not-is_front-clause-ok
returns-then-not-is_front-clause-ok g c = record {
  reads = λ b read h. (
    subst (λ (l : List ℕ). ReadsTo g.C.Collector.holds c.args.machine.now c.args.to.now l) (sym (append-nil b)) read,
    subst (λ (l : List ℕ). Hashes c.args.machine.now c.args.hasher.now l) (sym (append-nil b)) h,
  );
  read = c.requires.read;
  partial = c.requires.partial;
  count = search rules;
}

pub returns-clause-ok : goal.returns-clause-ok
returns-clause-ok g c =
    let f = c.in_ok-taken.ensures.ok in
    let m = c.args.machine.now in
    let n = c.read_fields.new.machine in
    let t : List ℕ = take c.in_ok-taken.taken c.args.piece.now in
    let hashed : (b : List ℕ) → ReadsTo g.C.Collector.holds m c.args.to.now b → Hashes m c.args.hasher.now b → Hashes n c.update.new.self (b ++ t) = λ b read h.
    hashed-on m n c.args.hasher.now c.update.new.self b t
    (sym c.is_front.ensures ∙ c.if-not-is_front.false) (f.reads b read).front c.update.ensures h in
    record {
      reads = λ b read h. ((f.reads b read).reads, hashed b read h);
      read = ∥∥₁_map c.requires.read (λ r. (_, (f.reads r.0 r.1).reads, hashed r.0 r.1 r.2));
      partial = f.partial;
      count = f.count;
    }
