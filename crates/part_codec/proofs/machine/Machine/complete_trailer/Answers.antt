use Rattle.std.proofs.Common.{◌≡◌, drop, take, Err, refl, sym, ap, subst, ◌∙◌}
use Rattle.sha2.specs.Sha256.{sha256}
use Rattle.octets_core.specs.Reading.{fault_at}
use Rattle.octets_core.specs.declared.fault.LayoutFault.{LayoutFault}
use Rattle.part_codec.specs.declared.fields.Open.{Open}
use Rattle.part_codec.specs.declared.fields.Open.TheVariants as opens
use Rattle.part_codec.specs.Remaining.{Seen}
use Rattle.part_codec.specs.Scanning.{Stands}
use Rattle.part_codec.specs.Stepping.{name_of, wrong_of, passes_last, seen_after, open_after, settled, AreLimits}
use Rattle.part_codec.proofs.MachineStands.{field-fails, moved-of}
use Rattle.part_codec.proofs.machine.Machine.complete_trailer.Goals as goal

pub open_next-requires : goal.open_next-requires
open_next-requires c =
    let m = c.args.self.now in
    record {
      goes = λ done. let clash : opens.Trailer ≡ opens.Done = sym c.requires.last ∙ done in cc;
      passed = c.requires.passed;
      len = c.requires.len;
      limits = subst (λ (q : Open). AreLimits q c.args.last.now) (sym c.requires.last) tt;
    }

pub returns-then-not-is_digest-clause-err : goal.returns-then-not-is_digest-clause-err
returns-then-not-is_digest-clause-err c = λ s b x o w h.
    let m = c.args.self.now in
    field-fails m s c.args.last.now b x o w (λ done. let clash : opens.Trailer ≡ opens.Done = sym c.requires.last ∙ done in cc)
    (ap (λ (q : Open). passes_last q m.kept (sha256 (take m.at b)) c.args.last.now) c.requires.last ∙ sym (c.is_digest.ensures _ h) ∙ c.if-not-is_digest.true)
    ∙ ap (λ (q : Open). Err (fault_at (wrong_of q) (name_of m.field) m.at)) c.requires.last ∙ ap (λ (e : LayoutFault). Err e) (sym c.fault.ensures)

pub returns-clause-ok : goal.returns-clause-ok
returns-clause-ok c = λ s b o w h.
    let m = c.args.self.now in
    subst (λ (q : Seen). Stands c.open_next.new.self q b) (ap (λ (q : Open). seen_after q m.kept s (drop m.at b)) c.requires.last)
    (c.open_next.ensures.ok s b o w
    (ap (λ (q : Open). passes_last q m.kept (sha256 (take m.at b)) c.args.last.now) c.requires.last ∙ sym (c.is_digest.ensures _ h) ∙ c.if-not-is_digest.false))

pub returns-clause-moved : goal.returns-clause-moved
returns-clause-moved c = λ s b o w h.
    let m = c.args.self.now in
    let n = c.open_next.new.self in
    let done : n.field ≡ opens.Done = c.open_next.ensures.next ∙ ap (λ (q : Open). open_after q n.kept) c.requires.last in
    let p = c.open_next.ensures.moved s b o w
    (ap (λ (q : Open). passes_last q m.kept (sha256 (take m.at b)) c.args.last.now) c.requires.last ∙ sym (c.is_digest.ensures _ h) ∙ c.if-not-is_digest.false) in
    moved-of m n n b p c.open_next.ensures.next (done ∙ sym (ap settled done)) refl refl

pub returns-clause-done : goal.returns-clause-done
returns-clause-done c = c.open_next.ensures.next ∙ ap (λ (q : Open). open_after q c.open_next.new.self.kept) c.requires.last
