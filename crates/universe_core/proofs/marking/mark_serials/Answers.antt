use Rattle.std.specs.Str.{bytes_eq}
use Rattle.std.proofs.Common.{◌∙◌, take, ◌||◌, ◌&&◌, ap, sym, arith}
use Rattle.std.proofs.lemmas.List.{length-map}
use Rattle.ident_core.specs.declared.identity.Identity.{Identity}
use Rattle.ident_core.specs.Sets.{has_key}
use Rattle.ident_core.proofs.Keyed.{get_map}
use Rattle.ident_core.proofs.Marks.{marks_step}
use Rattle.universe_core.specs.Marking.{listed_in}
use Rattle.ledger_core.specs.LedgerFields.{ids}
use Rattle.universe_core.specs.declared.listing.Listed.{Listed}
use Rattle.universe_core.proofs.marking.mark_serials.Goals as goal

pub loop-one-preserved : goal.loop-one-preserved
loop-one-preserved c = λ p e.
    let i = c.loop-one.one-index in
    let ls = c.args.listed.now in
    let n = length-map ls (λ (l : Listed). l.serial.now) in
    c.mark_serial-near.ensures (λ (x : Identity). p x || (bytes_eq x.issuer c.args.issuer.now && has_key (take i (listed_in ls)) x.serial)) (c.loop-one.invariant p e)
    ∙ marks_step p c.args.issuer.now (listed_in ls) i c.one-item.result.serial.now (ids c.args.members.now)
    (let t = c.loop-one-test.true in omega arith)
    (ap (λ (l : Listed). l.serial.now) c.one-item.is ∙ sym (get_map (λ (l : Listed). l.serial.now) ls i c.one-item.result))
