use Rattle.std.proofs.Common.{◌≡◌, ◌∙◌, true, false, sym, ap, arith}
use Rattle.std.specs.Option.{option_map}
use Rattle.std.specs.Str.{bytes_eq}
use Rattle.std.proofs.lemmas.Bool.{not-true, not-false}
use Rattle.store_core.specs.declared.chain.Refusal.TheVariants as refusals
use Rattle.view_core.proofs.Chains.{reads_delta, broken_parent, broken_epoch, broken_ranges}
use Rattle.view_core.proofs.scan.broken_delta.Goals as goal

pub returns-then-ne : goal.returns-then-ne
returns-then-ne c = λ h g of_held of_given kind.
    let r = reads_delta c.args.held_bytes.now c.args.given_bytes.now c.args.held.now c.args.given.now h g c.key_at-parent.result of_held of_given c.key_at-parent.ensures in
    let other : bytes_eq h.trailer g.part.head.parent ≡ false = rw (← r.trailer, ← r.parent_is) (not-true _ (sym c.if-ne.ensures)) in
    rw (r.trailer, r.parent_is) (sym (broken_parent h g kind other))

pub returns-then-given-held : goal.returns-then-given-held
returns-then-given-held c = λ h g of_held of_given kind.
    let r = reads_delta c.args.held_bytes.now c.args.given_bytes.now c.args.held.now c.args.given.now h g c.key_at-parent.result of_held of_given c.key_at-parent.ensures in
    let same : bytes_eq h.trailer g.part.head.parent ≡ true = rw (← r.trailer, ← r.parent_is) (not-false _ (sym c.if-ne.ensures)) in
    rw (r.before, r.now) (sym (broken_epoch h g kind same (omega (arith, r.before, r.now, c.if-given-held.true))))

pub returns-in-Some : goal.returns-in-Some
returns-in-Some c = λ h g of_held of_given kind.
    let r = reads_delta c.args.held_bytes.now c.args.given_bytes.now c.args.held.now c.args.given.now h g c.key_at-parent.result of_held of_given c.key_at-parent.ensures in
    let same : bytes_eq h.trailer g.part.head.parent ≡ true = rw (← r.trailer, ← r.parent_is) (not-false _ (sym c.if-ne.ensures)) in
    let all = broken_ranges h g kind same (omega (arith, r.before, r.now, c.if-given-held.false)) in
    sym (all ∙ ap (option_map refusals.CoverageShrinks) (sym (c.log_outside.ensures h g of_held of_given) ∙ c.in-Some.is))

pub returns-in-None : goal.returns-in-None
returns-in-None c = λ h g of_held of_given kind.
    let r = reads_delta c.args.held_bytes.now c.args.given_bytes.now c.args.held.now c.args.given.now h g c.key_at-parent.result of_held of_given c.key_at-parent.ensures in
    let same : bytes_eq h.trailer g.part.head.parent ≡ true = rw (← r.trailer, ← r.parent_is) (not-false _ (sym c.if-ne.ensures)) in
    let all = broken_ranges h g kind same (omega (arith, r.before, r.now, c.if-given-held.false)) in
    sym (all ∙ ap (option_map refusals.CoverageShrinks) (sym (c.log_outside.ensures h g of_held of_given) ∙ c.in-None.is))
