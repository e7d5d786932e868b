use Rattle.std.proofs.Common.{◌∷◌, [], subst}
use Rattle.card_core.proofs.Verdicts.{IsAsked, asked-none}
use Rattle.store_core.proofs.Verdicts.{asked-more, asked-all}
use Rattle.store_core.proofs.asking.counted_verdict.Goals as goal

pub loop-sealed-init : goal.loop-sealed-init
loop-sealed-init g c = asked-none c.args.id.now c.args.sightings.now c.args.probes.now c.args.words.now

pub loop-sealed-preserved : goal.loop-sealed-preserved
loop-sealed-preserved g c =
    let e = c.verdict-said.ensures in
    let one : IsAsked c.args.id.now c.args.sightings.now (c.part.result.now ∷ []) c.verdict-said.result c.loop-sealed.probes
    c.verdict-said.new.probes c.loop-sealed.words c.verdict-said.new.words
    = record { value = e.value; more_probes = e.more_probes; few_probes = e.few_probes; more_words = e.more_words; few_words = e.few_words } in
    rw c.joined_with-verdict.ensures
    (asked-more c.args.id.now c.args.sightings.now c.args.parts.now c.loop-sealed.sealed-index c.sealed-item.result c.loop-sealed.verdict
    c.verdict-said.result c.args.probes.now c.loop-sealed.probes
    c.verdict-said.new.probes c.args.words.now c.loop-sealed.words c.verdict-said.new.words c.loop-sealed-test.true c.sealed-item.is
    c.loop-sealed.invariant (subst (λ p. IsAsked c.args.id.now c.args.sightings.now (p ∷ []) c.verdict-said.result c.loop-sealed.probes
    c.verdict-said.new.probes c.loop-sealed.words c.verdict-said.new.words) c.part.ensures one))

pub returns : goal.returns
returns g c =
    let all = asked-all c.args.id.now c.args.sightings.now c.args.parts.now c.loop-sealed.sealed-index c.loop-sealed.verdict c.args.probes.now c.loop-sealed.probes c.args.words.now c.loop-sealed.words
    c.loop-sealed-test.false c.loop-sealed.invariant in
    record { value = all.value; more_probes = all.more_probes; few_probes = all.few_probes; more_words = all.more_words; few_words = all.few_words }
