use Rattle.std.proofs.Common.{◌≡◌, arith, ap, subst, ◌∙◌, map, length, length-append, [], ◌∷◌, refl}
use Rattle.ident_core.specs.declared.identity.Identity.{Identity}
use Rattle.card_core.specs.Verdict.{verdict}
use Rattle.card_core.proofs.Verdicts.{IsAsked}
use Rattle.view_core.proofs.Views.{none_asked, next_asked, all_asked}
use Rattle.view_core.proofs.Walks.{opened_words}
use Rattle.view_core.proofs.view.store_says.Goals as goal

pub loop-part-init : goal.loop-part-init
loop-part-init g c = record {
  asked = λ parts opened.
      let split = c.split_index.ensures _ _ _ (opened_words c.args.index.now parts opened.index) in
      none_asked c.args.store.now c.args.index.now c.split_index.result.0.now c.split_index.result.1.now c.args.id.now (map g.S.Seen.sighting c.args.sightings.now) parts
      c.args.probes.now c.args.words.now (λ i. omega (arith, c.type_inv.store i)) opened split.0 split.1;
  draws = c.new-draws.ensures;
  probes = omega arith;
  words = omega arith;
}

pub loop-part-preserved : goal.loop-part-preserved
loop-part-preserved g c = record {
  asked = λ parts opened.
      let n = next_asked c.args.store.now c.split_index.result.1.now c.loop-part.rest.now c.in-Some.others.now c.args.id.now (map g.S.Seen.sighting c.args.sightings.now) parts
      c.loop-part.verdict c.args.probes.now c.loop-part.probes c.args.words.now c.loop-part.words c.in-Some.part (c.loop-part.invariant.asked parts opened)
      (record { are = c.in-Some.ensures.some; alike = c.in-Some.ensures.alike }) in
      let e = c.part_says-said.ensures in
      let value = subst (λ (x : Identity). c.part_says-said.result ≡ verdict (n.next.part ∷ []) x (map g.S.Seen.sighting c.args.sightings.now)) c.loop-part.invariant.draws (e.value n.next.part n.is) in
      let one : IsAsked c.args.id.now (map g.S.Seen.sighting c.args.sightings.now) (n.next.part ∷ []) c.part_says-said.result c.loop-part.probes
      c.part_says-said.new.probes c.loop-part.words c.part_says-said.new.words
      = record { value = value; more_probes = e.more_probes; few_probes = e.few_probes n.next.part n.is; more_words = e.more_words; few_words = e.few_words n.next.part n.is } in
      rw c.joined_with-verdict.ensures (n.then c.part_says-said.result c.part_says-said.new.probes c.part_says-said.new.words one);
  draws = c.part_says-said.ensures.same ∙ c.loop-part.invariant.draws;
  probes = omega (arith, c.loop-part.invariant.probes, c.part_says-said.ensures.more_probes);
  words = omega (arith, c.loop-part.invariant.words, c.part_says-said.ensures.more_words);
}

pub returns-clause-value : goal.returns-clause-value
returns-clause-value g c = λ parts opened.
    let a = all_asked _ _ _ _ _ _ _ _ _ _ _ (c.loop-part.invariant.asked parts opened) (c.in_default.ensures.none refl) in a.value

pub returns-clause-few_probes : goal.returns-clause-few_probes
returns-clause-few_probes g c = λ parts opened.
    let a = all_asked _ _ _ _ _ _ _ _ _ _ _ (c.loop-part.invariant.asked parts opened) (c.in_default.ensures.none refl) in a.few_probes

pub returns-clause-few_words : goal.returns-clause-few_words
returns-clause-few_words g c = λ parts opened.
    let a = all_asked _ _ _ _ _ _ _ _ _ _ _ (c.loop-part.invariant.asked parts opened) (c.in_default.ensures.none refl) in a.few_words
