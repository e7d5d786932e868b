use Rattle.std.proofs.Common.{◌-◌, length, map, sym, subst, true, false, Some}
use Rattle.ident_core.specs.declared.identity.Identity.{Identity}
use Rattle.card_core.specs.Consulting.{IsPlaceOf}
use Rattle.view_core.proofs.Parts.{probes_of_one, part_says_so}
use Rattle.view_core.proofs.PlaceSearch.{as_many}
use Rattle.view_core.proofs.part.part_says.Goals as goal

pub returns-in_default-clause-few_probes : goal.returns-in_default-clause-few_probes
returns-in_default-clause-few_probes g c = λ p is.
    probes_of_one (map g.S.Seen.sighting c.args.sightings.now) p (c.place_of.new.probes - c.args.probes.now) (length c.args.part.now.blocks.now)
    (sym (c.if-not-cover_some_at.ensures p.head.ranges is.ranges)) (as_many c.args.bytes.now is.blocks_begin c.args.part.now.blocks.now p.blocks is.blocks) c.place_of.ensures.few

pub returns-then-block_says-clause-value : goal.returns-then-block_says-clause-value
returns-then-block_says-clause-value g c = λ p is.
    part_says_so c.args.bytes.now c.args.shards.now c.args.part.now p c.args.draws.now (map g.S.Seen.sighting c.args.sightings.now) c.in-Some.place true is
    (sym (c.if-not-cover_some_at.ensures p.head.ranges is.ranges)) (subst (λ (x : Identity). IsPlaceOf x.issuer p.blocks (Some c.in-Some.place)) c.id.ensures
    (c.in-Some.ensures.place is.blocks_begin p.blocks is.blocks is.buckets)) c.if-block_says.ensures.value

pub returns-then-block_says-clause-few_probes : goal.returns-then-block_says-clause-few_probes
returns-then-block_says-clause-few_probes g c = λ p is.
    probes_of_one (map g.S.Seen.sighting c.args.sightings.now) p (c.place_of.new.probes - c.args.probes.now) (length c.args.part.now.blocks.now)
    (sym (c.if-not-cover_some_at.ensures p.head.ranges is.ranges)) (as_many c.args.bytes.now is.blocks_begin c.args.part.now.blocks.now p.blocks is.blocks) c.place_of.ensures.few

pub returns-else-block_says-clause-value : goal.returns-else-block_says-clause-value
returns-else-block_says-clause-value g c = λ p is.
    part_says_so c.args.bytes.now c.args.shards.now c.args.part.now p c.args.draws.now (map g.S.Seen.sighting c.args.sightings.now) c.in-Some.place false is
    (sym (c.if-not-cover_some_at.ensures p.head.ranges is.ranges)) (subst (λ (x : Identity). IsPlaceOf x.issuer p.blocks (Some c.in-Some.place)) c.id.ensures
    (c.in-Some.ensures.place is.blocks_begin p.blocks is.blocks is.buckets)) c.if-block_says.ensures.value

pub returns-else-block_says-clause-few_probes : goal.returns-else-block_says-clause-few_probes
returns-else-block_says-clause-few_probes g c = λ p is.
    probes_of_one (map g.S.Seen.sighting c.args.sightings.now) p (c.place_of.new.probes - c.args.probes.now) (length c.args.part.now.blocks.now)
    (sym (c.if-not-cover_some_at.ensures p.head.ranges is.ranges)) (as_many c.args.bytes.now is.blocks_begin c.args.part.now.blocks.now p.blocks is.blocks) c.place_of.ensures.few
