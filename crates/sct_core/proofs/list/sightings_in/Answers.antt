use Rattle.std.proofs.Common.{List, ap, sym, ◌∙◌, arith}
use Rattle.octets_core.specs.Walk.{all_of}
use Rattle.ident_core.specs.declared.range.Sighting.{Sighting}
use Rattle.sct_core.specs.Timestamps.{timestamp}
use Rattle.sct_core.proofs.ListLaws.{continued, shorter, bad, passes, puts, overflows, end-many, end-none, end-some}
use Rattle.sct_core.proofs.list.sightings_in.Goals as goal

pub returns-in_default : goal.returns-in_default
returns-in_default c = bad c.loop-rest.kept c.loop-rest.many c.loop-rest.rest.now (omega arith) c.in_default.ensures ∙ c.loop-rest.invariant

pub loop-rest-smaller-then-is_full : goal.loop-rest-smaller-then-is_full
loop-rest-smaller-then-is_full c = shorter c.loop-rest.rest.now c.in-Some.after.now c.in-Some.found c.in-Some.ensures

pub loop-rest-preserved-then-is_full : goal.loop-rest-preserved-then-is_full
loop-rest-preserved-then-is_full c =
    overflows c.loop-rest.kept c.loop-rest.many c.loop-rest.rest.now c.in-Some.after.now c.in-Some.found c.in-Some-found.sighting c.in-Some.ensures c.in-Some-found.is
    (sym c.is_full.ensures.value ∙ c.if-is_full.true)
    ∙ c.loop-rest.invariant

pub loop-rest-smaller-else-is_full : goal.loop-rest-smaller-else-is_full
loop-rest-smaller-else-is_full c = shorter c.loop-rest.rest.now c.in-Some.after.now c.in-Some.found c.in-Some.ensures

pub loop-rest-preserved-else-is_full : goal.loop-rest-preserved-else-is_full
loop-rest-preserved-else-is_full c =
    ap (λ (have : List Sighting). continued have c.loop-rest.many (all_of timestamp c.in-Some.after.now)) c.push.ensures
    ∙ puts c.loop-rest.kept c.loop-rest.many c.loop-rest.rest.now c.in-Some.after.now c.in-Some.found c.in-Some-found.sighting c.in-Some.ensures c.in-Some-found.is
    ∙ c.loop-rest.invariant

pub loop-rest-smaller : goal.loop-rest-smaller
loop-rest-smaller c = shorter c.loop-rest.rest.now c.in-Some.after.now c.in-Some.found c.in-Some.ensures

pub loop-rest-preserved : goal.loop-rest-preserved
loop-rest-preserved c =
    passes c.loop-rest.kept c.loop-rest.many c.loop-rest.rest.now c.in-Some.after.now c.in-Some.found c.in-Some.ensures c.in_default-found.is
    ∙ c.loop-rest.invariant

pub returns-then-many : goal.returns-then-many
returns-then-many c = end-many c.loop-rest.kept c.loop-rest.many c.loop-rest.rest.now (omega arith) c.if-many.true ∙ c.loop-rest.invariant

pub returns-then-is_empty : goal.returns-then-is_empty
returns-then-is_empty c =
    end-none c.loop-rest.kept c.loop-rest.many c.loop-rest.rest.now (omega arith) c.if-many.false (sym c.is_empty.ensures.value ∙ c.if-is_empty.true)
    ∙ c.loop-rest.invariant

pub returns : goal.returns
returns c =
    end-some c.loop-rest.kept c.new.result c.loop-rest.many c.loop-rest.rest.now c.new.ensures (omega arith) c.if-many.false (sym c.is_empty.ensures.value ∙ c.if-is_empty.false) c.is_empty.ensures.few
    ∙ c.loop-rest.invariant
