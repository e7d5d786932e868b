use Rattle.std.specs.List.{list_any}
use Rattle.std.proofs.Common.{[], ◌∙◌, Bool, ◌&&◌, ap, sym, take}
use Rattle.std.proofs.lemmas.List.Elements.{All-take}
use Rattle.ident_core.specs.Coverage.{covers}
use Rattle.ident_core.specs.Sets.{has_key}
use Rattle.ledger_core.specs.declared.fields.LedgerPart.{LedgerPart}
use Rattle.universe_core.specs.Judging.{IsSearchable}
use Rattle.universe_core.proofs.Members.{any_parts}
use Rattle.universe_core.proofs.Searchable.{first_few}
use Rattle.universe_core.proofs.lateness.is_late.Goals as goal

pub some_lacks-requires : goal.some_lacks-requires
some_lacks-requires c = All-take IsSearchable c.min.result c.args.parts.now c.requires

pub returns : goal.returns
returns c =
    let lacks : LedgerPart → Bool = λ p. covers p.ranges.items c.args.sighting.now && has_key p.issuers.items c.args.issuer.now in
    c.some_lacks.ensures ∙ ap (λ n. list_any lacks (take n c.args.parts.now)) c.min.ensures
    ∙ ap (list_any lacks) (first_few c.args.birth c.args.parts.now)
    ∙ sym (any_parts (record { issuer = c.args.issuer.now; serial = [] }) c.args.sighting.now c.args.birth c.args.parts.now)
